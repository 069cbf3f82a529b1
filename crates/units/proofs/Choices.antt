-- Laws of tests and choices: what each comes to, and what is known once it has come to that. Assumes nothing.
use Rattle.std.specs.Prelude.{if◌then◌else◌}
use mathlib.Core.Path.{◌≡◌, refl, sym, ap₂, ◌∙◌, subst}
use mathlib.Core.Logic.{◌≢◌}
use mathlib.Core.Bool.{Bool, true, false, false≢true}
use Rattle.std.specs.Prelude.{Option, None, Some}
use Prim.Native.Nat.{ℕ, zero, suc, ◌+◌, ◌≤◌, ◌<◌}
use native.Mathlib.Numerals.{add-one}
use native.Mathlib.Omega.{arith}
use lib.Dec.{eqb, ltb}
use borrow.Author.Tests.{eqb-true, eqb-false, ltb-true, ltb-false}
use Rattle.units.specs.Choice.{◌and◌, some_if, on_option, ◌or_else◌, some_of, first_of}

-- ---- what a test comes to

pub true≢false : {C : Type 0} {x : Bool} → x ≡ true → x ≡ false → C
true≢false {x = true} p q = absurd (false≢true (sym q))
true≢false {x = false} p q = absurd (false≢true p)

-- contraposed
pub untrue : (x y : Bool) → (x ≡ true → y ≡ true) → y ≡ false → x ≡ false
untrue true y h e = true≢false (h refl) e
untrue false y h e = refl

-- ---- and

module _ (a b : Bool) where
  pub and_both : a ≡ true → b ≡ true → a and b ≡ true
  and_both p q = cc

  pub and_left : a and b ≡ true → a ≡ true
  and_left e = go a e
    where
      go : (t : Bool) → t and b ≡ true → t ≡ true
      go true q = refl
      go false q = q

  pub and_right : a and b ≡ true → b ≡ true
  and_right e = go a e
    where
      go : (t : Bool) → t and b ≡ true → b ≡ true
      go true q = q
      go false q = absurd (false≢true (q))

  -- the first test holds, so the second decides
  pub and-rest : a ≡ true → a and b ≡ b
  and-rest e = rw e

  pub not_left : a ≡ false → a and b ≡ false
  not_left p = rw p

  pub not_right : b ≡ false → a and b ≡ false
  not_right p = go a
    where
      go : (t : Bool) → t and b ≡ false
      go true = p
      go false = refl

-- ---- if

module _ {A : Type 0} (b : Bool) (x y : A) where
  pub if-true : b ≡ true → (if b then x else y) ≡ x
  if-true e = rw e

  pub if-false : b ≡ false → (if b then x else y) ≡ y
  if-false e = rw e

pub if-case : {A C : Type 0} (b : Bool) (x y z : A) → (if b then x else y) ≡ z → (b ≡ true → x ≡ z → C) → (b ≡ false → y ≡ z → C) → C
if-case true x y z e f g = f refl e
if-case false x y z e f g = g refl e

-- a fact of a choice's value, from the fact of each branch
pub if-all : {A : Type 0} (C : A → Type 0) (b : Bool) (x y : A) → (b ≡ true → C x) → (b ≡ false → C y) → C (if b then x else y)
if-all C true x y f g = f refl
if-all C false x y f g = g refl

-- what is made of a choice's value is a choice of what is made of each branch
pub if-ap : {A B : Type 0} (f : A → B) (b : Bool) (x y : A) → f (if b then x else y) ≡ (if b then f x else f y)
if-ap f true x y = refl
if-ap f false x y = refl

-- ---- some_if

module _ {A : Type 0} (b : Bool) (a : A) where
  pub some-if : b ≡ true → some_if b a ≡ Some a
  some-if e = rw e

  pub none-if : b ≡ false → some_if b a ≡ None
  none-if e = rw e

pub None≢Some : {A C : Type 0} {a : A} → None ≡ Some a → C
None≢Some e = absurd (let z : ◌≡◌ {A = ℕ} 0 1 = cc in omega arith)

pub if_none : {A : Type 0} (b : Bool) (a : A) → some_if b a ≡ None → b ≡ false
if_none true a e = None≢Some (sym e)
if_none false a e = refl

pub if_some : {A : Type 0} (b : Bool) (a x : A) → some_if b a ≡ Some x → (b ≡ true) × (a ≡ x)
if_some true a x e = (refl, cc)
if_some false a x e = None≢Some e

-- ---- on_option

pub option-case : {A B C : Type 0} (o : Option A) (b : B) (f : A → B) (y : B) → on_option o b f ≡ y → (o ≡ None → b ≡ y → C)
    → ((a : A) → o ≡ Some a → f a ≡ y → C) → C
unfolding on_option
option-case None b f y e g h = g refl e
option-case (Some a) b f y e g h = h a refl e

pub option-all : {A B : Type 0} (C : B → Type 0) (o : Option A) (b : B) (f : A → B) → (o ≡ None → C b) → ((a : A) → o ≡ Some a → C (f a))
    → C (on_option o b f)
unfolding on_option
option-all C None b f g h = g refl
option-all C (Some a) b f g h = h a refl

-- ---- or_else

module _ {A : Type 0} (x y : Option A) where
  pub else-none : x ≡ None → (x or_else y) ≡ y
  unfolding ◌or_else◌
  else-none e = rw e

  pub else-some : (a : A) → x ≡ Some a → (x or_else y) ≡ Some a
  unfolding ◌or_else◌
  else-some a e = rw e

pub else-case : {A C : Type 0} (x y z : Option A) → (x or_else y) ≡ z → (x ≡ None → y ≡ z → C)
    → ((a : A) → x ≡ Some a → Some a ≡ z → C) → C
unfolding ◌or_else◌
else-case None y z e f g = f refl e
else-case (Some a) y z e f g = g a refl e

-- nothing is found in either
pub neither : {A : Type 0} (x y : Option A) → (x or_else y) ≡ None → (x ≡ None) × (y ≡ None)
unfolding ◌or_else◌
neither None y e = (refl, e)
neither (Some a) y e = None≢Some (sym e)

-- nothing to follow
pub else-end : {A : Type 0} (x : Option A) → (x or_else None) ≡ x
unfolding ◌or_else◌
else-end None = refl
else-end (Some a) = refl

-- one before two others
pub else-through : {A : Type 0} (x y z : Option A) → ((x or_else y) or_else z) ≡ (x or_else (y or_else z))
unfolding ◌or_else◌
else-through None y z = refl
else-through (Some a) y z = refl

-- ---- some of several

module _ (test : ℕ → Bool) where
  -- it holds at none of the first n, so at n it decides among one more
  pub some_next : (n : ℕ) → some_of test n ≡ false → some_of test (n + 1) ≡ test n
  unfolding some_of
  some_next n e = rw add-one (if-false _ _ _ e)

  pub some_at : (n : ℕ) → some_of test n ≡ true → (i : ℕ) × (i < n) × (test i ≡ true)
  unfolding some_of
  some_at zero e = true≢false e refl
  some_at (suc n) e =
      if-case _ _ _ _ e (λ q k. let (i, l, h) = some_at n q in (i, omega arith, h)) (λ q k. (n, omega arith, k))

  pub some-hit : (n i : ℕ) → i < n → test i ≡ true → some_of test n ≡ true
  unfolding some_of
  some-hit zero i l h = absurd (omega arith)
  some-hit (suc n) i l h = go (λ (m : i < n). some-hit n i m h) (eqb i n) refl
    where
      go : (i < n → some_of test n ≡ true) → (b : Bool) → eqb i n ≡ b → some_of test (suc n) ≡ true
      go below true q = let s : i ≡ n = eqb-true i n q in if-all (λ b. b ≡ true) (some_of test n) true (test n) (λ k. refl) (λ k. rw (← s) h)
      go below false q = let ne : i ≢ n = eqb-false i n q in if-true (some_of test n) true (test n) (below (omega arith))

pub some-eq : (f g : ℕ → Bool) (n : ℕ) → ((i : ℕ) → i < n → f i ≡ g i) → some_of f n ≡ some_of g n
unfolding some_of
some-eq f g zero h = refl
some-eq f g (suc n) h = ap₂ (λ a b. if a then true else b) (some-eq f g n (λ i l. h i (omega arith))) (h n (omega arith))

-- ---- the first of several

module _ {A : Type 0} (f : ℕ → Option A) where
  pub first_next : (n : ℕ) → first_of f n ≡ None → first_of f (n + 1) ≡ f n
  unfolding first_of
  first_next n e = rw add-one (else-none (first_of f n) (f n) e)

  -- a hit among the first m is the first hit among any n beyond: what a loop that is left at its first hit needs
  pub first_found : (n m : ℕ) (a : A) → m ≤ n → first_of f m ≡ Some a → first_of f n ≡ Some a
  unfolding first_of
  first_found zero m a l e = let q : m ≡ 0 = omega arith in subst (λ (k : ℕ). first_of f k ≡ Some a) q e
  first_found (suc n) m a l e = go (λ (k : m ≤ n). first_found n m a k e) (eqb m (suc n)) refl
    where
      go : (m ≤ n → first_of f n ≡ Some a) → (b : Bool) → eqb m (suc n) ≡ b → first_of f (suc n) ≡ Some a
      go below true q = subst (λ (k : ℕ). first_of f k ≡ Some a) (eqb-true m (suc n) q) e
      go below false q = let ne : m ≢ suc n = eqb-false m (suc n) q in else-some _ _ a (below (omega arith))

  -- nothing at the numbers before n, and a hit at n, among more
  pub first-hit : (n m : ℕ) (a : A) → n < m → first_of f n ≡ None → f n ≡ Some a → first_of f m ≡ Some a
  first-hit n m a l e q = first_found m (n + 1) a (omega arith) (first_next n e ∙ q)

  pub first-none : (n : ℕ) → first_of f n ≡ None → (i : ℕ) → i < n → f i ≡ None
  unfolding first_of
  first-none zero e i l = absurd (omega arith)
  first-none (suc n) e i l = let q = neither (first_of f n) (f n) e in last q.1 (λ (m : i < n). first-none n q.0 i m) (eqb i n) refl
    where
      last : f n ≡ None → (i < n → f i ≡ None) → (b : Bool) → eqb i n ≡ b → f i ≡ None
      last k below true r = let s : i ≡ n = eqb-true i n r in rw s k
      last k below false r = let ne : i ≢ n = eqb-false i n r in below (omega arith)

  pub first-all-none : (n : ℕ) → ((i : ℕ) → i < n → f i ≡ None) → first_of f n ≡ None
  unfolding first_of
  first-all-none zero h = refl
  first-all-none (suc n) h = else-none _ _ (first-all-none n (λ i l. h i (omega arith))) ∙ h n (omega arith)

  -- nothing is found among as many as there are: what a loop that was not left needs
  pub first-end : (n m : ℕ) → n ≤ m → m ≤ n → first_of f n ≡ None → first_of f m ≡ None
  first-end n m l k e = let q : m ≡ n = omega arith in rw q e

  -- nothing among the first n, nor at the others below m
  pub first_rest : (n m : ℕ) → first_of f n ≡ None → ((i : ℕ) → n ≤ i → i < m → f i ≡ None) → first_of f m ≡ None
  first_rest n m e h = first-all-none m (λ i l. go i l (ltb i n) refl)
    where
      go : (i : ℕ) → i < m → (b : Bool) → ltb i n ≡ b → f i ≡ None
      go i l true q = first-none n e i (ltb-true _ _ q)
      go i l false q = h i (ltb-false _ _ q) l

  -- what is found is found at some number
  pub first-at : (n : ℕ) (a : A) → first_of f n ≡ Some a → (i : ℕ) × (i < n) × (f i ≡ Some a)
  unfolding first_of
  first-at zero a e = None≢Some e
  first-at (suc n) a e =
      else-case _ _ _ e (λ q k. (n, omega arith, k)) (λ b q k. let (i, l, m) = first-at n a (q ∙ k) in (i, omega arith, m))

pub first-eq : {A : Type 0} (f g : ℕ → Option A) (n : ℕ) → ((i : ℕ) → i < n → f i ≡ g i) → first_of f n ≡ first_of g n
unfolding first_of
first-eq f g zero h = refl
first-eq f g (suc n) h = ap₂ ◌or_else◌ (first-eq f g n (λ i l. h i (omega arith))) (h n (omega arith))

-- parted after the first number
pub front-first : {A : Type 0} (f : ℕ → Option A) (n : ℕ) → first_of f (suc n) ≡ (f 0 or_else first_of (λ i. f (suc i)) n)
unfolding first_of ◌or_else◌
front-first f zero = sym (else-end (f 0))
front-first f (suc n) = ap₂ ◌or_else◌ (front-first f n) refl ∙ else-through (f 0) (first_of (λ i. f (suc i)) n) (f (suc n))

-- ---- what f makes of the one that is found

module _ {A B : Type 0} (f : A → B) where
  pub else-on : (x y : Option A)
      → on_option (x or_else y) None (λ a. Some (f a)) ≡ (on_option x None (λ a. Some (f a)) or_else on_option y None (λ a. Some (f a)))
  unfolding ◌or_else◌ on_option
  else-on None y = refl
  else-on (Some a) y = refl

  pub first_on : (g : ℕ → Option A) (h : ℕ → Option B) (n : ℕ) → ((i : ℕ) → h i ≡ on_option (g i) None (λ a. Some (f a)))
      → first_of h n ≡ on_option (first_of g n) None (λ a. Some (f a))
  unfolding first_of on_option
  first_on g h zero e = refl
  first_on g h (suc n) e = ap₂ ◌or_else◌ (first_on g h n e) (e n) ∙ sym (else-on (first_of g n) (g n))
