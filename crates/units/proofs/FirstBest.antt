-- Laws of the first member with the best key, for any list, any key, and the least and the greatest alike. Assumes nothing.
use mathlib.Core.Path.{◌≡◌, refl, sym, ap, ◌∙◌}
use mathlib.Core.Logic.{◌⊎◌, inl, inr}
use mathlib.Core.Bool.{Bool, true, false}
use mathlib.Core.List.Memᴰ
use mathlib.Core.List.{List, [], ◌∷◌, ◌++◌, Memᴰ}
use Prim.Native.Nat.{ℕ, min, max}
use native.Mathlib.Omega.{arith}
use borrow.Author.Tests.{ltb-true, ltb-false, lt-ltb, le-ltb}
use Rattle.units.specs.Extremes.{least, greatest, less, more, better_of, first_best}
use Rattle.units.proofs.Choices.{true≢false, if-true, if-false}

-- ---- what is asked of "better": a strict order in which any two different numbers compare

pub record Ranks (better : ℕ → ℕ → Bool) : Type 0 where
  pub one_way : (a b : ℕ) → better a b ≡ true → better b a ≡ false
  pub through : (a b c : ℕ) → better a b ≡ true → better b c ≡ true → better a c ≡ true
  pub not_through : (a b c : ℕ) → better a b ≡ false → better b c ≡ false → better a c ≡ false
  pub same : (a b : ℕ) → better a b ≡ false → better b a ≡ false → a ≡ b

pub less-ranks : Ranks less
less-ranks =
    record {
      one_way = λ a b h. let l = ltb-true a b h in le-ltb b a (omega arith);
      through = λ a b c h k. let l = ltb-true a b h in let m = ltb-true b c k in lt-ltb a c (omega arith);
      not_through = λ a b c h k. let l = ltb-false a b h in let m = ltb-false b c k in le-ltb a c (omega arith);
      same = λ a b h k. let l = ltb-false a b h in let m = ltb-false b a k in omega arith;
    }

pub more-ranks : Ranks more
more-ranks =
    record {
      one_way = λ a b. less-ranks.one_way b a;
      through = λ a b c h k. less-ranks.through c b a k h;
      not_through = λ a b c h k. less-ranks.not_through c b a k h;
      same = λ a b h k. less-ranks.same a b k h;
    }

-- ---- a list whose members are in an order

pub data Ordered {A : Type 0} (R : A → A → Type 0) : List A → Type 0 where
  in_order_none : Ordered R []
  in_order : {x : A} {xs : List A} → ((y : A) → Memᴰ y xs → R x y) → Ordered R xs → Ordered R (x ∷ xs)

module _ {A : Type 0} {R : A → A → Type 0} where
  pub ordered-append : (xs ys : List A) → Ordered R xs → Ordered R ys → ((x y : A) → Memᴰ x xs → Memᴰ y ys → R x y) → Ordered R (xs ++ ys)
  ordered-append [] ys o p between = p
  ordered-append (x ∷ xs) ys (in_order after rest) p between =
      in_order (λ y h. go y (Memᴰ.append_cases xs h)) (ordered-append xs ys rest p (λ z y h k. between z y (Memᴰ.tail h) k))
    where
      go : (y : A) → Memᴰ y xs ⊎ Memᴰ y ys → R x y
      go y (inl h) = after y h
      go y (inr h) = between x y (Memᴰ.head refl) h

  -- of two members one comes first, or they are one
  pub ordered-compare : (xs : List A) → Ordered R xs → (x y : A) → Memᴰ x xs → Memᴰ y xs → (x ≡ y) ⊎ (R x y ⊎ R y x)
  ordered-compare [] o x y h k = absurd (Memᴰ.not-nil h)
  ordered-compare (z ∷ zs) (in_order after rest) x y (Memᴰ.head e) (Memᴰ.head f) = inl (e ∙ sym f)
  ordered-compare (z ∷ zs) (in_order after rest) x y (Memᴰ.head e) (Memᴰ.tail k) = inr (inl (rw e (after y k)))
  ordered-compare (z ∷ zs) (in_order after rest) x y (Memᴰ.tail h) (Memᴰ.head f) = inr (inr (rw f (after x h)))
  ordered-compare (z ∷ zs) (in_order after rest) x y (Memᴰ.tail h) (Memᴰ.tail k) = ordered-compare zs rest x y h k

module _ {A : Type 0} (better : ℕ → ℕ → Bool) (key : A → ℕ) where
  -- ---- of two

  pub second : (m x : A) → better (key x) (key m) ≡ true → better_of better key m x ≡ x
  unfolding better_of
  second m x h = if-true _ _ _ h

  pub first : (m x : A) → better (key x) (key m) ≡ false → better_of better key m x ≡ m
  unfolding better_of
  first m x h = if-false _ _ _ h

  -- ---- one list after another

  pub best-append : (m : A) (xs ys : List A) → first_best better key m (xs ++ ys) ≡ first_best better key (first_best better key m xs) ys
  unfolding first_best
  best-append m [] ys = refl
  best-append m (x ∷ xs) ys = best-append (better_of better key m x) xs ys

  -- ---- is a member

  pub best-member : (m : A) (xs : List A) → Memᴰ (first_best better key m xs) (m ∷ xs)
  unfolding first_best
  best-member m [] = Memᴰ.head refl
  best-member m (x ∷ xs) = go (best-member (better_of better key m x) xs) (better (key x) (key m)) refl
    where
      go : {f : A} → Memᴰ f (better_of better key m x ∷ xs) → (t : Bool) → better (key x) (key m) ≡ t → Memᴰ f (m ∷ x ∷ xs)
      go (Memᴰ.head e) true h = Memᴰ.tail (Memᴰ.head (e ∙ second m x h))
      go (Memᴰ.head e) false h = Memᴰ.head (e ∙ first m x h)
      go (Memᴰ.tail k) t h = Memᴰ.tail (Memᴰ.tail k)

  module _ (R : Ranks better) where
    -- ---- a member before the list

    of_three : (m k x : A) → better_of better key (better_of better key m k) x ≡ better_of better key m (better_of better key k x)
    of_three m k x = go (better (key k) (key m)) refl (better (key x) (key k)) refl
      where
        go : (s : Bool) → better (key k) (key m) ≡ s → (t : Bool) → better (key x) (key k) ≡ t
            → better_of better key (better_of better key m k) x ≡ better_of better key m (better_of better key k x)
        go true p true q = rw (second m k p, second k x q) (sym (second m x (R.through _ _ _ q p)))
        go true p false q = rw (second m k p, first k x q) (sym (second m k p))
        go false p true q = rw (first m k p, second k x q)
        go false p false q = rw (first m k p, first k x q) (first m x (R.not_through _ _ _ q p) ∙ sym (first m k p))

    pub best-join : (m k : A) (xs : List A) → first_best better key m (k ∷ xs) ≡ better_of better key m (first_best better key k xs)
    unfolding first_best
    best-join m k [] = refl
    best-join m k (x ∷ xs) = ap (λ (z : A). first_best better key z xs) (of_three m k x) ∙ best-join m (better_of better key k x) xs

    -- ---- no key is better

    not_itself : (a : ℕ) → better a a ≡ false
    not_itself a = go (better a a) refl
      where
        go : (t : Bool) → better a a ≡ t → better a a ≡ false
        go true h = R.one_way a a h
        go false h = h

    best-first : (m : A) (xs : List A) → better (key m) (key (first_best better key m xs)) ≡ false
    unfolding first_best
    best-first m [] = not_itself (key m)
    best-first m (x ∷ xs) = go (best-first (better_of better key m x) xs) (better (key x) (key m)) refl
      where
        go : {f : ℕ} → better (key (better_of better key m x)) f ≡ false → (t : Bool) → better (key x) (key m) ≡ t → better (key m) f ≡ false
        go below true h = R.not_through _ _ _ (R.one_way _ _ h) (rw (second m x h) at below)
        go below false h = rw (first m x h) at below

    best-next : (m x : A) (xs : List A) → better (key x) (key (first_best better key m (x ∷ xs))) ≡ false
    unfolding first_best
    best-next m x xs = go (best-first (better_of better key m x) xs) (better (key x) (key m)) refl
      where
        go : {f : ℕ} → better (key (better_of better key m x)) f ≡ false → (t : Bool) → better (key x) (key m) ≡ t → better (key x) f ≡ false
        go below true h = rw (second m x h) at below
        go below false h = R.not_through _ _ _ h (rw (first m x h) at below)

    best-later : (m : A) (xs : List A) (y : A) → Memᴰ y xs → better (key y) (key (first_best better key m xs)) ≡ false
    unfolding first_best
    best-later m [] y h = absurd (Memᴰ.not-nil h)
    best-later m (x ∷ xs) y (Memᴰ.head e) = rw e (best-next m x xs)
    best-later m (x ∷ xs) y (Memᴰ.tail h) = best-later (better_of better key m x) xs y h

    pub best-bounds : (m : A) (xs : List A) (y : A) → Memᴰ y (m ∷ xs) → better (key y) (key (first_best better key m xs)) ≡ false
    best-bounds m xs y (Memᴰ.head e) = rw e (best-first m xs)
    best-bounds m xs y (Memᴰ.tail h) = best-later m xs y h

    -- ---- in an ordered list, no member with its key is before it

    module _ (Before : A → A → Type 0) (before : (x y z : A) → Before x y → Before y z → Before x z) where
      -- with the first of the list taken or left, the order holds
      in-order-still : (m x : A) (xs : List A) → Ordered Before (m ∷ x ∷ xs) → Ordered Before (better_of better key m x ∷ xs)
      in-order-still m x xs (in_order after (in_order next rest)) = go (better (key x) (key m)) refl
        where
          go : (t : Bool) → better (key x) (key m) ≡ t → Ordered Before (better_of better key m x ∷ xs)
          go true h = rw (second m x h) (in_order next rest)
          go false h = rw (first m x h) (in_order (λ y k. after y (Memᴰ.tail k)) rest)

      pub best-before : (m : A) (xs : List A) → Ordered Before (m ∷ xs) → (y : A) → Memᴰ y (m ∷ xs) → key y ≡ key (first_best better key m xs)
          → (first_best better key m xs ≡ y) ⊎ Before (first_best better key m xs) y
      unfolding first_best
      best-before m [] o y (Memᴰ.head e) q = inl (sym e)
      best-before m [] o y (Memᴰ.tail h) q = absurd (Memᴰ.not-nil h)
      best-before m (x ∷ xs) o y h q =
          go o (best-before (better_of better key m x) xs (in-order-still m x xs o)) (best-first (better_of better key m x) xs)
          (better (key x) (key m)) refl h q
        where
          go : {f : A} → Ordered Before (m ∷ x ∷ xs)
              → ((z : A) → Memᴰ z (better_of better key m x ∷ xs) → key z ≡ key f → (f ≡ z) ⊎ Before f z)
              → better (key (better_of better key m x)) (key f) ≡ false → (t : Bool) → better (key x) (key m) ≡ t → {z : A}
              → Memᴰ z (m ∷ x ∷ xs) → key z ≡ key f → (f ≡ z) ⊎ Before f z
          go order below best true p (Memᴰ.head e) same =
              let found : better (key x) (key m) ≡ false = rw (← e, same) (rw (second m x p) at best) in
              true≢false p found
          go order below best true p (Memᴰ.tail (Memᴰ.head e)) same = below _ (Memᴰ.head (e ∙ sym (second m x p))) same
          go order below best false p (Memᴰ.head e) same = below _ (Memᴰ.head (e ∙ sym (first m x p))) same
          go {f} (in_order after rest) below best false p (Memᴰ.tail (Memᴰ.head e)) same =
              let alike : key m ≡ key f = R.same (key m) (key f) (rw (first m x p) at best) (rw (← same, e) p) in
              rw e (later (below m (Memᴰ.head (sym (first m x p))) alike) (after x (Memᴰ.head refl)))
            where
              later : {f : A} → (f ≡ m) ⊎ Before f m → Before m x → (f ≡ x) ⊎ Before f x
              later (inl i) b = inr (rw i b)
              later (inr a) b = inr (before _ _ _ a b)
          go order below best t p (Memᴰ.tail (Memᴰ.tail h)) same = below _ (Memᴰ.tail h) same

      -- the only member with the best key before which no other has it
      module _ (m : A) (xs : List A) (order : Ordered Before (m ∷ xs)) (t : A) (member : Memᴰ t (m ∷ xs)) where
        pub best-is : ((y : A) → Memᴰ y (m ∷ xs) → better (key y) (key t) ≡ false)
            → ((y : A) → Memᴰ y (m ∷ xs) → key y ≡ key t → Before y t → ⊥) → first_best better key m xs ≡ t
        best-is best None = go (best-before m xs order t member same)
          where
            found : A
            found = first_best better key m xs

            same : key t ≡ key found
            same = R.same _ _ (best-bounds m xs t member) (best found (best-member m xs))

            go : (found ≡ t) ⊎ Before found t → found ≡ t
            go (inl e) = e
            go (inr b) = absurd (None found (best-member m xs) (sym same) b)

-- ---- its key is the least, or the greatest

module _ {A : Type 0} (key : A → ℕ) where
  lesser : (m x : A) → key (better_of less key m x) ≡ min (key m) (key x)
  lesser m x = go (less (key x) (key m)) refl
    where
      go : (t : Bool) → less (key x) (key m) ≡ t → key (better_of less key m x) ≡ min (key m) (key x)
      go true h = rw (second less key m x h) (let l = ltb-true (key x) (key m) h in omega arith)
      go false h = rw (first less key m x h) (let l = ltb-false (key x) (key m) h in omega arith)

  greater : (m x : A) → key (better_of more key m x) ≡ max (key m) (key x)
  greater m x = go (more (key x) (key m)) refl
    where
      go : (t : Bool) → more (key x) (key m) ≡ t → key (better_of more key m x) ≡ max (key m) (key x)
      go true h = rw (second more key m x h) (let l = ltb-true (key m) (key x) h in omega arith)
      go false h = rw (first more key m x h) (let l = ltb-false (key m) (key x) h in omega arith)

  pub best-least : (m : A) (xs : List A) → key (first_best less key m xs) ≡ least key (key m) xs
  unfolding first_best least
  best-least m [] = refl
  best-least m (x ∷ xs) = best-least (better_of less key m x) xs ∙ ap (λ (k : ℕ). least key k xs) (lesser m x)

  pub best-greatest : (m : A) (xs : List A) → key (first_best more key m xs) ≡ greatest key (key m) xs
  unfolding first_best greatest
  best-greatest m [] = refl
  best-greatest m (x ∷ xs) = best-greatest (better_of more key m x) xs ∙ ap (λ (k : ℕ). greatest key k xs) (greater m x)
