-- Laws of sums, counts and maxima over the numbers 0, 1, .., n - 1. Assumes nothing.
use Rattle.std.specs.Prelude.{if◌then◌else◌}
use mathlib.Core.Path.{◌≡◌, refl, ap, ap₂}
use mathlib.Core.Logic.{◌≢◌}
use mathlib.Core.Bool.{Bool, true, false, not}
use Prim.Native.Nat.{ℕ, zero, suc, ◌+◌, ◌*◌, ◌≤◌, ◌<◌, max}
use native.Mathlib.Nat.{suc-mul}
use native.Mathlib.Numerals.{add-one}
use native.Mathlib.Omega.{arith}
use lib.Dec.{eqb}
use borrow.Author.Tests.{eqb-true, eqb-false, eq-eqb, ne_eqb}
use Rattle.units.specs.Choice.{◌and◌}
use Rattle.units.specs.Sums.{sum_to, sum_where, one_if, max_to}
use Rattle.units.proofs.Choices.{if-true, if-false, if-all, not_left}

module _ (f g : ℕ → ℕ) where
  -- no term is more: nor is the sum
  pub sum-le : (n : ℕ) → ((j : ℕ) → j < n → f j ≤ g j) → sum_to f n ≤ sum_to g n
  unfolding sum_to
  sum-le zero h = omega arith
  sum-le (suc n) h = omega (arith, sum-le n (λ j l. h j (omega arith)), h n (omega arith))

  pub sum-eq : (n : ℕ) → ((j : ℕ) → j < n → f j ≡ g j) → sum_to f n ≡ sum_to g n
  unfolding sum_to
  sum-eq zero h = refl
  sum-eq (suc n) h = ap₂ ◌+◌ (sum-eq n (λ j l. h j (omega arith))) (h n (omega arith))

  -- one term is less by c, and no other is more: so is the sum
  pub sum-gap : (n i c : ℕ) → i < n → ((j : ℕ) → j < n → j ≢ i → f j ≤ g j) → f i + c ≤ g i → sum_to f n + c ≤ sum_to g n
  unfolding sum_to
  sum-gap zero i c l h k = omega arith
  sum-gap (suc n) i c l h k = go (λ (m : i < n). sum-gap n i c m (λ j m'. h j (omega arith)) k) (eqb n i) refl
    where
      go : (i < n → sum_to f n + c ≤ sum_to g n) → (b : Bool) → eqb n i ≡ b → sum_to f n + f n + c ≤ sum_to g n + g n
      go below true e =
          let q : n ≡ i = eqb-true n i e in
          let k' : f n + c ≤ g n = rw q k in
          omega (arith, sum-le n (λ j m. h j (omega arith) (omega arith)))
      go below false e = let ne : n ≢ i = eqb-false n i e in omega (arith, below (omega arith), h n (omega arith) ne)

  -- one term is less by c, and the others are the same: the sum is less by c
  pub sum-but : (n i c : ℕ) → i < n → ((j : ℕ) → j < n → j ≢ i → f j ≡ g j) → f i + c ≡ g i → sum_to f n + c ≡ sum_to g n
  unfolding sum_to
  sum-but zero i c l h k = absurd (omega arith)
  sum-but (suc n) i c l h k = go (λ (m : i < n). sum-but n i c m (λ j m'. h j (omega arith)) k) (eqb n i) refl
    where
      go : (i < n → sum_to f n + c ≡ sum_to g n) → (b : Bool) → eqb n i ≡ b → sum_to f n + f n + c ≡ sum_to g n + g n
      go below true e =
          let q : n ≡ i = eqb-true n i e in
          let k' : f n + c ≡ g n = rw q k in
          omega (arith, sum-eq n (λ j m. h j (omega arith) (omega arith)))
      go below false e = let ne : n ≢ i = eqb-false n i e in omega (arith, below (omega arith), h n (omega arith) ne)

-- ---- over the numbers that pass a test

module _ (test : ℕ → Bool) (f : ℕ → ℕ) where
  -- one number more
  where-step : (s n x : ℕ) → s ≡ sum_where test f n → (if test n then f n else 0) ≡ x → s + x ≡ sum_where test f (n + 1)
  unfolding sum_where sum_to
  where-step s n x p q = rw (add-one, p, ← q)

  pub where-more : (s n : ℕ) → s ≡ sum_where test f n → test n ≡ true → s + f n ≡ sum_where test f (n + 1)
  where-more s n p q = where-step s n (f n) p (if-true _ _ _ q)

  pub where-skip : (s n : ℕ) → s ≡ sum_where test f n → test n ≡ false → s ≡ sum_where test f (n + 1)
  where-skip s n p q = omega (arith, where-step s n 0 p (if-false _ _ _ q))

  where-le : (n m : ℕ) → ((j : ℕ) → j < n → f j ≤ m) → sum_where test f n ≤ n * m
  unfolding sum_where sum_to
  where-le zero m h = omega arith
  where-le (suc n) m h =
      omega (
        arith,
        where-le n m (λ j l. h j (omega arith)),
        if-all (λ (k : ℕ). k ≤ m) (test n) (f n) 0 (λ e. h n (omega arith)) (λ e. omega arith),
        suc-mul n m,
      )

  -- no term is more than m
  pub where-most : (s n m : ℕ) → s ≡ sum_where test f n → ((j : ℕ) → j < n → f j ≤ m) → s ≤ n * m
  where-most s n m p h = omega (arith, where-le n m h)

  -- another test that decides the same
  pub where-eq : (other : ℕ → Bool) (n : ℕ) → ((j : ℕ) → j < n → test j ≡ other j) → sum_where test f n ≡ sum_where other f n
  unfolding sum_where
  where-eq other n h = sum-eq _ _ n (λ j l. ap (λ (b : Bool). if b then f j else 0) (h j l))

  -- the share of one number, and the sum over the others
  pub where-split : (n i : ℕ) → i < n
      → sum_where (λ j. not (eqb j i) and test j) f n + (if test i then f i else 0) ≡ sum_where test f n
  unfolding sum_where
  where-split n i l = sum-but _ _ n i (if test i then f i else 0) l (λ j m ne. other j ne) own
    where
      other : (j : ℕ) → j ≢ i → (if not (eqb j i) and test j then f j else 0) ≡ (if test j then f j else 0)
      other j ne = rw (ne_eqb j i ne)

      own : (if not (eqb i i) and test i then f i else 0) + (if test i then f i else 0) ≡ (if test i then f i else 0)
      own = omega (arith, if-false (not (eqb i i) and test i) (f i) 0 (not_left (not (eqb i i)) (test i) (ap not (eq-eqb i i refl))))

-- ---- one test's count, and the greatest

pub one-le : (b : Bool) → one_if b ≤ 1
one-le true = omega arith
one-le false = omega arith

-- one number more
pub max-with : (f : ℕ → ℕ) (m n x r : ℕ) → m ≡ max_to f n → x ≡ f n → r ≡ max m x → r ≡ max_to f (n + 1)
unfolding max_to
max-with f m n x r p q e = rw (add-one, ← p, ← q) e
