-- A loop that looks for the first hit: what it knows at each number, and what it has found once it is left. Assumes nothing.
use mathlib.Core.Path.{◌≡◌, refl, ◌∙◌}
use mathlib.Core.Bool.{Bool, false}
use Rattle.std.specs.Prelude.{Option, None, Some}
use Prim.Native.Nat.{ℕ, ◌+◌, ◌≤◌, ◌<◌}
use native.Mathlib.Omega.{arith}
use Rattle.units.specs.Choice.{some_of, first_of}
use Rattle.units.proofs.Choices.{some_next, first_next, first-hit, first-end}

-- nothing is found before i, which is not past the n that there are
pub record Unfound {A : Type 0} (f : ℕ → Option A) (n i : ℕ) : Type 0 where
  pub inside : i ≤ n
  pub none_before : first_of f i ≡ None

pub unfound-first : {A : Type 0} {f : ℕ → Option A} {n : ℕ} → Unfound f n 0
unfolding first_of
unfound-first = record { inside = omega arith; none_before = refl }

module _ {A : Type 0} {f : ℕ → Option A} {n i : ℕ} (u : Unfound f n i) where
  pub unfound-next : i < n → f i ≡ None → Unfound f n (i + 1)
  unfound-next l e = record { inside = omega arith; none_before = first_next f i u.none_before ∙ e }

  pub unfound-hit : {a : A} → i < n → f i ≡ Some a → first_of f n ≡ Some a
  unfound-hit l e = first-hit f i n _ l u.none_before e

  pub unfound-end : n ≤ i → first_of f n ≡ None
  unfound-end l = first-end f i n u.inside l u.none_before

-- a test that holds at no number before i, which is not past the n that there are
pub record Unmet (test : ℕ → Bool) (n i : ℕ) : Type 0 where
  pub inside : i ≤ n
  pub none_before : some_of test i ≡ false

pub unmet-first : {test : ℕ → Bool} {n : ℕ} → Unmet test n 0
unfolding some_of
unmet-first = record { inside = omega arith; none_before = refl }

module _ {test : ℕ → Bool} {n i : ℕ} (u : Unmet test n i) where
  pub unmet-next : i < n → test i ≡ false → Unmet test n (i + 1)
  unmet-next l e = record { inside = omega arith; none_before = some_next test i u.none_before ∙ e }

  pub unmet-end : n ≤ i → some_of test n ≡ false
  unmet-end l = let q : n ≡ i = let below = u.inside in omega arith in rw q u.none_before
