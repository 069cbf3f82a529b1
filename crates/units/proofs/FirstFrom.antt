-- Laws of the first number at which a test holds, from a number on. Assumes nothing.
use mathlib.Core.Path.{◌≡◌, refl}
use mathlib.Core.Bool.{Bool, true, false}
use Prim.Native.Nat.{ℕ, zero, suc, ◌+◌, ◌≤◌, ◌<◌}
use native.Mathlib.Decide.{dec_le}
use native.Mathlib.Omega.{arith}
use Rattle.units.specs.Inner.First.{first_from}
use Rattle.units.proofs.Choices.{if-true, if-all}

module _ (test : ℕ → Bool) where
  pub from-hit : (e n : ℕ) → test e ≡ true → first_from test e n ≡ e
  unfolding first_from
  from-hit e zero h = refl
  from-hit e (suc n) h = if-true _ _ _ h

  pub from-least : (e n : ℕ) → e ≤ first_from test e n
  unfolding first_from
  from-least e zero = omega arith
  from-least e (suc n) = if-all (λ (k : ℕ). e ≤ k) (test e) _ _ (λ h. omega arith) (λ h. omega (arith, from-least (e + 1) n))

  pub from-most : (e n : ℕ) → first_from test e n ≤ e + n
  unfolding first_from
  from-most e zero = omega arith
  from-most e (suc n) = if-all (λ (k : ℕ). k ≤ e + suc n) (test e) _ _ (λ h. omega arith) (λ h. omega (arith, from-most (e + 1) n))

  pub from-none : (e n k : ℕ) → e ≤ k → k < first_from test e n → test k ≡ false
  unfolding first_from
  from-none e zero k l = λ u. absurd (omega arith)
  from-none e (suc n) k l =
      if-all (λ (m : ℕ). k < m → test k ≡ false) (test e) _ _ (λ h u. absurd (omega arith))
      (λ h u. go h (λ v. from-none (e + 1) n k v u) (dec_le (e + 1) k))
    where
      go : test e ≡ false → (e + 1 ≤ k → test k ≡ false) → Dec (e + 1 ≤ k) → test k ≡ false
      go h above (yes v) = above v
      go h above (no v) = let q : k ≡ e = omega arith in rw q h

  pub from-holds : (e n : ℕ) → first_from test e n < e + n → test (first_from test e n) ≡ true
  unfolding first_from
  from-holds e zero = λ u. absurd (omega arith)
  from-holds e (suc n) =
      if-all (λ (m : ℕ). m < e + suc n → test m ≡ true) (test e) _ _ (λ h u. h) (λ h u. from-holds (e + 1) n (omega arith))
