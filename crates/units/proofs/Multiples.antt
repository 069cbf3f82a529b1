-- Laws of a length that is so many numbers for each of so many: what the division of the length decides, and where a part lies. Assumes nothing.
use mathlib.Core.Path.{◌≡◌, refl, sym, ap, ◌∙◌}
use mathlib.Core.Bool.{Bool, true, false}
use Prim.Native.Nat.{ℕ, ◌+◌, ◌*◌, ◌/◌, ◌%◌, ◌≤◌, ◌<◌}
use native.Mathlib.Nat.{mod-add-div, mul-mod_right, mul-div_right, mul-le-mul_right, add-mul, zero-mul}
use native.Mathlib.Omega.{arith}
use lib.Dec.{eqb}
use borrow.Author.Tests.{eqb-true, eqb-false, eq-eqb, ne_eqb}

module _ (each length count : ℕ) where
  -- it is none for each
  pub none_each : each ≡ 0 → eqb length 0 ≡ eqb length (each * count)
  none_each e = let z : 0 ≡ each * count = rw e (sym (zero-mul count)) in ap (eqb length) z

  -- it leaves a rest
  pub not-whole : (length % each ≡ 0 → ⊥) → eqb length (each * count) ≡ false
  not-whole e = ne_eqb length (each * count) (λ q. e (ap (λ (n : ℕ). n % each) q ∙ mul-mod_right each count))

  -- it leaves none, so its quotient decides
  pub by-quotient : 1 ≤ each → length % each ≡ 0 → eqb (length / each) count ≡ eqb length (each * count)
  by-quotient Some e = go (eqb (length / each) count) refl
    where
      whole : each * (length / each) ≡ length
      whole = omega (arith, mod-add-div length each)

      go : (b : Bool) → eqb (length / each) count ≡ b → eqb (length / each) count ≡ eqb length (each * count)
      go true q = q ∙ sym (eq-eqb length (each * count) (sym whole ∙ ap (◌*◌ each) (eqb-true _ _ q)))
      go false q =
          q ∙ sym (ne_eqb length (each * count) (λ m. eqb-false _ _ q (ap (λ (n : ℕ). n / each) m ∙ mul-div_right count Some)))

-- the part of one of so many, so long each, lies within the whole
pub part-within : (each count k : ℕ) → k < count → k * each + each ≤ count * each
part-within each count k l = omega (arith, mul-le-mul_right {m = k + 1} {n = count} each (omega arith), add-mul k 1 each)
