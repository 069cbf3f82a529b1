-- Laws of heights that are added. Assumes nothing.
use mathlib.Core.Path.{◌≡◌, ap, ◌∙◌}
use Prim.Native.Nat.{ℕ, ◌+◌}
use Rattle.units.specs.Limits.{height}
use Rattle.units.specs.declared.Height.{Height}

pub number_of : {h k : Height} → h ≡ k → h.0 ≡ k.0
number_of e = ap (λ (l : Height). l.0) e

-- a height that is read and added to a sum, and a sum that is read and added to, as the code hands them over
pub added : (sum : Height) {own next : Height} {n : ℕ} → own ≡ height n → next ≡ height (sum.0 + own.0) → next.0 ≡ sum.0 + n
added sum e q = number_of q ∙ ap (λ (k : Height). sum.0 + k.0) e

pub added-to : (own : Height) {sum next : Height} {n : ℕ} → sum ≡ height n → next ≡ height (sum.0 + own.0) → next.0 ≡ n + own.0
added-to own e q = number_of q ∙ ap (λ (k : Height). k.0 + own.0) e
