-- How many bytes hold a calendar, and where one of those joined lies. Assumes nothing.
use mathlib.Core.Path.{◌≡◌}
use Prim.Native.Nat.{ℕ, ◌+◌, ◌*◌, ◌/◌, ◌≤◌, ◌<◌}
use native.Mathlib.Nat.{div-add-mod', add-mul, mul-le-mul}
use native.Mathlib.Omega.{arith}
use Rattle.units.proofs.Multiples.{part-within}
use Rattle.plan.specs.Plan.{first_symbol}
use Rattle.plan.specs.Packed.{bytes_of}

pub some-bytes : (h : ℕ) → 1 ≤ h → 1 ≤ bytes_of h
unfolding bytes_of
some-bytes h l = omega arith

-- four hours a byte are enough
pub hours-within : (h : ℕ) → h ≤ 4 * bytes_of h
unfolding bytes_of
hours-within h = omega arith

module _ (each n k : ℕ) (l : k < n / each) where
  pub part-in : k * each + each ≤ n
  part-in = omega (arith, div-add-mod' n each, part-within each (n / each) k l)

pub next-part : (each from k : ℕ) → from ≡ k * each → from + each ≡ (k + 1) * each
next-part each from k e = omega (arith, add-mul k 1 each)

-- where a calendar begins, of two numbers of 16 bits
pub first-fits : (each number : ℕ) → each ≤ 65535 → number ≤ 65535 → first_symbol each number ≤ 65535 * 65535
unfolding first_symbol
first-fits each number p q = mul-le-mul q p
