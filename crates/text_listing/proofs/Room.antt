-- What was written lies within the memory. Assumes nothing.
use mathlib.Core.Path.{◌≡◌, ap, ◌∙◌}
use mathlib.Core.List.{List}
use Prim.Native.Nat.{ℕ, ◌≤◌}
use native.Mathlib.Omega.{arith}
use lib.ListN.{length, drop, take, length-append, length-take}
use Rattle.units.specs.Cells.{written}

pub within-room : (xs cells left : List ℕ) (n : ℕ) → n ≡ length xs → left ≡ written xs cells → n ≤ length left
unfolding written
within-room xs cells left n p q = omega (arith, ap length q ∙ length-append xs (drop (length xs) cells))

-- a part that is within the whole has the length that was asked for
pub part_length : (xs : List ℕ) (n m : ℕ) → length xs ≡ m → n ≤ m → n ≡ length (take n xs)
part_length xs n m p q = simp length-take (omega arith)
