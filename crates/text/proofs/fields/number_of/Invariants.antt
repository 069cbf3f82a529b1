use mathlib.Core.Path.{◌≡◌}
use Prim.Native.Nat.{◌≤◌}
use lib.ListN.{length, drop}
use Rattle.text.specs.Numbers.{is_digits, decimal, most_number}
use Rattle.text.proofs.fields.number_of.Given as goal

abbrev pub invariant-loop-digit : goal.invariant-loop-digit
invariant-loop-digit l =
    (l.digit-index ≤ length l.field)
    × (l.number ≤ most_number)
    × (is_digits (drop l.digit-index l.field) ≡ is_digits l.field)
    × (decimal l.number (drop l.digit-index l.field) ≡ decimal 0 l.field)
