use mathlib.Core.Path.{◌≡◌}
use Prim.Native.Nat.{◌≤◌}
use lib.ListN.{length, take}
use Rattle.text.specs.Lines.{number_fields}
use Rattle.text.specs.Putting.{Put}
use Rattle.text.proofs.put.put_fields.Given as goal

abbrev pub invariant-loop-number : goal.invariant-loop-number
invariant-loop-number l =
    (l.number-index ≤ length l.numbers)
    × (length l.out ≡ length l.initial.out)
    × (Put (number_fields (take l.number-index l.numbers)) l.at l.initial.out l.end l.out)
