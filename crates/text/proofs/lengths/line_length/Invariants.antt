use mathlib.Core.Path.{◌≡◌}
use Prim.Native.Nat.{◌+◌, ◌*◌, ◌≤◌}
use lib.ListN.{length, take}
use Rattle.text.specs.Lines.{number_fields}
use Rattle.text.proofs.lengths.line_length.Given as goal

abbrev pub invariant-loop-number : goal.invariant-loop-number
invariant-loop-number l =
    (l.number-index ≤ length l.numbers)
    × (l.bytes ≡ length l.word + length (number_fields (take l.number-index l.numbers)) + 1)
    × (l.bytes ≤ length l.word + 1 + 21 * l.number-index)
