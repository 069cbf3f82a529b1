use mathlib.Core.Path.{◌≡◌}
use Prim.Native.Nat.{◌≤◌}
use lib.ListN.{length}
use Rattle.plan_lines.specs.Inner.Scanning.{with_heights}
use Rattle.plan_lines.proofs.store_heights.Given as goal

abbrev pub invariant-loop-room : goal.invariant-loop-room
invariant-loop-room l =
    (l.room ≤ l.rooms)
    × (length l.cells ≡ length l.initial.cells)
    × (l.cells ≡ with_heights l.task l.numbers l.room l.initial.cells)
