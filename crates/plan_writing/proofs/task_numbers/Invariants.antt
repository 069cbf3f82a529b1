use mathlib.Core.List.{◌∷◌}
use mathlib.Core.Path.{◌≡◌}
use Prim.Native.Nat.{◌+◌}
use lib.ListN.{length, get_or, take}
use Rattle.plan.specs.Plan.{task_count}
use Rattle.plan.specs.Lent.{plan_in}
use Rattle.plan_format.specs.Writing.{heights_at}
use Rattle.plan_writing.proofs.task_numbers.Given as goal

abbrev pub invariant-loop-room : goal.invariant-loop-room
invariant-loop-room l =
    let P = plan_in l.tested.plan.now in
    (length l.numbers ≡ 16)
    × (take (l.room + 2) l.numbers
    ≡ get_or P.shifts.task_calendars l.i 0 ∷ get_or P.shifts.work_times l.i 0 ∷ heights_at l.room (task_count P) P.heights l.i)
