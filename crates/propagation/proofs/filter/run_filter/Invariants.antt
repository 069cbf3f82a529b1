use Rattle.plan.specs.Plan.{room_count, task_count}
use Rattle.plan.specs.Lent.{plan_in}
use Rattle.turns.specs.Inner.Finding.{Loaded}
use Prim.Native.Nat.{◌-◌}
use lib.ListN.{length}
use Rattle.propagation.specs.Inner.Fitting.{Answered}
use Rattle.propagation.proofs.Filtering.{Filtering}
use Rattle.propagation.proofs.filter.run_filter.Given as goal

abbrev pub invariant-loop-next : goal.invariant-loop-next
invariant-loop-next l =
    let P = plan_in l.plan in
    Filtering P l.initial.boxes l.initial.log_kinds l.initial.log_tasks l.initial.log_hours
    l.count l.boxes l.log_kinds l.log_tasks l.log_hours l.answers.fits
    × Answered P.shifts (task_count P) l.boxes l.answers
    × Loaded P.shifts.hours (room_count P) (task_count P) l.loads l.answers.fits P.heights

abbrev pub decreases-loop-next : goal.decreases-loop-next
decreases-loop-next l = length l.initial.log_kinds - l.count
