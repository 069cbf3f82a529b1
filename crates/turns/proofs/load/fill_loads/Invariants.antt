use Rattle.plan.specs.Plan.{task_count}
use Rattle.plan.specs.Lent.{plan_in}
use Rattle.turns.proofs.Loading.{RoomsFilled}
use Rattle.turns.proofs.load.fill_loads.Given as goal

abbrev pub invariant-loop-room : goal.invariant-loop-room
invariant-loop-room l =
    let P = plan_in l.plan in RoomsFilled P.shifts.hours (task_count P) l.fits P.heights l.initial.loads l.loads l.room
