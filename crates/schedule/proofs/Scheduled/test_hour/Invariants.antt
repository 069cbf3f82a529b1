use Rattle.units.proofs.Searching.{Unfound}
use Rattle.plan.specs.Plan.{room_count}
use Rattle.plan.specs.Lent.{plan_in}
use Rattle.schedule.specs.Schedule.{triple_at}
use Rattle.schedule.specs.Entry.{room_fault}
use Rattle.schedule.proofs.Scheduled.test_hour.Given as goal

abbrev pub invariant-loop-room : goal.invariant-loop-room
invariant-loop-room l =
    let P = plan_in l.self.tested.plan.now in
    Unfound (room_fault P (triple_at l.self.schedule.now) l.hour.0) (room_count P) l.room
