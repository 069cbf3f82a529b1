use Rattle.units.proofs.Searching.{Unfound}
use Rattle.plan.specs.Lent.{plan_in}
use Rattle.schedule.specs.Schedule.{triple_at}
use Rattle.schedule.specs.Entry.{hour_fault}
use Rattle.schedule.proofs.Scheduled.test_hours.Given as goal

abbrev pub invariant-loop-hour : goal.invariant-loop-hour
invariant-loop-hour l =
    let P = plan_in l.self.tested.plan.now in
    Unfound (hour_fault P (triple_at l.self.schedule.now)) P.shifts.hours l.hour
