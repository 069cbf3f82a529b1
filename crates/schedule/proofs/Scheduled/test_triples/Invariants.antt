use Rattle.units.proofs.Searching.{Unfound}
use Rattle.plan.specs.Plan.{task_count}
use Rattle.plan.specs.Lent.{plan_in}
use Rattle.schedule.specs.Schedule.{triple_at}
use Rattle.schedule.specs.Entry.{triple_fault}
use Rattle.schedule.proofs.Scheduled.test_triples.Given as goal

abbrev pub invariant-loop-i : goal.invariant-loop-i
invariant-loop-i l =
    let P = plan_in l.self.tested.plan.now in
    Unfound (triple_fault P.shifts l.self.tested.boxes.now (triple_at l.self.schedule.now)) (task_count P) l.i
