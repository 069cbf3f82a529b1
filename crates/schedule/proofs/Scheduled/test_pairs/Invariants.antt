use Rattle.units.proofs.Searching.{Unfound}
use Rattle.plan.specs.Plan.{pair_count}
use Rattle.plan.specs.Lent.{plan_in}
use Rattle.schedule.specs.Schedule.{triple_at}
use Rattle.schedule.specs.Entry.{order_fault}
use Rattle.schedule.proofs.Scheduled.test_pairs.Given as goal

abbrev pub invariant-loop-k : goal.invariant-loop-k
invariant-loop-k l =
    let P = plan_in l.self.tested.plan.now in
    Unfound (order_fault P (triple_at l.self.schedule.now)) (pair_count P) l.k
