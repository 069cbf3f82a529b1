use lib.ListN.{get_or}
use Rattle.units.proofs.Searching.{Unfound}
use Rattle.plan.specs.Plan.{room_count, room_part}
use Rattle.plan.specs.Lent.{plan_in}
use Rattle.turns.specs.Inner.Finding.{room_overload}
use Rattle.turns.proofs.State.first_overload.Given as goal

abbrev pub invariant-loop-room : goal.invariant-loop-room
invariant-loop-room l =
    let P = plan_in l.self.plan.now in
    Unfound (λ r. room_overload r (room_part P.shifts.hours l.loads r) (get_or P.capacities r 0)) (room_count P) l.room
