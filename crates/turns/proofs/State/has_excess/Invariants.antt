use Rattle.units.proofs.Searching.{Unmet}
use Rattle.plan.specs.Plan.{room_count}
use Rattle.plan.specs.Lent.{plan_in}
use Rattle.turns.specs.Inner.Kept.{excess_in}
use Rattle.turns.proofs.State.has_excess.Given as goal

abbrev pub invariant-loop-room : goal.invariant-loop-room
invariant-loop-room g l =
    let P = plan_in l.self.plan.now in
    Unmet (excess_in P l.self.fits.now l.w l.i l.t.0) (room_count P) l.room
