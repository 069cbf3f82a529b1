use mathlib.Core.Path.{◌≡◌}
use Rattle.std.specs.Prelude.{None}
use Rattle.units.specs.Choice.{first_of}
use Rattle.units.proofs.Searching.{Unfound}
use Rattle.plan.specs.Plan.{task_count}
use Rattle.plan.specs.Lent.{plan_in}
use Rattle.turns.specs.Inner.Kept.{is_lower}
use Rattle.turns.proofs.Searching.{at_hour, of_task}
use Rattle.turns.proofs.State.first_excess.Given as goal

abbrev pub invariant-loop-t : goal.invariant-loop-t
invariant-loop-t l =
    let s = l.self in
    let P = plan_in s.plan.now in
    let tested = at_hour P s.boxes.now s.fits.now (is_lower l.side) l.i in
    (l.found ≡ None) × (first_of tested l.t ≡ None)

abbrev pub invariant-outer : goal.invariant-outer
invariant-outer l =
    let s = l.self in
    let P = plan_in s.plan.now in
    (l.found ≡ None)
    × Unfound (of_task P s.boxes.now s.fits.now (is_lower l.side)) (task_count P) l.i
