use Rattle.units.specs.Choice.{some_if}
use Rattle.units.proofs.Searching.{Unfound}
use Rattle.plan.specs.Plan.{task_count}
use Rattle.plan.specs.Boxes.{bounds_at}
use Rattle.plan.specs.Lent.{plan_in}
use Rattle.std.specs.Prelude.{None}
use lib.ListN.{get_or}
use Rattle.steps.specs.Steps.{step, letter_c}
use Rattle.turns.specs.Inner.Kept.{calendar_by}
use Rattle.turns.specs.Inner.Finding.{admits}
use Rattle.turns.proofs.State.first_calendar.Given as goal

abbrev pub invariant-loop-i : goal.invariant-loop-i
invariant-loop-i l =
    let s = l.self in
    Unfound (λ i. some_if (admits (calendar_by (get_or s.fits.now i None) i (bounds_at s.boxes.now i))) (step letter_c i 0))
    (task_count (plan_in s.plan.now)) l.i
