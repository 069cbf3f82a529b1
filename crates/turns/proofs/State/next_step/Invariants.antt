use Rattle.std.specs.Prelude.{get_or, length}
use Rattle.units.proofs.Searching.{Unfound}
use Rattle.plan.specs.Lent.{plan_in}
use Rattle.steps.specs.declared.StepKind.TheVariants.{Calendar}
use Rattle.turns.proofs.Searching.{of_kind}
use Rattle.turns.proofs.State.next_step.Given as goal

abbrev pub invariant-loop-kind : goal.invariant-loop-kind
invariant-loop-kind l =
    let s = l.self in Unfound (λ n. of_kind (plan_in s.plan.now) s.boxes.now s.fits.now (get_or l.kind-items n Calendar)) (length l.kind-items) l.kind-index
