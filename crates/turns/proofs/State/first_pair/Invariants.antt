use Rattle.units.specs.Choice.{some_if}
use Rattle.units.proofs.Searching.{Unfound}
use Rattle.plan.specs.Plan.{pair_count, pair_of}
use Rattle.plan.specs.Lent.{plan_in}
use Rattle.steps.specs.Steps.{step}
use Rattle.turns.specs.Inner.Kept.{pair_by, is_lower}
use Rattle.turns.specs.Inner.Finding.{admits, pair_letter_of}
use Rattle.turns.proofs.State.first_pair.Given as goal

abbrev pub invariant-loop-k : goal.invariant-loop-k
invariant-loop-k l =
    let s = l.self in
    let P = plan_in s.plan.now in
    let lower = is_lower l.side in
    Unfound (λ k. some_if (admits (pair_by P s.boxes.now s.fits.now lower (pair_of P k))) (step (pair_letter_of lower) k 0)) (pair_count P) l.k
