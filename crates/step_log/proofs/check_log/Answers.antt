use mathlib.Core.Path.{◌∙◌}
use native.Mathlib.Omega.{arith}
use Rattle.step_log.proofs.Checking.{going-opens, part-inside, part-refuses, part-ends, part-goes-on, part-shortens}
use Rattle.plan.proofs.Refusals.{refused-on}
use Rattle.step_log.proofs.Claiming.{checks-steps}
use Rattle.step_log.proofs.check_log.Goals as goal

pub loop-accepted-init : goal.loop-accepted-init
loop-accepted-init c = going-opens _ _ _

pub check-requires : goal.check-requires
check-requires c = omega (arith, c.well_formed, part-inside c.loop-accepted.invariant _ c.part_at-steps.ensures)

pub returns-in_err-accepted : goal.returns-in_err-accepted
returns-in_err-accepted c =
    let (is, left) = part-refuses c.loop-accepted.invariant _ c.part_at-steps.ensures c.in_err-accepted.ensures in
    let (answer, holds, same, leaves) = checks-steps _ _ _ _ _ (refused-on _ _ c.from_residual.ensures.1 ∙ is, left) in
    record { answer = answer; holds = holds; letters = (same, leaves) }

pub returns-then-steps-lt-SIZE : goal.returns-then-steps-lt-SIZE
returns-then-steps-lt-SIZE c =
    let ends = part-ends c.loop-accepted.invariant _ c.part_at-steps.ensures c.in_ok-accepted.ensures c.if-steps-lt-SIZE.true in
    let (answer, holds, same, leaves) = checks-steps _ _ _ _ _ ends in
    record { answer = answer; holds = holds; letters = (same, leaves) }

pub loop-accepted-smaller : goal.loop-accepted-smaller
loop-accepted-smaller c =
    part-shortens c.loop-accepted.invariant _ c.part_at-steps.ensures c.in_ok-accepted.ensures c.if-steps-lt-SIZE.false

pub loop-accepted-preserved : goal.loop-accepted-preserved
loop-accepted-preserved c =
    part-goes-on c.loop-accepted.invariant _ c.part_at-steps.ensures c.in_ok-accepted.ensures c.if-steps-lt-SIZE.false c.check.auto.boxes
