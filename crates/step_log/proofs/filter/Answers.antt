use mathlib.Core.Path.{sym, ◌∙◌}
use Rattle.step_log.proofs.Filtering.{handed_end, part-refuses, steps-inside, part-runs-on, part-shortens, part-leaves}
use Rattle.step_log.proofs.Claiming.{leaves-steps}
use Rattle.step_log.proofs.filter.Goals as goal

pub returns-in_err-part : goal.returns-in_err-part
returns-in_err-part c =
    let ends = part-refuses c.loop-part.invariant _ _ c.in_err-part.ensures in
    let (answer, holds, letters) = leaves-steps _ _ _ _ (handed_end _ _ _ c.from_residual.ensures.1 ends) in
    record { answer = answer; holds = holds; letters = letters }

pub put_part-requires : goal.put_part-requires
put_part-requires c = steps-inside c.loop-part.invariant _ _ c.in_ok-part.ensures

pub returns-then-not-goes_on : goal.returns-then-not-goes_on
returns-then-not-goes_on c =
    let ends = part-leaves c.loop-part.invariant _ _ c.in_ok-part.ensures _ c.put_part.ensures (sym c.goes_on.ensures ∙ c.if-not-goes_on.true) in
    let (answer, holds, letters) = leaves-steps _ _ _ _ ends in
    record { answer = answer; holds = holds; letters = letters }

pub loop-part-smaller : goal.loop-part-smaller
loop-part-smaller c =
    part-shortens c.loop-part.invariant _ _ c.in_ok-part.ensures _ c.put_part.ensures (sym c.goes_on.ensures ∙ c.if-not-goes_on.false)

pub loop-part-preserved : goal.loop-part-preserved
loop-part-preserved c =
    part-runs-on c.loop-part.invariant _ _ c.in_ok-part.ensures _ c.put_part.ensures (sym c.goes_on.ensures ∙ c.if-not-goes_on.false)
    c.run.auto.boxes
