use native.Mathlib.Omega.{arith}
use Rattle.plan.proofs.Boxes.{length-with}
use Rattle.steps.specs.Load.{fit_at}
use Rattle.propagation.proofs.Fits.{core-asks}
use Rattle.propagation.proofs.Answering.{keeps-task, moved-answered}
use Rattle.propagation.proofs.kept.move_bounds.Goals as goal

pub bounds_at-before-requires : goal.bounds_at-before-requires
bounds_at-before-requires c = omega (arith, simp length-with at c.requires.fits.1.box)

pub put_bounds-requires : goal.put_bounds-requires
put_bounds-requires c = omega (arith, simp length-with at c.requires.fits.1.box)

pub answer_after-requires-clause-ready : goal.answer_after-requires-clause-ready
answer_after-requires-clause-ready c =
    let task = c.of_plan.ensures in
    core-asks _ _ _ _ _ task.0 task.2 (rw c.put_bounds.ensures c.requires.fits.1)

pub returns-clause-moves : goal.returns-clause-moves
unfolding fit_at
returns-clause-moves c =
    let task = c.of_plan.ensures in
    let kept = keeps-task _ _ _ task.0 task.1 task.2 c.answer_after.ensures in
    (c.put_bounds.ensures, rw (← kept.is) c.keep.ensures.0)

pub returns-clause-answered : goal.returns-clause-answered
returns-clause-answered c =
    let task = c.of_plan.ensures in
    let kept = keeps-task _ _ _ task.0 task.1 task.2 c.answer_after.ensures in
    moved-answered c.requires.answered _ c.requires.fits.0 c.keep.ensures _ c.args.b c.put_bounds.ensures kept
