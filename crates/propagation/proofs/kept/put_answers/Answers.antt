use mathlib.Core.Path.{refl}
use native.Mathlib.Omega.{arith}
use Rattle.propagation.proofs.Fits.{core-asks}
use Rattle.propagation.proofs.Answering.{keeps-task, next-answered}
use Rattle.propagation.proofs.kept.put_answers.Goals as goal

pub answer-requires : goal.answer-requires
answer-requires c =
    let task = c.of_plan.ensures in
    core-asks _ _ _ _ _ task.0 task.2 (c.requires.1 _ (omega (arith, c.loop-i-test.true, c.tasks-i-end.ensures)))

pub loop-i-preserved : goal.loop-i-preserved
loop-i-preserved c =
    let task = c.of_plan.ensures in
    next-answered c.loop-i.invariant _ (omega (arith, c.loop-i-test.true, c.tasks-i-end.ensures, c.requires.0)) c.keep.ensures refl
    (keeps-task _ _ _ task.0 task.1 task.2 c.answer.ensures)
