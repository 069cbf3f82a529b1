use Rattle.plan.specs.Lent.{shifts_in}
use Rattle.propagation.specs.Inner.Fitting.{Answered}
use Rattle.propagation.proofs.kept.put_answers.Given as goal

abbrev pub invariant-loop-i : goal.invariant-loop-i
invariant-loop-i l = Answered (shifts_in l.shifts) l.i l.boxes l.answers
