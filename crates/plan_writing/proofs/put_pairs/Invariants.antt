use Rattle.text.specs.Putting.{Put}
use Rattle.plan.specs.Lent.{plan_in}
use Rattle.plan_writing.specs.Inner.Sections.{pairs_text}
use Rattle.plan_writing.proofs.put_pairs.Given as goal

abbrev pub invariant-loop-k : goal.invariant-loop-k
invariant-loop-k l = Put (pairs_text (plan_in l.tested.plan.now) l.k) l.at l.initial.out l.end l.out
