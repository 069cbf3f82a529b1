use Rattle.text.specs.Putting.{Put}
use Rattle.plan.specs.Lent.{plan_in}
use Rattle.plan_writing.specs.Inner.Sections.{calendars_text}
use Rattle.plan_writing.proofs.put_calendars.Given as goal

abbrev pub invariant-loop-k : goal.invariant-loop-k
invariant-loop-k l = Put (calendars_text (plan_in l.tested.plan.now).shifts l.k) l.at l.initial.out l.end l.out
