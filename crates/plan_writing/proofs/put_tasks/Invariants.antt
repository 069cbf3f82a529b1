use Rattle.text.specs.Putting.{Put}
use Rattle.plan.specs.Lent.{plan_in}
use Rattle.plan_writing.specs.Inner.Sections.{tasks_text}
use Rattle.plan_writing.proofs.put_tasks.Given as goal

abbrev pub invariant-loop-i : goal.invariant-loop-i
invariant-loop-i l = Put (tasks_text (plan_in l.tested.plan.now) l.tested.boxes.now l.i) l.at l.initial.out l.end l.out
