use mathlib.Core.List.{[]}
use Rattle.plan_format.proofs.ShortTexts.{as-before}
use Rattle.plan_text.proofs.read_plan.Goals as goal

pub finish_plan-requires : goal.finish_plan-requires
finish_plan-requires c = (_, c.take.ensures.takes [] c.begin-reading.ensures)

pub returns-clause-before : goal.returns-clause-before
returns-clause-before c = as-before

pub returns-clause-answer : goal.returns-clause-answer
returns-clause-answer c = c.finish_plan.ensures _ (c.take.ensures.takes [] c.begin-reading.ensures)
