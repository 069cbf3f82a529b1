use mathlib.Core.List.{[]}
use Rattle.plan_text.proofs.memory.PlanMemory.read.Goals as goal

pub finish-requires : goal.finish-requires
finish-requires c = (_, c.take.ensures.takes [] c.begin-reading.ensures)

pub returns-clause-reads : goal.returns-clause-reads
returns-clause-reads c = c.finish.ensures.reads _ (c.take.ensures.takes [] c.begin-reading.ensures)
