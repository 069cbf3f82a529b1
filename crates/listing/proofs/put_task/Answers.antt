use Rattle.std.proofs.Common.{rules}
use Rattle.listing.specs.Listing.{task_line}
use Rattle.listing.proofs.Lines.{task-length}
use Rattle.listing.proofs.put_task.Goals as goal

pub put_line-requires : goal.put_line-requires
put_line-requires c = rw c.task_numbers.ensures (search (rules, task-length))

pub returns-clause-put : goal.returns-clause-put
unfolding task_line
returns-clause-put c = rw (← c.bounds_at.ensures, ← c.task_numbers.ensures) c.put_line.ensures

pub returns-clause-short : goal.returns-clause-short
returns-clause-short c = rw (c.put_line.ensures.place, c.task_numbers.ensures) (search (rules, task-length))
