use native.Mathlib.Omega.{arith}
use Rattle.text.proofs.Puts.{put-none}
use Rattle.plan_format.specs.Writing.{task_records}
use Rattle.plan_format.proofs.Growing.{text-none, text-put, text-room, task-line}
use Rattle.plan_writing.proofs.put_tasks.Goals as goal

pub loop-i-init : goal.loop-i-init
unfolding task_records
loop-i-init c = rw (text-none _) (put-none _ _)

pub put_line-end-requires : goal.put_line-end-requires
unfolding task_records
put_line-end-requires c =
    text-room _ _ (task-line c.task_numbers.ensures) (omega (arith, c.loop-i-test.true, c.tasks-i-end.ensures)) c.requires c.loop-i.invariant

pub loop-i-preserved : goal.loop-i-preserved
unfolding task_records
loop-i-preserved c = text-put _ _ (task-line c.task_numbers.ensures) (omega (arith, c.requires)) c.loop-i.invariant c.put_line-end.ensures
