use native.Mathlib.Omega.{arith}
use Rattle.text.proofs.Puts.{put-none}
use Rattle.listing.specs.Listing.{task_lines}
use Rattle.listing.proofs.Lines.{put-task-next}
use Rattle.listing.proofs.put_tasks.Goals as goal

pub loop-i-init : goal.loop-i-init
unfolding task_lines
loop-i-init c = (omega arith, put-none _ _)

pub loop-i-preserved : goal.loop-i-preserved
loop-i-preserved c = (
  omega arith,
  put-task-next c.args.boxes.now c.loop-i.i (omega (arith, c.requires.0)) c.loop-i.invariant.1 c.put_task-end.ensures.put,
)
