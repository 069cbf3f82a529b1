use mathlib.Core.Path.{◌≡◌}
use Rattle.step_log.proofs.Copying.{put_in}
use Rattle.step_log.proofs.put_part.Given as goal

abbrev pub invariant-loop-k : goal.invariant-loop-k
invariant-loop-k l = l.cell-items ≡ put_in l.initial.cell-items l.steps l.k
