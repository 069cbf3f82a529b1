use Prim.Native.Nat.{◌-◌}
use lib.ListN.{take, drop}
use Rattle.step_log.proofs.Copying.{Copied}
use Rattle.step_log.proofs.part_at.Given as goal

abbrev pub invariant-loop-x : goal.invariant-loop-x
invariant-loop-x l = Copied (take (l.end - l.from) (drop l.from l.log)) l.x-index l.steps
