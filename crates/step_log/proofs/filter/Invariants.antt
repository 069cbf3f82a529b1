use Prim.Native.Nat.{◌-◌}
use lib.ListN.{length}
use Rattle.plan.specs.Lent.{packed_in}
use Rattle.step_log.proofs.Filtering.{Running}
use Rattle.step_log.proofs.filter.Given as goal

abbrev pub invariant-loop-part : goal.invariant-loop-part
invariant-loop-part l =
    Running (packed_in l.plan)
    l.initial.boxes l.initial.log l.taken l.boxes l.log

abbrev pub decreases-loop-part : goal.decreases-loop-part
decreases-loop-part l = length l.initial.log - l.taken
