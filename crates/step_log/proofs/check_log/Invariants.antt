use Prim.Native.Nat.{◌-◌}
use lib.ListN.{length}
use Rattle.plan.specs.Lent.{packed_in}
use Rattle.step_log.proofs.Checking.{Going}
use Rattle.step_log.proofs.check_log.Given as goal

abbrev pub invariant-loop-accepted : goal.invariant-loop-accepted
invariant-loop-accepted l =
    Going (packed_in l.plan)
    l.initial.boxes l.log l.accepted.steps l.accepted.impossible l.boxes

abbrev pub decreases-loop-accepted : goal.decreases-loop-accepted
decreases-loop-accepted l = length l.log - l.accepted.steps
