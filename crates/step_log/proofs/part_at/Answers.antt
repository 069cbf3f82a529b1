use native.Mathlib.Omega.{arith}
use Rattle.step_log.proofs.Copying.{one-copied, all-copied}
use Rattle.step_log.proofs.part_at.Goals as goal

pub loop-x-preserved : goal.loop-x-preserved
loop-x-preserved c =
    one-copied _ _ _ _ c.loop-x.invariant c.loop-x-test.true
    c.push.ensures.0 c.push.ensures.1

pub returns : goal.returns
returns c = all-copied _ _ _ _ _ c.loop-x.invariant (omega (arith, c.loop-x-test.false)) c.part_end-end.ensures
