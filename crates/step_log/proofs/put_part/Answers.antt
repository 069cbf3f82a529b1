use mathlib.Core.Path.{refl}
use native.Mathlib.Omega.{arith}
use Rattle.steps.specs.Entry.{steps_from}
use Rattle.step_log.proofs.Copying.{put_in, one-put, all-put}
use Rattle.step_log.proofs.put_part.Goals as goal

pub loop-k-init : goal.loop-k-init
unfolding put_in steps_from
loop-k-init c = refl

pub loop-k-preserved : goal.loop-k-preserved
loop-k-preserved c = one-put _ _ _ _ _ c.loop-k.invariant c.step.ensures c.loop-k-test.true

pub returns : goal.returns
returns c =
    all-put _ _ _ _ c.loop-k.k _ c.requires (omega arith) c.loop-k.invariant (omega (arith, c.loop-k.auto.k-end, c.loop-k-test.false))
