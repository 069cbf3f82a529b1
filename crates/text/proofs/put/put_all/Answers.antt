use native.Mathlib.Omega.{arith}
use lib.Seq.{paste-zero}
use Rattle.text.proofs.Puts.{paste_more, put-pasted}
use Rattle.text.proofs.put.put_all.Goals as goal

pub loop-i-init : goal.loop-i-init
loop-i-init g c = paste-zero c.args.out.now c.args.at c.args.items.now

pub loop-i-preserved : goal.loop-i-preserved
loop-i-preserved g c =
    paste_more c.args.out.now c.args.at c.args.items.now c.loop-i.i c.loop-i.invariant c.index-items-i.is (omega arith) c.loop-i-test.true

pub returns : goal.returns
returns g c = put-pasted _ _ _ c.loop-i.i c.loop-i.invariant (omega (arith, c.loop-i.auto.i-end, c.loop-i-test.false))
