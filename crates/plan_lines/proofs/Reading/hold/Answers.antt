use native.Mathlib.Omega.{arith}
use Rattle.plan_lines.proofs.Piecewise.{stays-broken, breaks, too-long, held-more}
use Rattle.plan_lines.proofs.Reading.hold.Goals as goal

pub returns-then-self : goal.returns-then-self
returns-then-self c = λ text read. stays-broken read _ c.if-self.true

pub returns-then-self-part : goal.returns-then-self-part
returns-then-self-part c = λ text read.
    breaks read c.if-self.false _ _ _ read.cells (λ after.
    too-long read c.if-self.false _ c.requires.1 after (omega (arith, c.if-self-part.true)))

pub returns : goal.returns
returns c = λ text read.
    held-more read c.if-self.false _ c.requires.1 (omega (arith, c.if-self-part.false)) c.put_all-self.ensures
