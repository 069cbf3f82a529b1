use Rattle.plan_text.proofs.Streaming.{streamed-none, streamed-more, streamed-end}
use Rattle.plan_text.proofs.source.read_all.Goals as goal

pub loop-init : goal.loop-init
loop-init g c = streamed-none c.requires

pub loop-preserved : goal.loop-preserved
loop-preserved g c = streamed-more c.loop.invariant _ c.in_ok-n.ensures.bytes.0 c.take.ensures.takes

pub returns-then-n-eq0-clause-read : goal.returns-then-n-eq0-clause-read
returns-then-n-eq0-clause-read g c = (streamed-end c.loop.invariant _ _ c.in_ok-n.ensures.bytes.0 c.if-n-eq0.true).read
