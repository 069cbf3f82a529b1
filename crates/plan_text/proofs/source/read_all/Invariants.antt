use Rattle.plan_text.proofs.Streaming.{Streamed}
use Rattle.plan_text.proofs.source.read_all.Given as goal

abbrev pub invariant-loop : goal.invariant-loop
invariant-loop g l = Streamed l.initial.reading (g.R.Read.remaining l.initial.input) l.reading (g.R.Read.remaining l.input)
