use lib.ListN.{length}
use Rattle.plan_lines.proofs.Taking.{Taken}
use Rattle.plan_lines.proofs.Reading.take.Given as goal

abbrev pub invariant-loop-end : goal.invariant-loop-end
invariant-loop-end l = Taken l.initial.self l.initial.rest l.self l.rest

abbrev pub decreases-loop-end : goal.decreases-loop-end
decreases-loop-end l = length l.rest
