use Rattle.plan_lines.specs.Pieces.{IsReady}
use Rattle.worked.proofs.read_data.Given as goal

abbrev pub invariant-loop : goal.invariant-loop
invariant-loop g l = IsReady l.reading
