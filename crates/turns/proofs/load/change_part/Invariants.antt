use Rattle.turns.proofs.Loading.{Changed}
use Rattle.turns.proofs.load.change_part.Given as goal

abbrev pub invariant-loop-load : goal.invariant-loop-load
invariant-loop-load l = Changed l.was.0 l.is.0 l.initial.load-items l.load-items l.load-index
