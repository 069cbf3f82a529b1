use lib.ListN.{length}
use Rattle.turns.proofs.Loading.{Filled}
use Rattle.turns.proofs.load.fill_room.Given as goal

abbrev pub invariant-loop-fit : goal.invariant-loop-fit
invariant-loop-fit l = Filled l.fits l.heights l.initial.loads l.loads (length l.yielded)
