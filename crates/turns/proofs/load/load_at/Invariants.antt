use mathlib.Core.Path.{◌≡◌}
use lib.ListN.{length}
use Rattle.turns.proofs.Loading.{load_to}
use Rattle.turns.proofs.load.load_at.Given as goal

abbrev pub invariant-loop-fit : goal.invariant-loop-fit
invariant-loop-fit l = l.sum.0 ≡ load_to l.fits l.heights l.t.0 (length l.yielded)
