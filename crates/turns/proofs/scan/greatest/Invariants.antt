use mathlib.Core.Path.{◌≡◌}
use lib.ListN.{get_or}
use Rattle.units.specs.Sums.{max_to}
use Rattle.turns.proofs.scan.greatest.Given as goal

abbrev pub invariant-loop-load : goal.invariant-loop-load
invariant-loop-load l = l.most ≡ max_to (λ t. get_or l.loads t 0) l.load-index
