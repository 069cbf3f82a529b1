use mathlib.Core.Path.{◌≡◌}
use lib.Seq.{paste}
use Rattle.text.proofs.put.put_all.Given as goal

abbrev pub invariant-loop-i : goal.invariant-loop-i
invariant-loop-i g l = l.out ≡ paste l.initial.out l.at l.items l.i
