use mathlib.Core.Path.{◌≡◌}
use Prim.Native.Nat.{◌*◌, ◌≤◌}
use lib.ListN.{length}
use Rattle.plan.specs.Lent.{plan_in}
use Rattle.plan_writing.specs.Inner.Sections.{pairs_text}
use Rattle.plan_writing.proofs.pairs_length.Given as goal

abbrev pub invariant-loop-k : goal.invariant-loop-k
invariant-loop-k l = (l.bytes ≡ length (pairs_text (plan_in l.tested.plan.now) l.k)) × (l.bytes ≤ 350 * l.k)
