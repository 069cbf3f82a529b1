use mathlib.Core.Path.{◌≡◌}
use Prim.Native.Nat.{◌*◌, ◌≤◌}
use lib.ListN.{length}
use Rattle.plan.specs.Lent.{plan_in}
use Rattle.plan_writing.specs.Inner.Sections.{tasks_text}
use Rattle.plan_writing.proofs.tasks_length.Given as goal

abbrev pub invariant-loop-i : goal.invariant-loop-i
invariant-loop-i l = (l.bytes ≡ length (tasks_text (plan_in l.tested.plan.now) l.tested.boxes.now l.i)) × (l.bytes ≤ 350 * l.i)
