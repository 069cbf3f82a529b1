use Rattle.std.specs.Prelude.{◌≡◌, length}
use Rattle.plan_lines.proofs.PackedBytes.{PackedTo}
use Rattle.plan_lines.proofs.packing.pack.Given as goal

abbrev pub invariant-loop-i : goal.invariant-loop-i
invariant-loop-i l = (length l.out ≡ length l.initial.out) × PackedTo l.calendar l.i l.out
