use Rattle.std.specs.Prelude.{ℕ, ◌*◌, ◌≤◌, ◌<◌}
use Rattle.plan.specs.Packed.{code_at}
use Rattle.input.proofs.is_packed.Given as goal

abbrev pub invariant-loop-byte : goal.invariant-loop-byte
invariant-loop-byte l = (t : ℕ) → t < 4 * l.byte-index → code_at l.bytes t ≤ 2
