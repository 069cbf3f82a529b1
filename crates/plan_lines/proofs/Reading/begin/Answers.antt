use Prim.Native.Nat.{ℕ}
use Rattle.std.proofs.lemmas.List.{length-replicate}
use Rattle.plan_lines.proofs.Piecewise.{nothing-read}
use Rattle.plan_lines.proofs.Reading.begin.Goals as goal

pub returns : goal.returns
returns c = nothing-read _ _ _ (length-replicate {A = ℕ} 8800 0)
