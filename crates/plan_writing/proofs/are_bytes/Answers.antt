use native.Mathlib.Omega.{arith}
use Rattle.plan_writing.proofs.are_bytes.Goals as goal

pub returns : goal.returns
returns c = λ i. omega (arith, c.type_inv.bytes i)
