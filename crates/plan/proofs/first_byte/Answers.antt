use mathlib.Core.Path.{ap, ◌∙◌}
use Prim.Native.Nat.{ℕ}
use native.Mathlib.Omega.{arith}
use Rattle.plan.specs.Plan.{first_symbol}
use Rattle.plan.proofs.Bytes.{first-fits}
use Rattle.plan.proofs.first_byte.Goals as goal

pub first_within-requires : goal.first_within-requires
first_within-requires c = omega (arith, first-fits c.bytes_of.result c.args.number (omega (arith, c.bytes_of.ensures.1)) (omega arith))

pub returns : goal.returns
returns c = c.first_within.ensures ∙ ap (λ (n : ℕ). first_symbol n c.args.number) c.bytes_of.ensures.0
