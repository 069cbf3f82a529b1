use mathlib.Core.Path.{sym}
use Rattle.plan.proofs.Over.{input-passed}
use Rattle.input.proofs.tested_input.Goals as goal

pub invariant_of-result : goal.invariant_of-result
invariant_of-result c = record { passed = input-passed _ _ (sym c.in_ok-test_input.ensures) }
