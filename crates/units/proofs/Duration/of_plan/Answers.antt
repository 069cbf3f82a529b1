use mathlib.Core.Path.{sym, ◌∙◌}
use native.Mathlib.Omega.{arith}
use Rattle.units.specs.Limits.{most_hours}
use Rattle.units.proofs.Ranges.{to-most}
use Rattle.units.proofs.Duration.of_plan.Goals as goal

pub overflow_cast-result : goal.overflow_cast-result
overflow_cast-result c = let l = to-most 1 most_hours _ (sym c.is_within.ensures ∙ c.if-not-is_within.false) in omega arith
