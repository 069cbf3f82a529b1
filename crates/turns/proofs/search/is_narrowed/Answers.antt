use Rattle.std.proofs.Common.{rules}
use mathlib.Core.Path.{◌≡◌}
use mathlib.Core.Bool.{true, not}
use Rattle.units.specs.Choice.{on_option}
use Rattle.steps.specs.Steps.{same_bounds}
use Rattle.turns.proofs.Searching.{narrowed}
use Rattle.turns.proofs.search.is_narrowed.Goals as goal

pub returns : goal.returns
unfolding same_bounds on_option
returns c i =
    let told : c.is_none_or.result ≡ on_option c.args.fit true (λ w. not (same_bounds w.bounds c.args.b)) = search rules in
    narrowed _ _ _ _ told
