use mathlib.Core.Path.{sym, ◌∙◌}
use native.Mathlib.Omega.{arith}
use Rattle.turns.proofs.Scanning.{stretch-none, stretch-found}
use Rattle.turns.proofs.scan.pass_stretch.Goals as goal

pub overflow_add-result : goal.overflow_add-result
overflow_add-result c =
    let passed = stretch-found c.args.loads.now c.args.from c.args.end c.args.limit.0 c.requires _ (sym c.first_above.ensures ∙ c.in-Some.is) in
    omega (arith, passed.1, c.ranges.end)

pub returns-in-Some : goal.returns-in-Some
returns-in-Some c = stretch-found c.args.loads.now c.args.from c.args.end c.args.limit.0 c.requires _ (sym c.first_above.ensures ∙ c.in-Some.is)

pub returns-in-None : goal.returns-in-None
returns-in-None c = stretch-none c.args.loads.now c.args.from c.args.end c.args.limit.0 c.requires (sym c.first_above.ensures ∙ c.in-None.is)
