use mathlib.Core.Path.{◌≡◌, refl, ap, ◌∙◌}
use native.Mathlib.Omega.{arith}
use lib.ListN.{length, get_or}
use Rattle.units.specs.Sums.{max_to}
use Rattle.units.proofs.Summing.{max-with}
use Rattle.turns.proofs.scan.greatest.Goals as goal

pub loop-load-init : goal.loop-load-init
unfolding max_to
loop-load-init c = refl

pub loop-load-preserved : goal.loop-load-preserved
loop-load-preserved c = max-with _ _ _ _ _ c.loop-load.invariant refl c.max-most.ensures

pub returns : goal.returns
returns c =
    let all : c.loop-load.load-index ≡ length c.args.loads.now = omega (arith, c.loop-load-test.false) in
    c.loop-load.invariant ∙ ap (max_to (λ t. get_or c.args.loads.now t 0)) all
