use Rattle.std.proofs.Common.{rules}
use mathlib.Core.Path.{◌≡◌, sym, ◌∙◌}
use mathlib.Core.Bool.{true, false}
use lib.Dec.{ltb}
use Rattle.std.proofs.lemmas.Iterator.{YieldsList-from_slice, IsFirst-from_position}
use Rattle.units.proofs.Hours.{gt-cmp, le-cmp, at-most}
use Rattle.turns.proofs.Scanning.{first-position, none-above}
use Rattle.turns.proofs.scan.first_above.Goals as goal

pub returns-then-le : goal.returns-then-le
returns-then-le c =
    none-above _ _ _ c.greatest.ensures (at-most c.greatest.result.0 c.args.limit.0 (c.le.ensures ∙ le-cmp _ _) c.if-le.true)

pub returns : goal.returns
returns c =
    let limit = c.args.limit.0 in
    let found = IsFirst-from_position _ _ c.position.result (λ x. ltb limit x ≡ true) (λ x. ltb limit x ≡ false) c.position.ensures.ran
    (YieldsList-from_slice c.args.loads.now c.iter.ensures.rest)
    (λ x q k. sym (gt-cmp _ _) ∙ search rules) (λ x q k. (search rules, sym (gt-cmp _ _) ∙ search rules)) in
    first-position (ltb limit) _ _ found
