use mathlib.Core.Path.{sym, ap, ◌∙◌}
use native.Mathlib.Omega.{arith}
use Rattle.units.specs.declared.Hour.{Hour}
use Rattle.units.proofs.Hours.{le-cmp, at-most, not-at-most}
use Rattle.turns.specs.Inner.Kept.{is_lower}
use Rattle.turns.proofs.Judging.{first-never, second-never, pair-forward, pair-backward, forward-none, forward-moves, backward-none, backward-moves}
use Rattle.turns.proofs.State.judge_pair.Goals as goal

pub returns-in_default : goal.returns-in_default
returns-in_default c = first-never _ _ _ _ _ c.in_default.is

pub returns-in_default-fits : goal.returns-in_default-fits
returns-in_default-fits c = second-never _ _ _ _ _ c.in-Some.is _ c.in_default-fits.is

pub returns-then-le : goal.returns-then-le
returns-then-le c =
    let late = at-most c.in-Some.first.ect.0 c.bounds_at-b.result.earliest.0 (c.le.ensures ∙ le-cmp _ _) c.if-le.true in
    pair-forward _ _ _ _ _ c.in-Some.is _ c.in-Some-fits.is _ _ (ap is_lower c.in-Lower.is) c.bounds_at-b.ensures (forward-none _ _ _ late)

pub returns-else-le : goal.returns-else-le
returns-else-le c =
    let early = not-at-most c.in-Some.first.ect.0 c.bounds_at-b.result.earliest.0 (c.le.ensures ∙ le-cmp _ _) c.if-le.false in
    pair-forward _ _ _ _ _ c.in-Some.is _ c.in-Some-fits.is _ _ (ap is_lower c.in-Lower.is) c.bounds_at-b.ensures
    (c.judge_lower.ensures ∙ sym (forward-moves _ _ _ early))

pub returns-then-le-2 : goal.returns-then-le-2
returns-then-le-2 c =
    let early = at-most c.plus.result.0 c.in-Some-fits.second.bounds.latest.0 (c.le-in-Upper.ensures ∙ le-cmp _ _) c.if-le-2.true in
    pair-backward _ _ _ _ _ c.in-Some.is _ c.in-Some-fits.is _ _ (ap is_lower c.in-Upper.is) c.bounds_at-b-in-Upper.ensures
    (backward-none _ _ _ (omega (arith, ap (λ (h : Hour). h.0) c.plus.ensures, early)))

pub returns-else-le-2 : goal.returns-else-le-2
returns-else-le-2 c =
    let late = not-at-most c.plus.result.0 c.in-Some-fits.second.bounds.latest.0 (c.le-in-Upper.ensures ∙ le-cmp _ _) c.if-le-2.false in
    pair-backward _ _ _ _ _ c.in-Some.is _ c.in-Some-fits.is _ _ (ap is_lower c.in-Upper.is) c.bounds_at-b-in-Upper.ensures
    (c.judge_upper.ensures ∙ sym (backward-moves _ _ _ (omega (arith, ap (λ (h : Hour). h.0) c.plus.ensures, late))))
