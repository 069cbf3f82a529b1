use mathlib.Core.Path.{refl, sym, ap, ◌∙◌}
use native.Mathlib.Omega.{arith}
use Rattle.units.proofs.Hours.{le-cmp, lt-cmp, before, not-before, at-most, not-at-most}
use Prim.Native.Nat.{◌≤◌, ◌<◌}
use Rattle.turns.specs.Inner.Kept.{is_lower}
use Rattle.turns.specs.Inner.Finding.{first_hour, end_hour}
use Rattle.turns.proofs.Judging.{bound-never, bound-within, move-before, move-after, move-none, move-lower, move-upper}
use Rattle.turns.proofs.State.judge_bound.Goals as goal
use Rattle.turns.proofs.State.judge_bound.Goals.{Else-not-has_excess, then-lt-via-then-lt, then-lt-via-else-lt+then-le}

pub returns-in_default : goal.returns-in_default
returns-in_default c = bound-never _ _ _ _ _ _ _ c.in_default.is refl

pub bounds_at-b-requires : goal.bounds_at-b-requires
bounds_at-b-requires c = omega (arith, c.args.self.now.ready.sized, c.requires.0)

pub returns-then-lt : goal.returns-then-lt
returns-then-lt c =
    bound-within _ _ _ _ _ _ _ _ _ c.in-Some.is c.bounds_at-b.ensures
    (elim c.then-lt.branch [
      | then-lt-via-then-lt w ↦
          let early = before c.args.t.0 c.first_hour.result.0 (c.lt.ensures ∙ lt-cmp _ _) w.if-lt.true in
          sym (move-before _ _ _ _ _ _ (omega (arith, c.first_hour.ensures, early)))
      | then-lt-via-else-lt+then-le w ↦
          let late = at-most w.end_hour.result.0 c.args.t.0 (w.le.ensures ∙ le-cmp _ _) w.if-le.true in
          sym (move-after _ _ _ _ _ _ (omega (arith, w.end_hour.ensures, late)))
    ])

pub returns-then-not-has_excess : goal.returns-then-not-has_excess
returns-then-not-has_excess c =
    bound-within _ _ _ _ _ _ _ _ _ c.in-Some.is c.bounds_at-b.ensures
    (sym (move-none _ _ _ _ _ _ (sym c.has_excess.ensures ∙ c.if-not-has_excess.true)))

-- past the tests the hour is one in which the step is admitted
admitted : (c : Else-not-has_excess) → let a = c.args in let lower = is_lower a.side in
    (first_hour lower c.in-Some.w c.bounds_at-b.result ≤ a.t.0)
    × (a.t.0 < end_hour lower c.in-Some.w c.bounds_at-b.result)
admitted c =
    let from = not-before c.args.t.0 c.first_hour.result.0 (c.lt.ensures ∙ lt-cmp _ _) c.if-lt.false in
    let below = not-at-most c.end_hour.result.0 c.args.t.0 (c.le.ensures ∙ le-cmp _ _) c.if-le.false in
    (omega (arith, c.first_hour.ensures, from), omega (arith, c.end_hour.ensures, below))

pub returns-in-Lower : goal.returns-in-Lower
returns-in-Lower c =
    let (from, below) = admitted (goal.at.returns-in-Lower c).Else-not-has_excess in
    bound-within _ _ _ _ _ _ _ _ _ c.in-Some.is c.bounds_at-b.ensures
    (rw c.plus.ensures at c.judge_lower.ensures
    ∙ sym (move-lower _ _ _ _ _ _ from below (sym c.has_excess.ensures ∙ c.if-not-has_excess.false) (ap is_lower c.in-Lower.is)))

pub returns-in-Upper : goal.returns-in-Upper
returns-in-Upper c =
    let (from, below) = admitted (goal.at.returns-in-Upper c).Else-not-has_excess in
    bound-within _ _ _ _ _ _ _ _ _ c.in-Some.is c.bounds_at-b.ensures
    (c.judge_upper.ensures
    ∙ sym (move-upper _ _ _ _ _ _ from below (sym c.has_excess.ensures ∙ c.if-not-has_excess.false) (ap is_lower c.in-Upper.is)))
