use mathlib.Core.Path.{◌≡◌, refl, sym, ap}
use native.Mathlib.Omega.{arith}
use Rattle.std.specs.Prelude.{Some}
use Rattle.steps.specs.Steps.{kind_in}
use Rattle.steps.specs.declared.StepKind.{StepKind}
use Rattle.plan.proofs.Passed.{pair-within}
use Rattle.turns.proofs.Judging.{there-C, there-O, there-L, there-U, there-F, there-B, by-nameless, by-absent, by-C, by-O, by-L, by-U, by-F, by-B}
use Rattle.turns.proofs.State.judge_step.Goals as goal

-- the kind that the letter names, as the arm has it
as-kind : {k l : StepKind} → k ≡ l → kind_in (Some k) ≡ kind_in (Some l)
as-kind e = ap (λ (m : StepKind). kind_in (Some m)) e

pub returns-in_default : goal.returns-in_default
returns-in_default c = by-nameless _ _ _ _ _ c.of_letter.ensures (ap kind_in c.in_default.is)

pub returns-then-not-is_step : goal.returns-then-not-is_step
returns-then-not-is_step c = by-absent _ _ _ _ _ c.in-Some.ensures c.is_step.ensures c.if-not-is_step.true

-- 11 does not apply to the step, so its task, its room and its hour exist
pub bounds-self-i : goal.bounds-self-i
bounds-self-i c =
    let there = there-C _ _ _ _ (sym c.if-not-is_step.ensures) (as-kind c.in-Calendar.is) in
    omega (arith, there, c.args.self.now.ready.rooms_ready.few_tasks)

pub bounds_at-requires : goal.bounds_at-requires
bounds_at-requires c =
    let there = there-C _ _ _ _ (sym c.if-not-is_step.ensures) (as-kind c.in-Calendar.is) in
    omega (arith, there, c.args.self.now.ready.sized)

pub capacity_of-requires : goal.capacity_of-requires
capacity_of-requires c = (there-O _ _ _ _ (sym c.if-not-is_step.ensures) (as-kind c.in-Overload.is)).0

pub load_in-requires : goal.load_in-requires
load_in-requires c = (there-O _ _ _ _ (sym c.if-not-is_step.ensures) (as-kind c.in-Overload.is)).0

pub judge_bound-requires : goal.judge_bound-requires
judge_bound-requires c =
    let there = there-L _ _ _ _ (sym c.if-not-is_step.ensures) (as-kind c.in-Lower.is) in
    (there.0, omega (arith, there.1, c.args.self.now.short))

pub judge_bound-requires-in-Upper : goal.judge_bound-requires-in-Upper
judge_bound-requires-in-Upper c =
    let there = there-U _ _ _ _ (sym c.if-not-is_step.ensures) (as-kind c.in-Upper.is) in
    (there.0, omega (arith, there.1, c.args.self.now.short))

pub pair_of-requires : goal.pair_of-requires
pair_of-requires c = pair-within _ (there-F _ _ _ _ (sym c.if-not-is_step.ensures) (as-kind c.in-Forward.is))

pub judge_pair-requires : goal.judge_pair-requires
judge_pair-requires c =
    let pair = c.args.self.now.pairs_ready.pair _ (there-F _ _ _ _ (sym c.if-not-is_step.ensures) (as-kind c.in-Forward.is)) in
    rw c.pair_of.ensures (pair.earlier, pair.later)

pub pair_of-requires-in-Backward : goal.pair_of-requires-in-Backward
pair_of-requires-in-Backward c = pair-within _ (there-B _ _ _ _ (sym c.if-not-is_step.ensures) (as-kind c.in-Backward.is))

pub judge_pair-requires-in-Backward : goal.judge_pair-requires-in-Backward
judge_pair-requires-in-Backward c =
    let pair = c.args.self.now.pairs_ready.pair _ (there-B _ _ _ _ (sym c.if-not-is_step.ensures) (as-kind c.in-Backward.is)) in
    rw c.pair_of-in-Backward.ensures (pair.earlier, pair.later)

pub returns-in-Calendar : goal.returns-in-Calendar
returns-in-Calendar c =
    by-C _ _ _ _ _ c.in-Some.ensures (sym c.if-not-is_step.ensures) _ _ (as-kind c.in-Calendar.is) c.bounds_at.ensures c.judge_calendar.ensures

pub returns-in-Overload : goal.returns-in-Overload
returns-in-Overload c =
    by-O _ _ _ _ _ c.in-Some.ensures (sym c.if-not-is_step.ensures) _ _ (as-kind c.in-Overload.is) c.capacity_of.ensures refl
    c.load_in.ensures c.judge_load.ensures

pub returns-in-Lower : goal.returns-in-Lower
returns-in-Lower c =
    by-L _ _ _ _ _ c.in-Some.ensures (sym c.if-not-is_step.ensures) _ (as-kind c.in-Lower.is) c.judge_bound.ensures

pub returns-in-Upper : goal.returns-in-Upper
returns-in-Upper c =
    by-U _ _ _ _ _ c.in-Some.ensures (sym c.if-not-is_step.ensures) _ (as-kind c.in-Upper.is) c.judge_bound-in-Upper.ensures

pub returns-in-Forward : goal.returns-in-Forward
returns-in-Forward c =
    by-F _ _ _ _ _ c.in-Some.ensures (sym c.if-not-is_step.ensures) _ _ (as-kind c.in-Forward.is) c.pair_of.ensures c.judge_pair.ensures

pub returns-in-Backward : goal.returns-in-Backward
returns-in-Backward c =
    by-B _ _ _ _ _ c.in-Some.ensures (sym c.if-not-is_step.ensures) _ _ (as-kind c.in-Backward.is) c.pair_of-in-Backward.ensures
    c.judge_pair-in-Backward.ensures
