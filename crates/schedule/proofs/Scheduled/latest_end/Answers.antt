use mathlib.Core.Path.{◌≡◌, refl}
use native.Mathlib.Omega.{arith}
use Rattle.std.proofs.Common.{rules}
use Rattle.std.specs.Prelude.{max}
use Rattle.units.specs.Sums.{max_to}
use Rattle.units.proofs.Summing.{max-with}
use Rattle.plan.specs.Plan.{task_count}
use Rattle.plan.specs.Lent.{plan_in}
use Rattle.schedule.specs.Schedule.{makespan}
use Rattle.schedule.proofs.Entry.{ends_as, end-as}
use Rattle.schedule.proofs.Readiness.{end-small}
use Rattle.schedule.proofs.Scheduled.latest_end.Goals as goal

pub loop-i-init : goal.loop-i-init
unfolding max_to
loop-i-init c = (omega arith, refl)

pub plus-requires : goal.plus-requires
plus-requires c =
    let end = end-small _ c.args.self.now.tested.passed c.requires c.loop-i.i (omega (arith, c.loop-i-test.true, c.tasks-tasks.ensures)) in
    ends_as _ _ c.triple_at-t.ensures (omega (arith, end))

pub loop-i-preserved : goal.loop-i-preserved
loop-i-preserved c =
    let end = end-as _ _ c.triple_at-t.ensures _ c.plus.ensures in
    let later : c.max-latest.result.0 ≡ max c.loop-i.latest.0 c.plus.result.0 = search rules in
    (omega arith, max-with _ _ _ _ _ c.loop-i.invariant.1 end later)

pub returns : goal.returns
unfolding makespan
returns c =
    let all : c.loop-i.i ≡ task_count (plan_in c.args.self.now.tested.plan.now) =
    omega (arith, c.loop-i.invariant.0, c.loop-i-test.false, c.tasks-tasks.ensures) in
    rw all at c.loop-i.invariant.1
