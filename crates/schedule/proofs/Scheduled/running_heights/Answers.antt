use mathlib.Core.Path.{◌≡◌, refl, ap, ◌∙◌}
use native.Mathlib.Omega.{arith}
use Rattle.units.specs.Limits.{most_height, height}
use Rattle.units.specs.Sums.{sum_to, sum_where}
use Rattle.units.proofs.Heights.{number_of, added}
use Rattle.units.proofs.Summing.{where-more, where-skip, where-most}
use Rattle.plan.specs.Plan.{task_count, heights_where}
use Rattle.plan.specs.Lent.{plan_in}
use Rattle.plan.proofs.Passed.{room_in}
use Rattle.schedule.specs.Schedule.{running}
use Rattle.schedule.proofs.Entry.{runs_as}
use Rattle.schedule.proofs.Readiness.{one-each, height-is, height-small}
use Rattle.schedule.proofs.Scheduled.running_heights.Goals as goal
use Rattle.schedule.proofs.Scheduled.running_heights.Goals.{then-is_running, else-is_running}

pub heights_of-heights-requires : goal.heights_of-heights-requires
heights_of-heights-requires c = room_in _ _ c.args.self.now.tested.plan.now.heights.now c.args.self.now.tested.passed.heights _ c.requires

pub triple_at-requires : goal.triple_at-requires
triple_at-requires c =
    let all = one-each c.args.self.now.tested.passed c.requires c.heights_of-heights.ensures in
    omega (arith, all, c.loop-i-test.true, c.args.self.now.sized)

pub loop-i-init : goal.loop-i-init
unfolding sum_where sum_to
loop-i-init c = (omega arith, refl)

pub plus-sum-requires : goal.plus-sum-requires
plus-sum-requires c =
    let passed = c.args.self.now.tested.passed in
    let all = one-each passed c.requires c.heights_of-heights.ensures in
    let low = height-small passed c.requires in
    let sum = where-most _ _ _ _ most_height c.loop-i.invariant.1 (λ j l. low j (omega (arith, l, all, c.loop-i-test.true))) in
    let own = low c.loop-i.i (omega (arith, all, c.loop-i-test.true)) in
    omega (arith, all, passed.tasks, sum, own, height-is _ _ c.heights_of-heights.ensures c.loop-i.i)

pub loop-i-preserved : goal.loop-i-preserved
loop-i-preserved c =
    let sum-is = c.loop-i.invariant.1 in
    let is = c.triple_at.ensures in
    let runs-is = c.is_running.ensures in
    let own = height-is _ _ c.heights_of-heights.ensures c.loop-i.i in (
      omega arith,
      elim c.if-is_running.branch [
        | then-is_running w ↦
            number_of w.sum-is ∙ added _ (ap height own) w.plus-sum.ensures
            ∙ where-more _ _ _ _ sum-is (runs_as _ _ is _ _ _ runs-is w.if-is_running.true)
        | else-is_running w ↦ number_of w.sum-is ∙ where-skip _ _ _ _ sum-is (runs_as _ _ is _ _ _ runs-is w.if-is_running.false)
      ],
    )

pub returns : goal.returns
unfolding running heights_where
returns c =
    let all : c.loop-i.i ≡ task_count (plan_in c.args.self.now.tested.plan.now) =
    omega (arith, c.loop-i-test.false, c.loop-i.invariant.0, one-each c.args.self.now.tested.passed c.requires c.heights_of-heights.ensures) in
    rw all at c.loop-i.invariant.1
