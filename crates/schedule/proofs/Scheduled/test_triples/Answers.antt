use mathlib.Core.Path.{sym, ◌∙◌}
use Prim.Native.Nat.{◌<◌}
use native.Mathlib.Omega.{arith}
use lib.ListN.{length}
use Rattle.units.proofs.Searching.{unfound-first, unfound-next, unfound-hit, unfound-end}
use Rattle.plan.proofs.Refusals.{handed-on}
use Rattle.schedule.proofs.Entry.{triple-is, calendar-small}
use Rattle.schedule.proofs.Readiness.{has-calendar}
use Rattle.schedule.proofs.Scheduled.test_triples.Goals as goal

pub loop-i-init : goal.loop-i-init
loop-i-init c = unfound-first

pub of_plan-task-requires : goal.of_plan-task-requires
of_plan-task-requires c =
    let passed = c.args.self.now.tested.passed in
    let l : c.loop-i.i < length c.args.self.now.tested.plan.now.shifts.task_calendars.now = omega (arith, c.loop-i-test.true, c.tasks-i-end.ensures) in
    (has-calendar passed l, omega (arith, l, passed.work_times), omega (arith, l, passed.boxes))

pub test_triple-requires : goal.test_triple-requires
test_triple-requires c = calendar-small _ _ _ c.of_plan-task.ensures.0 c.args.self.now.tested.passed.hours

pub returns-in_err-test_triple : goal.returns-in_err-test_triple
returns-in_err-test_triple c =
    let task = c.of_plan-task.ensures in
    let here = triple-is _ _ _ _ _ _ _ _ _ task.0 task.1 task.2 c.triple_at.ensures c.in_err-test_triple.ensures in
    handed-on _ _ c.from_residual.ensures.1
    ∙ sym (unfound-hit c.loop-i.invariant (omega (arith, c.loop-i-test.true, c.tasks-i-end.ensures)) (sym here))

pub loop-i-preserved : goal.loop-i-preserved
loop-i-preserved c =
    let task = c.of_plan-task.ensures in
    let here = triple-is _ _ _ _ _ _ _ _ _ task.0 task.1 task.2 c.triple_at.ensures c.in_ok-test_triple.ensures in
    unfound-next c.loop-i.invariant (omega (arith, c.loop-i-test.true, c.tasks-i-end.ensures)) (sym here)

pub returns : goal.returns
returns c = sym (unfound-end c.loop-i.invariant (omega (arith, c.loop-i-test.false, c.tasks-i-end.ensures)))
