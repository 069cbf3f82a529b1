use mathlib.Core.Path.{sym, ◌∙◌}
use Rattle.units.proofs.Searching.{unfound-first, unfound-next, unfound-hit, unfound-end}
use Rattle.plan.proofs.Refusals.{handed-on}
use Rattle.schedule.proofs.Scheduled.test_hours.Goals as goal

pub loop-hour-init : goal.loop-hour-init
loop-hour-init c = unfound-first

pub returns-in_err-test_hour : goal.returns-in_err-test_hour
returns-in_err-test_hour c =
    handed-on _ _ c.from_residual.ensures.1 ∙ sym (unfound-hit c.loop-hour.invariant c.loop-hour-test.true (sym c.in_err-test_hour.ensures))

pub loop-hour-preserved : goal.loop-hour-preserved
loop-hour-preserved c = unfound-next c.loop-hour.invariant c.loop-hour-test.true (sym c.in_ok-test_hour.ensures)

pub returns : goal.returns
returns c = sym (unfound-end c.loop-hour.invariant c.loop-hour-test.false)
