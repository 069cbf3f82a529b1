use mathlib.Core.Path.{sym, ◌∙◌}
use Rattle.units.proofs.Choices.{and_left, else-none, else-some}
use Rattle.plan.specs.Faults.{plan_fault}
use Rattle.plan.specs.Over.{packed_plan_fault}
use Rattle.plan.proofs.Refusals.{handed-on}
use Rattle.plan.proofs.Passed.{sized, calendars-passed}
use Rattle.plan.proofs.Letters.{letters-pass}
use Rattle.input.proofs.test_plan.Goals as goal

pub returns-in_err-test_calendars : goal.returns-in_err-test_calendars
unfolding packed_plan_fault
returns-in_err-test_calendars c = handed-on _ _ c.from_residual.ensures.1 ∙ sym (else-some _ _ _ (sym c.in_err-test_calendars.ensures))

pub returns-in_err-test_counts : goal.returns-in_err-test_counts
unfolding packed_plan_fault plan_fault
returns-in_err-test_counts c =
    let packed = sym c.in_ok-test_calendars.ensures in
    handed-on _ _ c.from_residual-in_err-test_counts.ensures.1
    ∙ sym (else-none _ _ packed ∙ else-none _ _ (letters-pass _ _ packed) ∙ else-some _ _ _ (sym c.in_err-test_counts.ensures))

pub test_tasks-requires : goal.test_tasks-requires
test_tasks-requires c =
    let size = sized _ _ _ _ _ (and_left _ _ c.requires) in
    record {
      some_hours = (calendars-passed (letters-pass _ _ (sym c.in_ok-test_calendars.ensures))).some_hours;
      work_times = size.work_times;
      heights = size.heights;
      boxes = size.boxes;
    }

pub returns-in_err-test_tasks : goal.returns-in_err-test_tasks
unfolding packed_plan_fault plan_fault
returns-in_err-test_tasks c =
    let packed = sym c.in_ok-test_calendars.ensures in
    handed-on _ _ c.from_residual-in_err-test_tasks.ensures.1
    ∙ sym (else-none _ _ packed
    ∙ else-none _ _ (letters-pass _ _ packed)
    ∙ else-none _ _ (sym c.in_ok-test_counts.ensures)
    ∙ else-some _ _ _ (sym c.in_err-test_tasks.ensures))

pub returns : goal.returns
unfolding packed_plan_fault plan_fault
returns c =
    let packed = sym c.in_ok-test_calendars.ensures in
    c.test_pairs.ensures
    ∙ sym (else-none _ _ packed
    ∙ else-none _ _ (letters-pass _ _ packed)
    ∙ else-none _ _ (sym c.in_ok-test_counts.ensures)
    ∙ else-none _ _ (sym c.in_ok-test_tasks.ensures))
