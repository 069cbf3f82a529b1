use mathlib.Core.Path.{◌≡◌, ap, ◌∙◌}
use native.Mathlib.Omega.{arith}
use Rattle.plan.specs.Plan.{calendar_count, first_symbol}
use Rattle.plan.specs.Lent.{plan_in}
use Rattle.plan_writing.proofs.Sections.{calendars-bytes, letters-few}
use Rattle.plan_writing.proofs.calendars_length.Goals as goal

letters : (c : goal.After-first_symbol)
    → let S = (plan_in c.args.tested.now.plan.now).shifts in c.first_symbol.result ≡ first_symbol S.hours (calendar_count S)
letters c = c.first_symbol.ensures ∙ ap (first_symbol c.args.tested.now.plan.now.shifts.hours.0) c.calendar_count-calendars.ensures

pub overflow_add-result : goal.overflow_add-result
overflow_add-result c =
    let passed = c.args.tested.now.passed in omega (arith, letters c, letters-few passed, c.calendar_count-calendars.ensures, passed.calendars)

pub returns : goal.returns
returns c =
    let passed = c.args.tested.now.passed in (
      omega (arith, letters c, calendars-bytes passed, c.calendar_count-calendars.ensures),
      omega (arith, letters c, letters-few passed, c.calendar_count-calendars.ensures, passed.calendars),
    )
