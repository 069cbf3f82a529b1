use mathlib.Core.Path.{ap, ◌∙◌}
use Rattle.answers.specs.Numbers.{schedule_numbers}
use Rattle.capi.proofs.shimlantern_check_schedule.Goals as goal

pub returns : goal.returns
returns c = rw (← c.new-plan.ensures) (c.schedule_numbers.ensures ∙ ap schedule_numbers c.check_schedule-checked.ensures.answer)
