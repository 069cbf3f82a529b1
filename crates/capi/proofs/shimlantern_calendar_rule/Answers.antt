use mathlib.Core.Path.{ap, ◌∙◌}
use Rattle.units.specs.declared.Bounds.{Bounds}
use Rattle.calendar.specs.Entry.{packed_rule}
use Rattle.answers.specs.Numbers.{rule_numbers}
use Rattle.capi.proofs.shimlantern_calendar_rule.Goals as goal

pub returns : goal.returns
returns c =
    let args = c.args in
    c.rule_numbers.ensures
    ∙ ap rule_numbers
    (c.calendar_rule-found.ensures.answer
    ∙ ap (λ (b : Bounds). packed_rule args.hours args.calendar.now args.work_time b) c.bounds_at-b.ensures)
