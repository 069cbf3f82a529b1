use mathlib.Core.Path.{sym, ap, ◌∙◌}
use Rattle.std.proofs.lemmas.Bool.{not-true, not-false}
use Rattle.plan.proofs.Refusals.{handed-on-as, none-there, one-there}
use Rattle.plan_lines.specs.Inner.Scanning.{wrong_symbol_fault}
use Rattle.plan_text.proofs.Judging.{no-hours, no-calendars, uneven, by-symbol}
use Rattle.plan_text.proofs.test_lines.Goals as goal
use Rattle.plan_text.proofs.test_lines.Goals.{then-not-is_count-via-then-not-is_count, then-not-is_count-via-else-not-is_count+then-not-scan}

pub returns-in_err-ok_or : goal.returns-in_err-ok_or
returns-in_err-ok_or c =
    λ r calendars cells held.
    let none = none-there _ _ _ c.of_plan.ensures c.in_err-ok_or.ensures.value in
    handed-on-as _ c.from_residual.ensures.1 none.1 ∙ no-hours held none.0

pub returns-then-not-is_count : goal.returns-then-not-is_count
returns-then-not-is_count c =
    λ r calendars cells held.
    let one = one-there _ _ _ c.of_plan.ensures c.in_ok-ok_or.ensures.value in
    elim c.then-not-is_count.branch [
      | then-not-is_count-via-then-not-is_count w ↦ no-calendars held one.0 (sym c.is_count.ensures ∙ w.if-not-is_count.true)
      | then-not-is_count-via-else-not-is_count+then-not-scan w ↦ uneven held one.0 (not-true _ w.if-not-scan.true)
    ]

pub returns-in-None : goal.returns-in-None
returns-in-None c =
    λ r calendars cells held.
    let one = one-there _ _ _ c.of_plan.ensures c.in_ok-ok_or.ensures.value in
    ap wrong_symbol_fault (sym c.in-None.is) ∙ by-symbol held one.0 (sym c.is_count.ensures ∙ c.if-not-is_count.false) (not-false _ c.if-not-scan.false)

pub returns-in-Some : goal.returns-in-Some
returns-in-Some c =
    λ r calendars cells held.
    let one = one-there _ _ _ c.of_plan.ensures c.in_ok-ok_or.ensures.value in
    ap wrong_symbol_fault (sym c.in-Some.is) ∙ by-symbol held one.0 (sym c.is_count.ensures ∙ c.if-not-is_count.false) (not-false _ c.if-not-scan.false)
