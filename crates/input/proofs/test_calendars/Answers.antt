use mathlib.Core.Path.{sym, ap, ◌∙◌}
use Rattle.units.specs.Limits.{most_hours}
use Rattle.units.proofs.Ranges.{from-least}
use Rattle.plan.proofs.Refusals.{go_on, refuse, handed-on-as, none-there, one-there}
use Rattle.plan.specs.Faults.{is_calendars, packed_fault}
use Rattle.plan.proofs.Bytes.{some-bytes}
use Rattle.input.proofs.test_calendars.Goals as goal

pub returns-in_err-ok_or : goal.returns-in_err-ok_or
unfolding packed_fault
returns-in_err-ok_or c =
    let none = none-there _ _ _ c.of_plan.ensures c.in_err-ok_or.ensures.value in
    handed-on-as _ c.from_residual.ensures.1 none.1 ∙ sym (refuse _ 2 0 _ none.0)

pub has_calendars-requires : goal.has_calendars-requires
has_calendars-requires c =
    let one = one-there _ _ _ c.of_plan.ensures c.in_ok-ok_or.ensures.value in
    rw c.bytes_of.ensures.0 (some-bytes _ (from-least 1 most_hours _ one.0))

pub returns-then-not-has_calendars : goal.returns-then-not-has_calendars
unfolding packed_fault
returns-then-not-has_calendars c =
    let one = one-there _ _ _ c.of_plan.ensures c.in_ok-ok_or.ensures.value in
    let whole = sym (c.has_calendars.ensures ∙ ap (λ n. is_calendars n c.args.calendars.now) c.bytes_of.ensures.0) in
    sym (go_on _ 2 0 _ one.0 ∙ refuse _ 3 0 _ (whole ∙ c.if-not-has_calendars.true))

pub test_packing-requires : goal.test_packing-requires
test_packing-requires c =
    let one = one-there _ _ _ c.of_plan.ensures c.in_ok-ok_or.ensures.value in
    from-least 1 most_hours _ one.0

pub returns : goal.returns
unfolding packed_fault
returns c =
    let one = one-there _ _ _ c.of_plan.ensures c.in_ok-ok_or.ensures.value in
    let whole = sym (c.has_calendars.ensures ∙ ap (λ n. is_calendars n c.args.calendars.now) c.bytes_of.ensures.0) in
    c.test_packing.ensures ∙ sym (go_on _ 2 0 _ one.0 ∙ go_on _ 3 0 _ (whole ∙ c.if-not-has_calendars.false))
