use mathlib.Core.Path.{sym, ap, ◌∙◌}
use Rattle.units.specs.Limits.{hour, duration, is_hour, is_work_time, is_overtime}
use Rattle.units.specs.Choice.{some_if}
use Rattle.units.proofs.Choices.{none-if}
use Rattle.units.proofs.Hours.{le-cmp}
use Rattle.units.proofs.Ranges.{made, not-starts, not-lengths, by-overtimes}
use Rattle.units.proofs.Bounds.of_task.Goals as goal

pub returns-then-not-are_in_order : goal.returns-then-not-are_in_order
returns-then-not-are_in_order c =
    let s = made (is_hour _) _ hour _ _ (le-cmp _ _) c.of_plan-earliest.ensures c.of_plan-latest.ensures c.are_in_order.ensures in
    sym (none-if _ _ (not-starts _ _ _ (sym s ∙ c.if-not-are_in_order.true)))

pub returns-then-not-are_in_order-2 : goal.returns-then-not-are_in_order-2
returns-then-not-are_in_order-2 c =
    let l = made (is_work_time _) _ duration _ _ (le-cmp _ _) c.of_work-shortest.ensures c.of_work-longest.ensures c.are_in_order-2.ensures in
    sym (none-if _ _ (not-lengths _ _ _ (sym l ∙ c.if-not-are_in_order-2.true)))

pub returns : goal.returns
returns c =
    let s = made (is_hour _) _ hour _ _ (le-cmp _ _) c.of_plan-earliest.ensures c.of_plan-latest.ensures c.are_in_order.ensures in
    let l = made (is_work_time _) _ duration _ _ (le-cmp _ _) c.of_work-shortest.ensures c.of_work-longest.ensures c.are_in_order-2.ensures in
    let o = made (is_overtime _) _ duration _ _ (le-cmp _ _) c.of_overtime-fewest.ensures c.of_overtime-most.ensures c.are_in_order-3.ensures in
    c.then_some.ensures
    ∙ ap (λ b. some_if b c.args.b) (o ∙ by-overtimes _ _ _ (sym s ∙ c.if-not-are_in_order.false) (sym l ∙ c.if-not-are_in_order-2.false))
