use mathlib.Core.Path.{sym, ◌∙◌}
use Rattle.plan.proofs.Refusals.{go_on, refuse, unless-true, unless-false}
use Rattle.schedule.specs.Entry.{one_triple_fault}
use Rattle.schedule.proofs.test_triple.Goals as goal

pub returns-then-not-is_in_bounds : goal.returns-then-not-is_in_bounds
unfolding one_triple_fault
returns-then-not-is_in_bounds c = sym (refuse _ 14 _ _ (sym c.is_in_bounds.ensures ∙ c.if-not-is_in_bounds.true))

pub returns-then-not-is_valid : goal.returns-then-not-is_valid
unfolding one_triple_fault
returns-then-not-is_valid c =
    sym
    (go_on _ 14 _ _ (sym c.is_in_bounds.ensures ∙ c.if-not-is_in_bounds.false)
    ∙ unless-false _ 15 _ (sym c.is_valid.ensures ∙ c.if-not-is_valid.true))

pub returns : goal.returns
unfolding one_triple_fault
returns c =
    sym
    (go_on _ 14 _ _ (sym c.is_in_bounds.ensures ∙ c.if-not-is_in_bounds.false)
    ∙ unless-true _ 15 _ (sym c.is_valid.ensures ∙ c.if-not-is_valid.false))
