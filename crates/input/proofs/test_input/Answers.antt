use mathlib.Core.Path.{sym, ◌∙◌}
use Rattle.plan.specs.Over.{memory_fault}
use Rattle.plan.proofs.Refusals.{go_on, refuse}
use Rattle.input.proofs.test_input.Goals as goal

pub returns-then-not-is_right_size : goal.returns-then-not-is_right_size
unfolding memory_fault
returns-then-not-is_right_size c = sym (refuse _ 31 0 _ (sym c.is_right_size.ensures ∙ c.if-not-is_right_size.true))

pub returns : goal.returns
unfolding memory_fault
returns c =
    c.test_plan.ensures ∙ sym (go_on _ 31 0 _ (sym c.is_right_size.ensures ∙ c.if-not-is_right_size.false))
