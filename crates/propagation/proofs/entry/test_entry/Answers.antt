use mathlib.Core.Path.{sym, ◌∙◌}
use Rattle.steps.proofs.Entry.{other-tasks, other-steps, right-size}
use Rattle.propagation.proofs.entry.test_entry.Goals as goal
use Rattle.propagation.proofs.entry.test_entry.Goals.{then-not-is_right_size-via-then-not-is_right_size}
use Rattle.propagation.proofs.entry.test_entry.Goals.{then-not-is_right_size-via-else-not-is_right_size+then-not-has_one_for_each_step}

pub returns-then-not-is_right_size : goal.returns-then-not-is_right_size
returns-then-not-is_right_size c =
    elim c.then-not-is_right_size.branch [
      | then-not-is_right_size-via-then-not-is_right_size w ↦
          sym (other-tasks _ _ _ _ _ (sym c.is_right_size.ensures ∙ w.if-not-is_right_size.true))
      | then-not-is_right_size-via-else-not-is_right_size+then-not-has_one_for_each_step w ↦
          sym (other-steps _ _ _ _ _ (sym w.has_one_for_each_step.ensures ∙ w.if-not-has_one_for_each_step.true))
    ]

pub test_plan-requires : goal.test_plan-requires
test_plan-requires c = sym c.is_right_size.ensures ∙ c.if-not-is_right_size.false

pub returns : goal.returns
returns c =
    c.test_plan.ensures
    ∙ sym
    (right-size _ _ _ _ _ (sym c.is_right_size.ensures ∙ c.if-not-is_right_size.false)
    (sym c.has_one_for_each_step.ensures ∙ c.if-not-has_one_for_each_step.false))
