use mathlib.Core.Path.{refl}
use Rattle.answers.specs.Numbers.{rule_numbers}
use Rattle.answers.proofs.rule_numbers.Goals as goal

pub returns-in-Err : goal.returns-in-Err
unfolding rule_numbers
returns-in-Err c = rw c.in-Err.is c.refused.ensures

pub returns-in-Ok-None : goal.returns-in-Ok-None
unfolding rule_numbers
returns-in-Ok-None c = rw (c.in-Ok-None.is, rw c.in-Ok-None.is at c.in-Ok-None.field-0-is) refl

pub returns-in-Ok-Some : goal.returns-in-Ok-Some
unfolding rule_numbers
returns-in-Ok-Some c = rw (c.in-Ok-Some.is, rw c.in-Ok-Some.is at c.in-Ok-Some.field-0-is) c.window_numbers.ensures
