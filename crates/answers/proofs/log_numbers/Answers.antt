use mathlib.Core.Path.{refl}
use Rattle.answers.specs.Numbers.{log_numbers}
use Rattle.answers.proofs.log_numbers.Goals as goal

pub returns-in-Err : goal.returns-in-Err
unfolding log_numbers
returns-in-Err c = rw c.in-Err.is c.refused.ensures

pub returns-in-Ok : goal.returns-in-Ok
unfolding log_numbers
returns-in-Ok c = rw c.in-Ok.is refl
