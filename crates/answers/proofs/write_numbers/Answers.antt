use mathlib.Core.Path.{refl}
use Rattle.answers.specs.Numbers.{write_numbers}
use Rattle.answers.proofs.write_numbers.Goals as goal

pub returns-in-Err : goal.returns-in-Err
unfolding write_numbers
returns-in-Err c = rw c.in-Err.is c.refused.ensures

pub returns-in-Ok : goal.returns-in-Ok
unfolding write_numbers
returns-in-Ok c = rw c.in-Ok.is refl
