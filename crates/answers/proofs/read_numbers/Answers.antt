use mathlib.Core.Path.{refl}
use Rattle.answers.specs.Numbers.{read_numbers}
use Rattle.answers.proofs.read_numbers.Goals as goal

pub returns-in-Err : goal.returns-in-Err
unfolding read_numbers
returns-in-Err c = rw c.in-Err.is c.refused.ensures

pub returns-in-Ok : goal.returns-in-Ok
unfolding read_numbers
returns-in-Ok c = rw c.in-Ok.is refl
