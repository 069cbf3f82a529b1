use mathlib.Core.Path.{refl}
use Rattle.answers.specs.Numbers.{schedule_numbers}
use Rattle.answers.proofs.schedule_numbers.Goals as goal

pub returns-in-Err : goal.returns-in-Err
unfolding schedule_numbers
returns-in-Err c = rw c.in-Err.is c.refused.ensures

pub returns-in-Ok : goal.returns-in-Ok
unfolding schedule_numbers
returns-in-Ok c = rw c.in-Ok.is refl
