use mathlib.Core.Path.{refl}
use Rattle.steps.specs.Entry.{ending_answer}
use Rattle.answers.specs.Numbers.{filter_numbers}
use Rattle.answers.proofs.filter_numbers.Goals as goal

pub returns-in-Err : goal.returns-in-Err
unfolding filter_numbers
returns-in-Err c = rw c.in-Err.is c.refused.ensures

pub returns-in-NoRoom : goal.returns-in-NoRoom
unfolding filter_numbers ending_answer
returns-in-NoRoom c = rw (c.in-Ok.is, c.in-NoRoom.is) refl

pub returns-in-Settled : goal.returns-in-Settled
unfolding filter_numbers ending_answer
returns-in-Settled c = rw (c.in-Ok.is, c.in-Settled.is) refl

pub returns-in-Impossible : goal.returns-in-Impossible
unfolding filter_numbers ending_answer
returns-in-Impossible c = rw (c.in-Ok.is, c.in-Impossible.is) refl
