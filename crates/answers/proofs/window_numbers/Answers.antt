use Rattle.answers.specs.Numbers.{window_numbers}
use Rattle.answers.proofs.window_numbers.Goals as goal

pub returns : goal.returns
unfolding window_numbers
returns c =
    rw (
      c.with_triple.ensures,
      c.with_triple-lower_overtime.ensures,
      c.with_triple-elapsed.ensures,
      c.with_triple-lower_elapsed.ensures,
      c.with_triple-start.ensures,
      c.with_triple-lower_start.ensures,
      c.copy_from_slice.ensures.after,
      c.bound_numbers.ensures,
    )
