use Rattle.capi.proofs.Left.{left-text}
use Rattle.capi.proofs.shimlantern_write_plan.Goals as goal

pub returns : goal.returns
returns c = rw (← c.new-plan.ensures) (left-text c.write_numbers.ensures c.write_plan-writing.ensures.answer)
