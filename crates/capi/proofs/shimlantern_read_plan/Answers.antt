use Rattle.capi.proofs.Left.{left-plan}
use Rattle.capi.proofs.shimlantern_read_plan.Goals as goal

pub returns : goal.returns
returns c =
    left-plan c.read_numbers.ensures
    c.read_plan-reading.ensures.answer
