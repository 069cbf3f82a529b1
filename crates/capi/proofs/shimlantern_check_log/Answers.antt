use Rattle.capi.proofs.Left.{left-log}
use Rattle.capi.proofs.shimlantern_check_log.Goals as goal

pub returns : goal.returns
returns c = rw (← c.new-plan.ensures) (left-log _ c.log_numbers.ensures c.check_log-checked.ensures.answer)
