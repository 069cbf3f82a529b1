use Rattle.capi.proofs.Left.{left-run}
use Rattle.capi.proofs.shimlantern_filter.Goals as goal

pub returns : goal.returns
returns c = rw (← c.new-plan.ensures) (left-run c.filter_numbers.ensures c.filter-filtered.ensures.answer)
