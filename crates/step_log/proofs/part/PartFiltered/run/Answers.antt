use native.Mathlib.Omega.{arith}
use Rattle.step_log.proofs.Filtering.{blank, refused-as, count-is, count-inside, ran-as}
use Rattle.step_log.proofs.part.PartFiltered.run.Goals as goal

pub returns-in_err-filtered : goal.returns-in_err-filtered
unfolding blank
returns-in_err-filtered c = refused-as _ _ _ c.part_end.ensures _ _ _ _ c.from_residual.ensures.1 _ _ _ _ c.in_err-filtered.ensures

pub overflow_sub-steps : goal.overflow_sub-steps
unfolding blank
overflow_sub-steps c = omega (arith, count-is _ _ _ c.part_end.ensures _ _ _ _ _ _ _ c.in_ok-filtered.ensures)

pub invariant_of-steps : goal.invariant_of-steps
unfolding blank
invariant_of-steps c = record { counted = count-inside _ _ _ c.part_end.ensures _ _ _ _ _ _ _ c.in_ok-filtered.ensures }

pub returns : goal.returns
unfolding blank
returns c = ran-as _ _ _ c.part_end.ensures _ _ _ _ _ _ _ c.in_ok-filtered.ensures _
