use Rattle.plan.specs.Lent.{plan_in}
use Rattle.plan.specs.Plan.{task_count}
use Rattle.propagation.specs.Inner.Fitting.{Answered}
use Rattle.propagation.proofs.Replaying.{Replaying}
use Rattle.propagation.proofs.replay.replay_log.Given as goal

abbrev pub invariant-loop-k : goal.invariant-loop-k
invariant-loop-k l =
    Replaying (plan_in l.plan) l.after.steps l.after.impossible l.initial.boxes
    l.log_kinds l.log_tasks l.log_hours l.k l.impossible l.boxes l.answers.fits
    × Answered (plan_in l.plan).shifts (task_count (plan_in l.plan)) l.boxes l.answers
