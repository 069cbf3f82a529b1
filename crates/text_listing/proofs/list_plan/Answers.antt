use Rattle.text_listing.proofs.Programs.{put_as, plan-listed}
use Rattle.text_listing.specs.Program.{empty_memory}
use Rattle.text_listing.proofs.list_plan.Goals as goal

pub returns : goal.returns
unfolding empty_memory
returns c =
    put_as _ (rw c.tasks.ensures (plan-listed _ _ _ _ _ _ _ c.filter-answer.ensures.answer)) c.list_run.ensures.0 c.list_run.ensures.1
