use Rattle.plan_text.proofs.Within.{within}
use Rattle.plan_text.proofs.memory.PlanMemory.finish.Goals as goal

pub returns-clause-limits : goal.returns-clause-limits
returns-clause-limits c =
    let (text, read) = c.requires in
    within _ _ _ _ _ _ _ _ _ (c.finish_plan.ensures text read)
