use Rattle.plan_lines.proofs.Following.{task-broken, task-not, task-next}
use Rattle.plan_lines.proofs.with_task.Goals.{then-not-may_come-via-then-not-may_come, then-not-may_come-via-else-not-may_come+then-not-is_task_line}
use Rattle.plan_lines.proofs.with_task.Goals as goal

pub returns-then-not-may_come : goal.returns-then-not-may_come
returns-then-not-may_come c =
    λ r n calendars ns begin held.
    elim c.then-not-may_come.branch [
      | then-not-may_come-via-then-not-may_come w ↦ task-broken held ns c.may_come.ensures _ _ w.if-not-may_come.true
      | then-not-may_come-via-else-not-may_come+then-not-is_task_line w ↦
          task-not held ns c.may_come.ensures begin.counted w.is_task_line.ensures _ _ w.if-not-is_task_line.true
    ]

pub returns : goal.returns
returns c =
    λ r n calendars ns begin held.
    task-next held ns c.may_come.ensures begin.counted c.is_task_line.ensures _ c.if-not-may_come.false
    c.if-not-is_task_line.false (c.store_task.ensures r.capacities ns r.pairs r.tasks held.rooms held.tasks begin)
