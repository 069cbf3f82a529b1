use native.Mathlib.Omega.{arith}
use Rattle.plan_lines.proofs.Numbering.{begin-rooms}
use Rattle.plan_lines.proofs.Following.{plan-broken, plan-next}
use Rattle.plan_lines.proofs.with_plan.Goals as goal

pub returns-then-not-may_come : goal.returns-then-not-may_come
returns-then-not-may_come c = λ r n calendars ns begin held. plan-broken held begin c.may_come.ensures _ c.if-not-may_come.true

pub returns : goal.returns
returns c =
    λ r n calendars ns begin held.
    plan-next held begin c.may_come.ensures _ c.if-not-may_come.false c.requires (omega arith)
    (c.store_capacities.ensures ns (begin-rooms begin c.requires))
