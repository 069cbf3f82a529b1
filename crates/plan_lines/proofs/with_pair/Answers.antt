use Rattle.plan_lines.proofs.Following.{pair-broken, pair-next}
use Rattle.plan_lines.proofs.with_pair.Goals as goal

pub returns-then-not-may_come : goal.returns-then-not-may_come
returns-then-not-may_come c = λ r n calendars ns begin held. pair-broken held _ _ c.may_come.ensures _ _ c.if-not-may_come.true

pub returns : goal.returns
returns c =
    λ r n calendars ns begin held.
    pair-next held _ _ c.may_come.ensures _ c.if-not-may_come.false (c.store_pair.ensures r.hours r.capacities ns r.pairs r.tasks held.pairs begin)
