use Prim.Native.Nat.{◌+◌}
use native.Mathlib.Omega.{arith}
use lib.ListN.{length}
use Rattle.plan_records.specs.Inner.Lines.{Finds}
use Rattle.plan_lines.specs.Inner.Scanning.{Follows}
use Rattle.plan_lines.proofs.Following.{line-none, line-is, follows}
use Rattle.plan_lines.proofs.with_line.Goals as goal

pub returns-in_err-count : goal.returns-in_err-count
unfolding Finds Follows
returns-in_err-count c = λ r n held. rw c.from_residual.ensures (line-none r _ c.in_err-count.ensures)

pub with_plan-requires : goal.with_plan-requires
unfolding Finds
with_plan-requires c =
    let (ns, e, least, begin) = rw c.in-Plan.is at c.in_ok-count.ensures in
    least

pub with_calendar-requires : goal.with_calendar-requires
unfolding Finds
with_calendar-requires c =
    let found = rw c.in-Cal.is at c.in_ok-count.ensures in
    (c.requires.0, c.requires.1, omega (arith, c.requires.2, found.1))

pub returns-in-Plan : goal.returns-in-Plan
unfolding Finds
returns-in-Plan c =
    λ r n held.
    let (ns, e, least, begin) = rw c.in-Plan.is at c.in_ok-count.ensures in
    follows _ n (n + (length c.args.line.now + 1)) _ _ (line-is r _ _ e) (omega arith) (c.with_plan.ensures r n _ ns begin held)

pub returns-in-Cal : goal.returns-in-Cal
unfolding Finds
returns-in-Cal c =
    λ r n held.
    let (e, part) = rw c.in-Cal.is at c.in_ok-count.ensures in
    follows _ (n + (length c.in-Cal.calendar.now + 1)) (n + (length c.args.line.now + 1)) _ _ (line-is r _ _ e) (omega (arith, part))
    (c.with_calendar.ensures r n _ held)

pub returns-in-Task : goal.returns-in-Task
unfolding Finds
returns-in-Task c =
    λ r n held.
    let (ns, e, least, begin) = rw c.in-Task.is at c.in_ok-count.ensures in
    follows _ (n + 1) (n + (length c.args.line.now + 1)) _ _ (line-is r _ _ e) (omega arith) (c.with_task.ensures r n _ ns begin held)

pub returns-in-After : goal.returns-in-After
unfolding Finds
returns-in-After c =
    λ r n held.
    let (ns, e, begin) = rw c.in-After.is at c.in_ok-count.ensures in
    follows _ (n + 1) (n + (length c.args.line.now + 1)) _ _ (line-is r _ _ e) (omega arith) (c.with_pair.ensures r n _ ns begin held)
