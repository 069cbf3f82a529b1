use mathlib.Core.Path.{sym, ◌∙◌}
use native.Mathlib.Omega.{arith}
use borrow.Author.Tests.{ltb-true}
use Rattle.plan.specs.Calendars.{letters_in}
use Rattle.stretches.proofs.Fours.{work-more}
use Rattle.stretches.proofs.Stretches.{counts-few, counts-within}
use Rattle.stretches.proofs.Task.worked_on.Goals as goal

pub is_far-requires : goal.is_far-requires
is_far-requires c = counts-few c.loop-at.invariant.0

pub with_more-at-requires : goal.with_more-at-requires
with_more-at-requires c =
    let is = c.loop-at.invariant.0 in
    (c.loop-at-test.true, omega (arith, c.len-limit.ensures), is.stretch.hours.short, (counts-within is).0, (counts-within is).1)

pub loop-at-preserved : goal.loop-at-preserved
loop-at-preserved c =
    let (is, same) = c.loop-at.invariant in
    let ((reach, as_long), later) =
    work-more (letters_in c.args.self.now.calendar) c.args.s.0 c.args.self.now.work_time.0 c.args.self.now.bounds _ _ _ is c.loop-at-test.true
    (omega (arith, c.len-limit.ensures)) (ltb-true _ _ (sym c.is_far.ensures ∙ c.if-is_far.true)) c.with_more-at.ensures in
    (reach, as_long ∙ same)
