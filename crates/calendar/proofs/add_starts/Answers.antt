use mathlib.Core.Path.{ap, ◌∙◌}
use Prim.Native.Nat.{◌-◌, ◌≤◌}
use native.Mathlib.Omega.{arith}
use Rattle.units.proofs.Hours.{lt-cmp, before, not-before}
use Rattle.plan.specs.Calendars.{letters_in}
use Rattle.stretches.specs.declared.Reach.{Reach}
use Rattle.stretches.specs.Inner.Stretches.{shortest_at, lengthened}
use Rattle.stretches.proofs.Fours.{nothing-reach, none-ends, each-lasts}
use Rattle.calendar.proofs.Finding.{found-none}
use Rattle.calendar.proofs.add_starts.Goals as goal

-- there is no start
pub returns-then-lt : goal.returns-then-lt
returns-then-lt c = found-none _ _ _ (before _ _ (c.lt.ensures ∙ lt-cmp _ _) c.if-lt.true) c.requires.nothing

pub worked_on-shortest-requires : goal.worked_on-shortest-requires
worked_on-shortest-requires c =
    let some : c.args.task.now.bounds.earliest.0 ≤ c.args.task.now.bounds.latest.0 = not-before _ _ (c.lt.ensures ∙ lt-cmp _ _) c.if-lt.false in
    rw c.nothing_at.ensures (nothing-reach _ _ (omega (arith, some, c.requires.ready.latest)) c.requires.ready.short)

pub lasted_on-longest-requires : goal.lasted_on-longest-requires
lasted_on-longest-requires c =
    let some : c.args.task.now.bounds.earliest.0 ≤ c.args.task.now.bounds.latest.0 = not-before _ _ (c.lt.ensures ∙ lt-cmp _ _) c.if-lt.false in
    (omega (arith, some, c.requires.ready.latest), c.requires.ready.short)

pub add_from-requires-clause-short : goal.add_from-requires-clause-short
add_from-requires-clause-short c =
    let cal = letters_in c.args.task.now.calendar in
    let p = c.args.task.now.work_time.0 in
    let b = c.args.task.now.bounds in
    let (short, near) = c.worked_on-shortest.ensures in
    let from-nothing = near ∙ ap (λ (r : Reach). lengthened cal b.earliest.0 (shortest_at cal p b b.earliest.0) (r.end.0 - b.earliest.0)) c.nothing_at.ensures in
    (short, none-ends cal b.earliest.0 p b c.worked_on-shortest.result from-nothing)

pub add_from-requires-clause-long : goal.add_from-requires-clause-long
add_from-requires-clause-long c =
    let (long, sure) = c.lasted_on-longest.ensures in (
      long,
      each-lasts (letters_in c.args.task.now.calendar) c.args.task.now.bounds.earliest.0 c.args.task.now.work_time.0 c.args.task.now.bounds
          c.lasted_on-longest.result sure,
    )
