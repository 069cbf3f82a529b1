use mathlib.Core.Path.{◌≡◌, refl, sym, ap, ◌∙◌}
use mathlib.Core.Bool.{not}
use Prim.Native.Nat.{◌+◌, ◌-◌, ◌<◌}
use native.Mathlib.Omega.{arith}
use lib.ListN.{length}
use borrow.Author.Tests.{leb-true, leb-false}
use Rattle.plan.specs.HourKinds.{regular}
use Rattle.plan.specs.Calendars.{letters_in}
use Rattle.units.proofs.Hours.{le-cmp, at-most, not-at-most}
use Rattle.stretches.specs.Inner.Stretches.{IsReach, longest_at, lengthened}
use Rattle.stretches.proofs.Coded.{counts-as, next-by, leaves-by, at-end}
use Rattle.stretches.proofs.Stretches.{counts-few, next-ready, next-reach, reach-miss, long-hit, stops-at, too-much, no-ends, more-lasts}
use Rattle.stretches.proofs.FirstHour.{first-not, first-lasts}
use Rattle.stretches.proofs.Task.lengthen.Goals as goal
use Rattle.stretches.proofs.Task.lengthen.Goals.{Joined-le, then-le+else-not-lasts_first, else-le}

pub overflow_add-at : goal.overflow_add-at
overflow_add-at c = omega (arith, counts-few c.loop-at.invariant.0)

pub leaves_overtime-requires : goal.leaves_overtime-requires
leaves_overtime-requires c = (counts-few c.loop-at.invariant.0).0

pub with_next-requires-in-loop-at : goal.with_next-requires-in-loop-at
with_next-requires-in-loop-at c = next-ready c.loop-at.invariant.0 (omega (arith, c.loop-at-test.true, c.min-limit.ensures))

pub loop-at-preserved : goal.loop-at-preserved
loop-at-preserved c =
    let (is, some, same) = c.loop-at.invariant in
    let inside : c.loop-at.at.end.0 < length (letters_in c.args.self.now.calendar) = omega (arith, c.loop-at-test.true, c.min-limit.ensures) in
    let long : c.loop-at.at.end.0 < c.args.s.0 + c.args.self.now.bounds.longest.0 = omega (arith, c.loop-at-test.true, c.min-limit.ensures) in
    let lasts =
    more-lasts is inside c.args.self.now.work_time.0 c.args.self.now.bounds some long
    (omega (arith, c.if-at-most.true, c.wide.ensures.0, c.from.ensures, c.regular_count.ensures.0, counts-as (letters_in c.args.self.now.calendar) c.args.s.0 c.requires.2 regular))
    (leb-true _ _ (sym (leaves-by (letters_in c.args.self.now.calendar) c.loop-at.at c.code_at.ensures _ _) ∙ sym c.if-leaves_overtime.ensures)) in
    rw (c.with_next-in-loop-at.ensures ∙ next-by (letters_in c.args.self.now.calendar) c.loop-at.at c.code_at-in-loop-at.ensures) (next-reach is inside, omega (arith, some), reach-miss is _ inside (ap not lasts) ∙ same)

-- with its first hour the reach is lengthened to where the one given is
begun : (c : Joined-le) → IsReach (letters_in c.args.self.now.calendar) c.args.s.0 c.if-le.at × (c.args.s.0 < c.if-le.at.end.0)
    × (lengthened (letters_in c.args.self.now.calendar) c.args.s.0
    (longest_at (letters_in c.args.self.now.calendar) c.args.self.now.work_time.0 c.args.self.now.bounds c.args.s.0) (c.if-le.at.end.0 - c.args.s.0)
    ≡ lengthened (letters_in c.args.self.now.calendar) c.args.s.0
    (longest_at (letters_in c.args.self.now.calendar) c.args.self.now.work_time.0 c.args.self.now.bounds c.args.s.0) (c.args.at.now.end.0 - c.args.s.0))
begun c =
    let cal = letters_in c.args.self.now.calendar in
    elim c.if-le.branch [
      | then-le+else-not-lasts_first w ↦
          let none = at-most _ _ (c.le.ensures ∙ le-cmp c.args.at.now.end.0 c.args.s.0) w.if-le.true in
          let code = at-end _ cal c.args.s.0 c.args.at.now c.requires.0 none c.requires.2 in
          rw (w.at-is ∙ w.with_next.ensures ∙ next-by cal c.args.at.now code)
          (first-lasts c.requires.0 none c.requires.1 _ _ (sym w.lasts_first.ensures ∙ w.if-not-lasts_first.false))
      | else-le w ↦ rw w.at-is (c.requires.0, not-at-most _ _ (c.le.ensures ∙ le-cmp c.args.at.now.end.0 c.args.s.0) w.if-le.false, refl)
    ]

pub lasts_first-requires : goal.lasts_first-requires
lasts_first-requires c =
    (c.requires.0, at-most _ _ (c.le.ensures ∙ le-cmp c.args.at.now.end.0 c.args.s.0) c.if-le.true, c.requires.1, c.requires.2)

pub with_next-requires : goal.with_next-requires
with_next-requires c =
    let none = at-most _ _ (c.le.ensures ∙ le-cmp c.args.at.now.end.0 c.args.s.0) c.if-le.true in
    next-ready c.requires.0 (omega (arith, none, c.requires.1))

pub returns-then-not-lasts_first : goal.returns-then-not-lasts_first
returns-then-not-lasts_first c =
    let none = at-most _ _ (c.le.ensures ∙ le-cmp c.args.at.now.end.0 c.args.s.0) c.if-le.true in
    (c.requires.0, first-not c.requires.0 none c.requires.1 _ _ (sym c.lasts_first.ensures ∙ c.if-not-lasts_first.true))

pub loop-at-init : goal.loop-at-init
loop-at-init c = let (is, some, same) = begun (goal.at.loop-at-init c).Joined-le in (is, some, refl)

-- where it stops, it may last no longer
pub returns-else-leaves_overtime : goal.returns-else-leaves_overtime
returns-else-leaves_overtime c =
    let (is, some, same) = c.loop-at.invariant in
    let inside : c.loop-at.at.end.0 < length (letters_in c.args.self.now.calendar) = omega (arith, c.loop-at-test.true, c.min-limit.ensures) in
    let known = begun (goal.at.returns-else-leaves_overtime c).Joined-le in
    let stop = too-much is inside _ _ (leb-false _ _ (sym (leaves-by (letters_in c.args.self.now.calendar) c.loop-at.at c.code_at.ensures _ _) ∙ sym c.if-leaves_overtime.ensures)) in
    (is, sym (long-hit _ _ _ _ (ap not stop)) ∙ same ∙ known.2)

pub returns-else-at-most : goal.returns-else-at-most
returns-else-at-most c =
    let (is, some, same) = c.loop-at.invariant in
    let inside : c.loop-at.at.end.0 < length (letters_in c.args.self.now.calendar) = omega (arith, c.loop-at-test.true, c.min-limit.ensures) in
    let known = begun (goal.at.returns-else-at-most c).Joined-le in
    let stop = no-ends is inside _ _ some (omega (arith, c.if-at-most.false, c.wide.ensures.0, c.from.ensures, c.regular_count.ensures.0, counts-as (letters_in c.args.self.now.calendar) c.args.s.0 c.requires.2 regular)) in
    (is, sym (long-hit _ _ _ _ (ap not stop)) ∙ same ∙ known.2)

pub returns-after-loop-at : goal.returns-after-loop-at
returns-after-loop-at c =
    let (is, some, same) = c.loop-at.invariant in
    let known = begun (goal.at.returns-after-loop-at c).Joined-le in
    (is, sym (stops-at is _ _ (omega (arith, c.loop-at-test.false, c.min-limit.ensures))) ∙ same ∙ known.2)
