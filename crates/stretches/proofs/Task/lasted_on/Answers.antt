use mathlib.Core.Path.{◌≡◌, sym, ap, ◌∙◌}
use Prim.Native.Nat.{ℕ, min, ◌-◌}
use native.Mathlib.Omega.{arith}
use lib.ListN.{length}
use borrow.Author.Tests.{leb-true}
use Rattle.units.proofs.Choices.{and_left, and_right}
use Rattle.plan.specs.Calendars.{letters_in}
use Rattle.plan.specs.HourKinds.{regular}
use Rattle.plan.specs.Packed.{letter_of}
use Rattle.stretches.specs.Inner.Stretches.{nothing_at, with_letter, longest_at, lengthened}
use Rattle.stretches.proofs.Coded.{counts-as, next-by}
use Rattle.stretches.proofs.FirstHour.{first-lasts}
use Rattle.stretches.proofs.Fours.{nothing-reach, last-more}
use Rattle.stretches.proofs.Stretches.{counts-few, counts-within, next-ready}
use Rattle.stretches.proofs.Task.lasted_on.Goals as goal

pub has_spare-requires : goal.has_spare-requires
has_spare-requires c = (counts-few c.loop-at.invariant.0).0

pub with_more-at-requires : goal.with_more-at-requires
with_more-at-requires c =
    let is = c.loop-at.invariant.0 in
    (c.loop-at-test.true, omega (arith, c.min-limit.ensures), is.stretch.hours.short, (counts-within is).0, (counts-within is).1)

pub loop-at-preserved : goal.loop-at-preserved
loop-at-preserved c =
    let (is, some, same) = c.loop-at.invariant in
    let spare = sym c.has_spare.ensures ∙ c.if-has_spare.true in
    let ((reach, as_long), later) =
    last-more (letters_in c.args.self.now.calendar) c.args.s.0 c.args.self.now.work_time.0 c.args.self.now.bounds _ _ _ _ is some c.loop-at-test.true
    (omega (arith, c.min-limit.ensures)) (omega (arith, c.wide.ensures.0, c.from.ensures, c.regular_count.ensures.0, counts-as (letters_in c.args.self.now.calendar) c.args.s.0 c.code_at-code.ensures regular)) (leb-true _ _ (and_left _ _ spare)) (leb-true _ _ (and_right _ _ spare)) c.with_more-at.ensures in
    (reach, omega (arith, some, later), as_long ∙ same)

none-yet : (s : ℕ) → s - s ≡ 0
none-yet s = omega arith

pub lasts_first-requires : goal.lasts_first-requires
lasts_first-requires c =
    rw c.nothing_at-none.ensures
    (nothing-reach _ c.args.s.0 (omega (arith, c.requires.0)) c.requires.1, omega arith, c.requires.0, c.code_at-code.ensures)

pub with_next-at-requires : goal.with_next-at-requires
with_next-at-requires c =
    rw c.nothing_at-none.ensures (next-ready (nothing-reach (letters_in c.args.self.now.calendar) c.args.s.0 (omega (arith, c.requires.0)) c.requires.1) c.requires.0)

pub returns-then-not-lasts_first : goal.returns-then-not-lasts_first
returns-then-not-lasts_first c =
    let cal = letters_in c.args.self.now.calendar in
    rw c.nothing_at-none.ensures (
      nothing-reach _ c.args.s.0 (omega (arith, c.requires.0)) c.requires.1,
      ap (lengthened cal c.args.s.0 (longest_at cal c.args.self.now.work_time.0 c.args.self.now.bounds c.args.s.0)) (none-yet c.args.s.0),
    )

pub loop-at-init : goal.loop-at-init
loop-at-init c =
    let cal = letters_in c.args.self.now.calendar in
    let is = nothing-reach cal c.args.s.0 (omega (arith, c.requires.0)) c.requires.1 in
    let lasts = sym c.lasts_first.ensures ∙ c.if-not-lasts_first.false in
    let (reach, some, as_long) = first-lasts is (omega arith) c.requires.0 c.args.self.now.work_time.0 c.args.self.now.bounds lasts in
    let made = c.with_next-at.ensures ∙ ap (with_letter (letter_of c.code_at-code.result.number)) c.nothing_at-none.ensures
    ∙ next-by cal (nothing_at c.args.s.0) c.code_at-code.ensures in
    rw made
    (reach, some, as_long ∙ ap (lengthened cal c.args.s.0 (longest_at cal c.args.self.now.work_time.0 c.args.self.now.bounds c.args.s.0)) (none-yet c.args.s.0))
