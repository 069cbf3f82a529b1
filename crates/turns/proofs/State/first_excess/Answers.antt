use Rattle.std.proofs.Common.{rules}
use mathlib.Core.Path.{refl, sym, ◌∙◌}
use Prim.Native.Nat.{◌+◌, ◌*◌, ◌<◌}
use native.Mathlib.Omega.{arith}
use lib.ListN.{length}
use Rattle.units.proofs.Choices.{some-if, none-if, first_next, first-hit}
use Rattle.units.proofs.Multiples.{part-within}
use Rattle.units.proofs.Searching.{unfound-first, unfound-next, unfound-hit, unfound-end}
use Rattle.plan.specs.Plan.{heights_of}
use Rattle.turns.specs.Inner.Finding.{first_excess}
use Rattle.turns.proofs.Searching.{never, passed, late, test-hour}
use Rattle.turns.proofs.State.first_excess.Goals as goal

pub outer-init : goal.outer-init
outer-init c = (refl, unfound-first)

pub outer-preserved-in_default : goal.outer-preserved-in_default
outer-preserved-in_default c =
    let inv = c.outer.invariant in
    (inv.0, unfound-next inv.1 (rw c.tasks-i-end.ensures at c.outer-test.true) (never _ _ _ _ _ c.in_default.is))

pub loop-t-init : goal.loop-t-init
loop-t-init c =
    let there = rw c.tasks-i-end.ensures at c.outer-test.true in (
      c.outer.invariant.0,
      passed _ _ _ _ _ _ _ c.in-Some.is c.bounds_at-b.ensures _ _ _ _ c.first_hour.ensures c.end_hour.ensures c.min-end.ensures there
          c.pass_hours-from.ensures,
    )

pub loop-t-preserved : goal.loop-t-preserved
loop-t-preserved c =
    let inv = c.loop-t.invariant in
    let there = rw c.tasks-i-end.ensures at c.outer-test.true in
    let tested =
    test-hour _ _ _ _ _ _ _ c.in-Some.is c.bounds_at-b.ensures _ _ _ _ _ c.first_hour.ensures c.end_hour.ensures
    c.min-end.ensures (omega (arith, c.pass_hours-from.ensures.0, c.loop-t.auto.t)) c.loop-t-test.true there c.has_excess.ensures in
    (inv.0, first_next _ _ inv.1 ∙ tested ∙ none-if _ _ c.if-has_excess.false)

pub outer-preserved : goal.outer-preserved
outer-preserved c =
    let inv = c.loop-t.invariant in (
      inv.0,
      unfound-next c.outer.invariant.1 (rw c.tasks-i-end.ensures at c.outer-test.true)
          (late _ _ _ _ _ _ _ c.in-Some.is c.bounds_at-b.ensures _ _ _ c.end_hour.ensures c.min-end.ensures c.loop-t-test.false inv.1),
    )

pub returns-after-outer : goal.returns-after-outer
unfolding first_excess
returns-after-outer c = let inv = c.outer.invariant in inv.0 ∙ sym (unfound-end inv.1 (rw c.tasks-i-end.ensures at c.outer-test.false))

pub returns-then-has_excess : goal.returns-then-has_excess
unfolding first_excess
returns-then-has_excess c =
    let there = rw c.tasks-i-end.ensures at c.outer-test.true in
    let tested =
    test-hour _ _ _ _ _ _ _ c.in-Some.is c.bounds_at-b.ensures _ _ _ _ _ c.first_hour.ensures c.end_hour.ensures
    c.min-end.ensures (omega (arith, c.pass_hours-from.ensures.0, c.loop-t.auto.t)) c.loop-t-test.true there c.has_excess.ensures in
    let below : c.loop-t.t < c.args.self.now.plan.now.shifts.hours.0 = omega (arith, c.loop-t-test.true, c.min-end.ensures) in
    rw c.letter.ensures
    (sym
    (unfound-hit c.outer.invariant.1 there
    (first-hit _ _ _ _ below c.loop-t.invariant.1 (tested ∙ some-if _ _ c.if-has_excess.true))))

pub has_excess-requires-clause-loads : goal.has_excess-requires-clause-loads
unfolding heights_of
has_excess-requires-clause-loads c = λ room l.
    let H = c.args.self.now.plan.now.shifts.hours.0 in
    let below : c.loop-t.t < H = omega (arith, c.loop-t-test.true, c.min-end.ensures) in
    let inside : room * H + c.loop-t.t < length c.args.loads.now = omega (arith, c.requires.each, part-within H _ room l) in
    let load = c.requires.load room l c.loop-t.t below in
    (search rules, search rules)
