use mathlib.Core.Path.{refl, sym, ◌∙◌}
use Rattle.units.proofs.Hours.{gt-cmp}
use Rattle.units.proofs.Searching.{unfound-first, unfound-next, unfound-hit, unfound-end}
use Rattle.plan.proofs.Refusals.{unless-true, unless-false}
use Rattle.schedule.specs.Entry.{room_fault, hour_fault}
use Rattle.schedule.proofs.Entry.{exceeds, allows}
use Rattle.schedule.proofs.Scheduled.test_hour.Goals as goal

pub loop-room-init : goal.loop-room-init
loop-room-init c = unfound-first

pub returns-then-gt : goal.returns-then-gt
unfolding room_fault hour_fault
returns-then-gt c =
    let over = unless-false _ 16 _ (exceeds _ _ _ _ c.running_heights-running.ensures refl _ (c.gt.ensures ∙ gt-cmp _ _) c.if-gt.true) in
    sym (unfound-hit c.loop-room.invariant c.loop-room-test.true over)

pub loop-room-preserved : goal.loop-room-preserved
unfolding room_fault
loop-room-preserved c =
    let allowed = unless-true _ 16 _ (allows _ _ _ _ c.running_heights-running.ensures refl _ (c.gt.ensures ∙ gt-cmp _ _) c.if-gt.false) in
    unfound-next c.loop-room.invariant c.loop-room-test.true allowed

pub returns : goal.returns
unfolding hour_fault
returns c = sym (unfound-end c.loop-room.invariant c.loop-room-test.false)
