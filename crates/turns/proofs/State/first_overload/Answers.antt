use mathlib.Core.Path.{sym, ap, ◌∙◌}
use native.Mathlib.Omega.{arith}
use lib.ListN.{length, get_or}
use Rattle.units.proofs.Searching.{unfound-first, unfound-next, unfound-hit, unfound-end}
use Rattle.plan.proofs.Passed.{room-length}
use Rattle.turns.specs.Inner.Finding.{room_overload, first_overload}
use Rattle.turns.proofs.State.first_overload.Goals as goal

pub loop-room-init : goal.loop-room-init
loop-room-init c = unfound-first

pub room_overload-requires : goal.room_overload-requires
room_overload-requires c =
    let all = ap length c.room_part-in_room.ensures ∙ room-length _ _ c.args.loads.now c.requires _ c.loop-room-test.true in
    omega (arith, all, c.args.self.now.short)

pub returns-in-Some : goal.returns-in-Some
unfolding first_overload
returns-in-Some c =
    let capacity = get_or c.args.self.now.plan.now.capacities.now c.loop-room.room 0 in
    let room = c.room_overload.ensures ∙ ap (λ l. room_overload c.loop-room.room l capacity) c.room_part-in_room.ensures in
    sym (unfound-hit c.loop-room.invariant c.loop-room-test.true (sym room ∙ c.in-Some.is))

pub loop-room-preserved : goal.loop-room-preserved
loop-room-preserved c =
    let capacity = get_or c.args.self.now.plan.now.capacities.now c.loop-room.room 0 in
    let room = c.room_overload.ensures ∙ ap (λ l. room_overload c.loop-room.room l capacity) c.room_part-in_room.ensures in
    unfound-next c.loop-room.invariant c.loop-room-test.true (sym room ∙ c.in_default.is)

pub returns : goal.returns
unfolding first_overload
returns c = sym (unfound-end c.loop-room.invariant c.loop-room-test.false)
