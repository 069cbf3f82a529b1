use mathlib.Core.Path.{◌≡◌, refl, sym, ap, ◌∙◌}
use Prim.Native.Nat.{◌<◌}
use native.Mathlib.Omega.{arith}
use lib.ListN.{length, get_or}
use Rattle.units.specs.Choice.{some_of}
use Rattle.units.proofs.Choices.{some_next}
use Rattle.plan.specs.Plan.{heights_of, height_of}
use Rattle.plan.proofs.Passed.{room-length, room_at}
use Rattle.turns.specs.Inner.Kept.{excess_by}
use Rattle.turns.proofs.Judging.{room-excess}
use Rattle.turns.proofs.State.pass_hours.Goals as goal

pub loop-room-init : goal.loop-room-init
unfolding some_of
loop-room-init c =
    (omega (arith, c.if-saturating_sub-lt-FEW.false, c.saturating_sub.ensures), omega arith, λ t l m. refl)

pub height_at-height-requires : goal.height_at-height-requires
unfolding heights_of
height_at-height-requires c =
    let rooms = c.args.self.now.ready.rooms_ready in
    let all = ap length c.heights_of.ensures ∙ room-length _ _ c.args.self.now.plan.now.heights.now rooms.each _ c.loop-room-test.true in
    omega (arith, all, c.requires.inside.0)

pub pass_room-passed-requires : goal.pass_room-passed-requires
pass_room-passed-requires c =
    let all = ap length c.room_part-in_room.ensures ∙ room-length _ _ c.args.loads.now c.requires.loaded.each _ c.loop-room-test.true in
    let inv = c.loop-room.invariant in
    (inv.0, omega (arith, all, inv.1, c.requires.inside.1))

pub loop-room-preserved : goal.loop-room-preserved
unfolding heights_of height_of
loop-room-preserved c =
    let inv = c.loop-room.invariant in
    let passed = c.pass_room-passed.ensures in
    let own = rw c.heights_of.ensures at c.height_at-height.ensures in (
      passed.0,
      omega (arith, passed.1, inv.1),
      λ t l m.
          let below : t < c.args.self.now.plan.now.shifts.hours.0 = omega (arith, passed.1, inv.1, c.requires.inside.1) in
          let load = ap (λ numbers. get_or numbers t 0) c.room_part-in_room.ensures
          ∙ room_at c.args.self.now.plan.now.shifts.hours.0 c.args.loads.now c.loop-room.room t below
          ∙ c.requires.loaded.load _ c.loop-room-test.true t below in
          some_next _ _ (inv.2 t l (omega (arith, passed.1))) ∙ sym (room-excess _ _ _ _ _ _ own load (sym (passed.2 t l m))),
    )

pub returns : goal.returns
unfolding excess_by
returns c =
    let inv = c.loop-room.invariant in
    let all : length c.args.self.now.plan.now.capacities.now ≡ c.loop-room.room =
    omega (arith, c.loop-room-test.false, c.loop-room.auto.room-end) in
    (inv.0, λ t l m. (omega (arith, m, inv.1), rw all (inv.2 t l m)))
