use mathlib.Core.Path.{◌∙◌}
use native.Mathlib.Omega.{arith}
use Rattle.plan.specs.Plan.{heights_of}
use Rattle.turns.proofs.Loading.{room-number, room-within, rooms-next, rooms-all}
use Rattle.turns.proofs.load.fill_loads.Goals as goal

pub fill_room-requires : goal.fill_room-requires
unfolding heights_of
fill_room-requires c =
    let there = rw c.rooms-room-end.ensures at c.loop-room-test.true in
    let each = c.requires.zero.0 in (
      λ t l.
          let number = room-number c.loop-room.invariant each there _ (omega arith) t l in
          number.1 ∙ c.requires.zero.1 _ (room-within c.loop-room.invariant each there t number.0),
      rw c.heights_of.ensures (c.requires.ready.room _ there),
    )

pub loop-room-preserved : goal.loop-room-preserved
unfolding heights_of
loop-room-preserved c =
    let there = rw c.rooms-room-end.ensures at c.loop-room-test.true in
    rooms-next c.loop-room.invariant c.requires.zero.0 there _ _ _ (omega arith) c.heights_of.ensures c.fill_room.ensures.0 c.fill_room.ensures.1

pub returns : goal.returns
returns c =
    let passed = rw c.rooms-room-end.ensures at c.loop-room-test.false in
    rooms-all c.loop-room.invariant c.requires.zero.0 (rw c.rooms-room-end.ensures at c.loop-room.auto.room-end) passed
