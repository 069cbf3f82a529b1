use native.Mathlib.Omega.{arith}
use mathlib.Core.Path.{sym, ap, ◌∙◌}
use lib.ListN.{length}
use Rattle.plan.specs.Plan.{heights_of}
use Rattle.plan.proofs.Passed.{room-length}
use Rattle.turns.proofs.Loading.{mend-none, mend-asks, mend-next, rooms-all}
use Rattle.turns.proofs.load.mend_loads.Goals as goal

pub returns-then-eq : goal.returns-then-eq
returns-then-eq c =
    mend-none _ c.requires.ready c.requires.loaded (omega (arith, c.requires.task, c.requires.ready.few_tasks)) c.requires.task
    _ _ c.part_of-before.ensures c.part_of-after.ensures
    (sym c.eq.ensures ∙ c.if-eq.true)

pub height_at-height-requires : goal.height_at-height-requires
unfolding heights_of
height_at-height-requires c =
    let there = rw c.rooms-room-end.ensures at c.loop-room-test.true in
    let all = ap length c.heights_of.ensures ∙ room-length _ _ c.args.plan.now.heights.now c.requires.ready.each _ there in
    omega (arith, all, c.requires.task)

pub mend_room-requires : goal.mend_room-requires
unfolding heights_of
mend_room-requires c =
    let there = rw c.rooms-room-end.ensures at c.loop-room-test.true in
    let own = rw c.heights_of.ensures at c.height_at-height.ensures in
    mend-asks _ c.requires.ready c.requires.loaded (omega (arith, c.requires.task, c.requires.ready.few_tasks)) c.requires.task
    _ _ c.part_of-before.ensures c.part_of-after.ensures
    c.loop-room.invariant there own _ (omega arith)

pub loop-room-preserved : goal.loop-room-preserved
unfolding heights_of
loop-room-preserved c =
    let there = rw c.rooms-room-end.ensures at c.loop-room-test.true in
    let own = rw c.heights_of.ensures at c.height_at-height.ensures in
    mend-next _ c.requires.ready c.requires.loaded (omega (arith, c.requires.task, c.requires.ready.few_tasks)) c.requires.task
    _ _ c.part_of-before.ensures c.part_of-after.ensures
    c.loop-room.invariant there own _ (omega arith) _ c.mend_room.ensures

pub returns : goal.returns
returns c =
    let passed = rw c.rooms-room-end.ensures at c.loop-room-test.false in
    rooms-all c.loop-room.invariant c.requires.loaded.each (rw c.rooms-room-end.ensures at c.loop-room.auto.room-end) passed
