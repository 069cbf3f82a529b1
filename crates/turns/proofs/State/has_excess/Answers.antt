use mathlib.Core.Path.{sym, ap, ◌∙◌}
use native.Mathlib.Omega.{arith}
use lib.ListN.{length}
use Rattle.units.proofs.Choices.{some-hit}
use Rattle.units.proofs.Searching.{unmet-first, unmet-next, unmet-end}
use Rattle.plan.specs.Plan.{heights_of, height_of}
use Rattle.plan.specs.Lent.{plan_in}
use Rattle.plan.proofs.Passed.{room_in, room-length}
use Rattle.turns.specs.Inner.Kept.{excess_in, excess_by}
use Rattle.turns.proofs.Loading.{load-most}
use Rattle.turns.proofs.Judging.{room-excess}
use Rattle.turns.proofs.State.has_excess.Goals as goal

pub loop-room-init : goal.loop-room-init
loop-room-init g c = unmet-first

pub returns : goal.returns
unfolding excess_by
returns g c = sym (unmet-end c.loop-room.invariant c.loop-room-test.false)

pub heights_of-requires : goal.heights_of-requires
heights_of-requires g c =
    room_in _ _ c.args.self.now.plan.now.heights.now c.args.self.now.ready.rooms_ready.each _ c.loop-room-test.true

pub height_at-height-requires : goal.height_at-height-requires
unfolding heights_of
height_at-height-requires g c =
    let rooms = c.args.self.now.ready.rooms_ready in
    let all = ap length c.heights_of.ensures ∙ room-length _ _ c.args.self.now.plan.now.heights.now rooms.each _ c.loop-room-test.true in
    omega (arith, all, c.requires.task)

pub exceeds-requires : goal.exceeds-requires
unfolding heights_of
exceeds-requires g c =
    let load = (c.requires.loads _ c.loop-room-test.true).1 _ c.load_in.ensures in
    load-most _ _ _ (c.args.self.now.ready.rooms_ready.room _ c.loop-room-test.true) _ _ load (rw c.heights_of.ensures at c.height_at-height.ensures)

pub returns-then-exceeds : goal.returns-then-exceeds
unfolding excess_by height_of
returns-then-exceeds g c =
    let P = plan_in c.args.self.now.plan.now in
    let load = (c.requires.loads _ c.loop-room-test.true).1 _ c.load_in.ensures in
    let own = rw c.heights_of.ensures at c.height_at-height.ensures in
    let tested = room-excess _ _ _ _ _ _ own load c.exceeds.ensures in
    let test = excess_in P c.args.self.now.fits.now c.args.w c.args.i c.args.t.0 in
    sym (some-hit test _ _ c.loop-room-test.true (sym tested ∙ c.if-exceeds.true))

pub loop-room-preserved : goal.loop-room-preserved
unfolding height_of
loop-room-preserved g c =
    let load = (c.requires.loads _ c.loop-room-test.true).1 _ c.load_in.ensures in
    let own = rw c.heights_of.ensures at c.height_at-height.ensures in
    let tested = room-excess _ _ _ _ _ _ own load c.exceeds.ensures in
    unmet-next c.loop-room.invariant c.loop-room-test.true (sym tested ∙ c.if-exceeds.false)
