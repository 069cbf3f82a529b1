use Rattle.plan.specs.Plan.{heights_of}
use Rattle.plan.proofs.Passed.{room_in}
use Rattle.turns.proofs.State.load_in.Goals as goal

pub heights_of-requires : goal.heights_of-requires
heights_of-requires c =
    room_in _ _ c.args.self.now.plan.now.heights.now c.args.self.now.ready.rooms_ready.each _ c.requires

pub load_at-requires : goal.load_at-requires
unfolding heights_of
load_at-requires c = rw c.heights_of.ensures (c.args.self.now.ready.rooms_ready.room _ c.requires)

pub returns : goal.returns
returns c = rw c.heights_of.ensures at c.load_at.ensures
