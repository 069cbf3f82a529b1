use mathlib.Core.Path.{◌≡◌, refl}
use native.Mathlib.Omega.{arith}
use Prim.Native.Nat.{◌+◌, ◌-◌}
use Rattle.std.proofs.lemmas.Grind.{common_steps}
use lib.ListN.{length-set, get_or, take, drop}
use Rattle.plan_lines.proofs.Sections.{heights-none, heights-next}
use Rattle.plan_lines.proofs.store_heights.Goals as goal

pub loop-room-preserved : goal.loop-room-preserved
loop-room-preserved c =
    let height : get_or (take (2 + c.args.rooms - 2) (drop 2 c.args.numbers.now)) c.loop-room.room 0 ≡ get_or c.args.numbers.now (c.loop-room.room + 2) 0 =
    grind (arith, common_steps)
    in
    (omega arith, simp length-set (omega arith), rw height (heights-next _ _ _ _ c.loop-room.invariant.2))

pub loop-room-init : goal.loop-room-init
loop-room-init c = (omega arith, refl, heights-none _ _ _)
