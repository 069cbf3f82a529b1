use native.Mathlib.Omega.{arith}
use Rattle.turns.proofs.Loading.{changed-none, changed-next, changed-room, changed-length, changed-all}
use Rattle.turns.proofs.load.change_part.Goals as goal

pub loop-load-init : goal.loop-load-init
loop-load-init c = changed-none _ _ _

pub overflow_sub-load : goal.overflow_sub-load
overflow_sub-load c =
    (changed-room c.args.part _ _ _ _ _ c.min-end.ensures c.min-from.ensures _ _ c.loop-load.invariant c.loop-load-test.true c.requires).0

pub overflow_add-load : goal.overflow_add-load
overflow_add-load c =
    let room = changed-room c.args.part _ _ _ _ _ c.min-end.ensures c.min-from.ensures _ _ c.loop-load.invariant c.loop-load-test.true c.requires in
    omega (arith, room)

pub loop-load-preserved : goal.loop-load-preserved
loop-load-preserved c =
    let room = changed-room c.args.part _ _ _ _ _ c.min-end.ensures c.min-from.ensures _ _ c.loop-load.invariant c.loop-load-test.true c.requires in
    changed-next _ (omega (arith, room)) c.loop-load-test.true c.loop-load.invariant

pub returns : goal.returns
returns c = (
  changed-length c.args.part _ _ _ _ _ c.min-end.ensures c.min-from.ensures _ _ (omega (arith, c.loop-load-test.false)) c.loop-load.invariant,
  changed-all c.args.part _ _ _ _ _ c.min-end.ensures c.min-from.ensures _ _ (omega (arith, c.loop-load-test.false)) c.loop-load.invariant,
)
