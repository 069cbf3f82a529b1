use mathlib.Core.Path.{sym, ◌∙◌}
use native.Mathlib.Omega.{arith}
use lib.ListN.{length-append}
use lib.Seq.{length-take-le}
use Rattle.plan_text.proofs.Gathering.{gathered_none, gathered-more, gathered-all, has-place}
use Rattle.plan_text.proofs.gather_heights.Goals as goal

pub loop-room-init : goal.loop-room-init
loop-room-init c =
    rw c.into_iter-room-iterator.ensures.into_iter_gives
    (c.chunks-room-items.ensures.size, rw c.chunks-room-items.ensures.rest (gathered_none _ _ _ _ c.told-heights))

pub put_all-end-requires : goal.put_all-end-requires
put_all-end-requires c =
    let (parts, each, some) = c.in-Some.ensures.steps.1 in
    has-place _ _ _ c.requires.0 c.requires.1 c.told-cells c.loop-room.invariant.1 _ _ _ c.loop-room.invariant.0 parts each some

pub loop-room-preserved : goal.loop-room-preserved
loop-room-preserved c =
    let (parts, each, some) = c.in-Some.ensures.steps.1 in (
      c.in-Some.ensures.steps.0 ∙ c.loop-room.invariant.0,
      rw (length-append c.loop-room.yielded _)
          (gathered-more _ _ _ c.requires.0 c.requires.1 c.told-cells c.loop-room.invariant.1 _ _ _ c.loop-room.invariant.0 parts each some
          _ _ c.put_all-end.ensures),
    )

pub slice_bounds-result-end : goal.slice_bounds-result-end
slice_bounds-result-end c =
    let so_far = c.loop-room.invariant.1 in
    sym (length-take-le c.loop-room.end c.loop-room.heights (omega (arith, so_far.size, so_far.few, so_far.rooms_done)))

pub returns : goal.returns
returns c =
    gathered-all _ _ _ c.requires.0 c.requires.1 c.told-cells c.loop-room.invariant.1 c.in-None.ensures.steps.1.0
