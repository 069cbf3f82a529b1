use Rattle.std.proofs.Common.{rules}
use Rattle.std.specs.Prelude.{None}
use mathlib.Core.Path.{ap, ◌∙◌}
use native.Mathlib.Omega.{arith}
use lib.ListN.{length-append}
use Rattle.std.proofs.lemmas.Slice.Zip.{zip_turn, zip_end}
use Rattle.turns.specs.Inner.Finding.{part_at}
use Rattle.turns.proofs.Loading.{filled_none, filled_next, filled-room, filled-all}
use Rattle.turns.proofs.load.fill_room.Goals as goal

pub loop-fit-init : goal.loop-fit-init
loop-fit-init c = filled_none c.requires.0

pub change_part-requires : goal.change_part-requires
change_part-requires c =
    let turn =
    zip_turn c.args.fits.now c.args.heights.now _ c.into_iter-fit-iterator.result c.loop-fit.fit-iterator c.next.new.self _
    (search rules) (search rules) c.loop-fit.yielded_by _ c.in-Some.is c.next.ensures.steps in
    filled-room c.loop-fit.invariant c.requires.1 turn.1 _ _ (turn.3 0)

pub loop-fit-preserved : goal.loop-fit-preserved
loop-fit-preserved c =
    let turn =
    zip_turn c.args.fits.now c.args.heights.now _ c.into_iter-fit-iterator.result c.loop-fit.fit-iterator c.next.new.self _
    (search rules) (search rules) c.loop-fit.yielded_by _ c.in-Some.is c.next.ensures.steps in
    rw length-append
    (filled_next c.loop-fit.invariant _ _ (λ height t. c.part_of.ensures height t ∙ ap (λ fit. part_at fit height t) (turn.2 None)) (turn.3 0)
    c.change_part.ensures.0 c.change_part.ensures.1)

pub returns : goal.returns
returns c =
    let all =
    zip_end c.args.fits.now c.args.heights.now _ c.into_iter-fit-iterator.result c.loop-fit.fit-iterator c.next.new.self _
    (search rules) (search rules) c.loop-fit.yielded_by c.in-None.is c.next.ensures.steps in
    let filled = c.loop-fit.invariant in
    (filled.same, filled-all filled (omega (arith, all, c.requires.1.few)))
