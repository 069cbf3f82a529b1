use native.Mathlib.Omega.{arith}
use lib.ListN.{drop, length-drop}
use Rattle.units.specs.Limits.{most_rooms}
use Rattle.plan_lines.specs.Inner.Scanning.{capacities_at}
use Rattle.plan_lines.proofs.Sections.{kept-first, kept-over}
use Rattle.plan_lines.proofs.Numbering.{capacities-are}
use Rattle.plan_lines.proofs.store_capacities.Goals as goal

pub returns-then-rooms-le-MOST_ROOMS : goal.returns-then-rooms-le-MOST_ROOMS
returns-then-rooms-le-MOST_ROOMS c =
    λ ns begin.
    let all = capacities-are c.args.rooms begin (omega (arith, c.if-rooms-le-MOST_ROOMS.true)) in
    rw (c.put_all.ensures.cells_left, all)
    (kept-first capacities_at most_rooms (drop 1 ns) c.args.cells.now (omega (arith, begin.counted, length-drop 1 ns)))

pub returns-else-rooms-le-MOST_ROOMS : goal.returns-else-rooms-le-MOST_ROOMS
returns-else-rooms-le-MOST_ROOMS c =
    λ ns begin.
    kept-over capacities_at most_rooms (drop 1 ns) c.args.cells.now (omega (arith, c.if-rooms-le-MOST_ROOMS.false, begin.counted, length-drop 1 ns))
