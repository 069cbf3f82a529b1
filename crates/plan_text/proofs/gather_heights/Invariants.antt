use mathlib.Core.Path.{◌≡◌}
use lib.ListN.{length}
use Rattle.units.specs.Limits.{most_tasks}
use Rattle.plan_text.proofs.Gathering.{GatheredTo}
use Rattle.plan_text.proofs.gather_heights.Given as goal

abbrev pub invariant-loop-room : goal.invariant-loop-room
invariant-loop-room l =
    (l.room-iterator.size ≡ most_tasks) × GatheredTo l.rooms l.tasks l.cells l.heights l.end l.room-iterator.rest.now (length l.yielded)
