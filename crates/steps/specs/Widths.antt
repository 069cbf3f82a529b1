-- Widths (01, "Steps", the paragraph on the log).
use Rattle.std.specs.Prelude.{List, ℕ, ◌+◌, ◌-◌}
use Rattle.units.specs.Sums.{sum_to}
use Rattle.units.specs.declared.Bounds.{Bounds}
use Rattle.plan.specs.Plan.{Plan, task_count}
use Rattle.plan.specs.Boxes.{bounds_at}

-- the width of a range is its upper bound minus its lower; those of S, E and O, added
unfoldable pub width : Bounds → ℕ
width b = (b.latest.0 - b.earliest.0) + (b.longest.0 - b.shortest.0) + (b.most.0 - b.fewest.0)

-- over all tasks
unfoldable pub widths : Plan → List ℕ → ℕ
widths P boxes = sum_to (λ i. width (bounds_at boxes i)) (task_count P)
