-- Boxes inside boxes, and boxes that leave each task a valid triple: terms that 01 and 02 do not have, of the laws behind O before C (02, W-207).
use Rattle.std.specs.Prelude.{◌≡◌, List, ℕ, ◌≤◌, ◌<◌, Some}
use Rattle.units.specs.declared.Bounds.{Bounds}
use Rattle.plan.specs.Plan.{Plan, task_count}
use Rattle.plan.specs.Boxes.{bounds_at}
use Rattle.calendar.specs.declared.Window.{Window}
use Rattle.steps.specs.Load.{fit_at}

-- one box inside another: each lower bound is no less than the other's, each upper bound no greater
pub record BoundsInside (small large : Bounds) : Type 0 where
  pub earliest : large.earliest.0 ≤ small.earliest.0
  pub latest : small.latest.0 ≤ large.latest.0
  pub shortest : large.shortest.0 ≤ small.shortest.0
  pub longest : small.longest.0 ≤ large.longest.0
  pub fewest : large.fewest.0 ≤ small.fewest.0
  pub most : small.most.0 ≤ large.most.0

-- all boxes inside others: each task's box among the former lies inside its box among the latter
pub record Inside (P : Plan) (small large : List ℕ) : Type 0 where
  pub at : (i : ℕ) → i < task_count P → BoundsInside (bounds_at small i) (bounds_at large i)

-- each task has a valid triple in its box, so a window (01, "When a task fits its calendar")
pub record AllFit (P : Plan) (boxes : List ℕ) : Type 0 where
  pub window : (i : ℕ) → i < task_count P → (w : Window) × (fit_at P.shifts boxes i ≡ Some w)
