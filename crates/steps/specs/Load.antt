-- Compulsory parts and load (01, "When a task fits its calendar"; rooms: 02, W-202).
use Rattle.calendar.specs.declared.Window.{Window}
use Rattle.std.specs.Prelude.{Option, None, Some}
use Rattle.std.specs.Prelude.{Bool, false, not, List, ℕ, ◌+◌, leb, ltb, eqb}
use Rattle.units.specs.Choice.{◌and◌, some_of}
use Rattle.plan.specs.Plan.{Shifts, Plan, room_count, calendar_of, work_time_of, capacity_of, height_of, heights_where}
use Rattle.plan.specs.Boxes.{bounds_at}
use Rattle.calendar.specs.Rule.{rule_of, lst, ect}

-- what the calendar rule answers for task i
unfoldable pub fit_at : Shifts → List ℕ → ℕ → Option Window
fit_at S boxes i = rule_of (calendar_of S i) (work_time_of S i) (bounds_at boxes i)

-- the compulsory part holds hour t: lst ≤ t < ect; a task with no valid triple has none
unfoldable pub must_run : Option Window → ℕ → Bool
must_run None t = false
must_run (Some w) t = leb (lst w) t and ltb t (ect w)

-- load(t) of a room adds the heights there of the tasks whose compulsory part holds t
unfoldable pub load : Plan → ℕ → List ℕ → ℕ → ℕ
load P room boxes t = heights_where P room (λ j. must_run (fit_at P.shifts boxes j) t)

-- the other tasks' load(t)
unfoldable pub others_load : Plan → ℕ → List ℕ → ℕ → ℕ → ℕ
others_load P room boxes i t = heights_where P room (λ j. not (eqb j i) and must_run (fit_at P.shifts boxes j) t)

-- the task's height in a room plus the other tasks' load(t) exceeds the capacity; in some room it does
unfoldable pub room_excess : Plan → ℕ → List ℕ → ℕ → ℕ → Bool
room_excess P room boxes i t = ltb (capacity_of P room) (height_of P room i + others_load P room boxes i t)

unfoldable pub excess : Plan → List ℕ → ℕ → ℕ → Bool
excess P boxes i t = some_of (λ room. room_excess P room boxes i t) (room_count P)
