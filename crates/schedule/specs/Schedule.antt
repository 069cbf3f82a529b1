-- Schedules (01, under that heading; rooms: 02, W-202; pairs: W-206). A schedule gives each task one triple.
use Rattle.std.specs.Prelude.{Bool, true, List, ◌≡◌, ℕ, ◌+◌, ◌*◌, ◌≤◌, ◌<◌, leb, ltb, get_or}
use Rattle.units.specs.Choice.{◌and◌}
use Rattle.units.specs.Sums.{max_to}
use Rattle.units.specs.declared.Pair.{Pair}
use Rattle.plan.specs.Plan.{Plan, room_count, task_count, pair_count, calendar_of, work_time_of, capacity_of, heights_where, pair_of}
use Rattle.plan.specs.Boxes.{bounds_at}
use Rattle.calendar.specs.declared.Triple.{Triple}
use Rattle.calendar.specs.Triples.{triple_numbers, triple, start_of, end_of, valid_triple, in_bounds}

-- the schedule in lent memory: three numbers a task, s, e and o
unfoldable pub triple_at : List ℕ → ℕ → Triple
triple_at schedule i = triple (get_or schedule (triple_numbers * i) 0) (get_or schedule (triple_numbers * i + 1) 0) (get_or schedule (triple_numbers * i + 2) 0)

-- a task runs in the hours [s, s + e), resting hours too
unfoldable pub runs : Triple → ℕ → Bool
runs x t = leb (start_of x) t and ltb t (end_of x)

-- the heights in a room of the tasks that run in hour t, added
unfoldable pub running : Plan → ℕ → (ℕ → Triple) → ℕ → ℕ
running P room σ t = heights_where P room (λ i. runs (σ i) t)

-- of a pair of tasks, the earlier one's s + e is at most the later one's start
unfoldable pub in_turn : Pair → (ℕ → Triple) → Bool
in_turn x σ = leb (end_of (σ x.earlier)) (start_of (σ x.later))

-- feasible: each triple lies in its box and is valid, in each room and hour the heights of the running tasks add to at most the capacity, and each
-- pair is kept
pub record Feasible (P : Plan) (boxes : List ℕ) (σ : ℕ → Triple) : Type 0 where
  pub inside : (i : ℕ) → i < task_count P → in_bounds (bounds_at boxes i) (σ i) ≡ true
  pub fits : (i : ℕ) → i < task_count P → valid_triple (calendar_of P.shifts i) (work_time_of P.shifts i) (σ i) ≡ true
  pub capacity : (room : ℕ) → room < room_count P → (t : ℕ) → t < P.shifts.hours → running P room σ t ≤ capacity_of P room
  pub pairs : (k : ℕ) → k < pair_count P → in_turn (pair_of P k) σ ≡ true

-- the largest s + e, and 0 for a plan without tasks
unfoldable pub makespan : Plan → (ℕ → Triple) → ℕ
makespan P σ = max_to (λ i. end_of (σ i)) (task_count P)
