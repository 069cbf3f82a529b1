-- The kinds of value that a plan is made of, and their limits (01, "A plan"; rooms: 02, W-202; pairs: W-206; a year: W-208).
use Rattle.std.specs.Prelude.{Bool, not, ℕ, ◌≤◌, ◌<◌, leb, ltb, eqb}
use Rattle.units.specs.Choice.{◌and◌}
use Rattle.units.specs.declared.Hour.{Hour}
use Rattle.units.specs.declared.Duration.{Duration}
use Rattle.units.specs.declared.Height.{Height}
use Rattle.units.specs.declared.Bounds.{Bounds}
use Rattle.units.specs.declared.Pair.{Pair}

-- 01, "A plan": 16 calendars; capacity to 60,000; 64 tasks; height to 1,000. 02, W-202: eight rooms; W-206: 256 pairs; W-208: H to 8,784
abbrev pub most_hours : ℕ
most_hours = 8784

abbrev pub most_calendars : ℕ
most_calendars = 16

abbrev pub most_capacity : ℕ
most_capacity = 60000

abbrev pub most_rooms : ℕ
most_rooms = 8

abbrev pub most_tasks : ℕ
most_tasks = 64

abbrev pub most_height : ℕ
most_height = 1000

abbrev pub most_pairs : ℕ
most_pairs = 256

-- a box is six numbers in lent memory, and a pair is two
abbrev pub box_numbers : ℕ
box_numbers = 6

abbrev pub pair_numbers : ℕ
pair_numbers = 2

-- values of each kind, from their numbers
abbrev pub hour : ℕ → Hour
hour n = record { 0 = n }

abbrev pub duration : ℕ → Duration
duration n = record { 0 = n }

abbrev pub height : ℕ → Height
height n = record { 0 = n }

-- least ≤ n ≤ most
unfoldable pub within : ℕ → ℕ → ℕ → Bool
within least most n = leb least n and leb n most

-- H is 1 to 8,784
abbrev pub is_plan_length : ℕ → Bool
is_plan_length h = within 1 most_hours h

-- hours are numbered 0 to H - 1
abbrev pub is_hour : ℕ → ℕ → Bool
is_hour h t = ltb t h

-- a work time is 1 to H, and so is an elapsed time
abbrev pub is_work_time : ℕ → ℕ → Bool
is_work_time h p = within 1 h p

-- a height is 0 to 1,000
abbrev pub is_height : ℕ → Bool
is_height n = leb n most_height

-- a capacity is 0 to 60,000
abbrev pub is_capacity : ℕ → Bool
is_capacity n = leb n most_capacity

-- there are 1 to 16 calendars
abbrev pub is_calendar_count : ℕ → Bool
is_calendar_count n = within 1 most_calendars n

-- a task's calendar is one of the plan's, numbered from 0
abbrev pub is_calendar_number : ℕ → ℕ → Bool
is_calendar_number count n = ltb n count

-- there are 1 to 8 rooms, each with a capacity
abbrev pub is_room_count : ℕ → Bool
is_room_count n = within 1 most_rooms n

-- a room of the plan's, numbered from 0
abbrev pub is_room_number : ℕ → ℕ → Bool
is_room_number count n = ltb n count

-- there are 0 to 64 tasks, each with a box
abbrev pub is_task_count : ℕ → Bool
is_task_count n = leb n most_tasks

-- there are 0 to 256 pairs
abbrev pub is_pair_count : ℕ → Bool
is_pair_count n = leb n most_pairs

-- a pair of a plan with so many tasks: two of the plan's tasks, and not one twice
unfoldable pub is_pair : ℕ → Pair → Bool
is_pair tasks x = ltb x.earlier tasks and ltb x.later tasks and not (eqb x.earlier x.later)

-- overtime is 0 to p
abbrev pub is_overtime : ℕ → ℕ → Bool
is_overtime p o = leb o p

-- both bounds of a range are of the kind, and the lower is at most the upper
unfoldable pub is_range : (ℕ → Bool) → ℕ → ℕ → Bool
is_range kind lower upper = kind lower and kind upper and leb lower upper

-- a box: bounds for S within 0 to H - 1, E within 1 to H, O within 0 to p, each lower bound at most its upper bound
unfoldable pub is_box : ℕ → ℕ → Bounds → Bool
is_box h p b =
    is_range (is_hour h) b.earliest.0 b.latest.0
    and is_range (is_work_time h) b.shortest.0 b.longest.0
    and is_range (is_overtime p) b.fewest.0 b.most.0

-- the same of its numbers
pub record Boxed (h p : ℕ) (b : Bounds) : Type 0 where
  pub starts : b.earliest.0 ≤ b.latest.0
  pub latest : b.latest.0 < h
  pub shortest : 1 ≤ b.shortest.0
  pub lengths : b.shortest.0 ≤ b.longest.0
  pub longest : b.longest.0 ≤ h
  pub overtimes : b.fewest.0 ≤ b.most.0
  pub most : b.most.0 ≤ p

-- a box with another lower S, and with another upper S
unfoldable pub with_earliest : Bounds → ℕ → Bounds
with_earliest b s =
    record {
      earliest = hour s;
      latest = b.latest;
      shortest = b.shortest;
      longest = b.longest;
      fewest = b.fewest;
      most = b.most;
    }

unfoldable pub with_latest : Bounds → ℕ → Bounds
with_latest b s =
    record {
      earliest = b.earliest;
      latest = hour s;
      shortest = b.shortest;
      longest = b.longest;
      fewest = b.fewest;
      most = b.most;
    }
