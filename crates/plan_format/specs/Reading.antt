-- Reading a plan as an entry point: the text's plan, its refusals in their order, and what lent memory holds after (01, "Plan text and
-- listing", "Refused because of the state"; rooms: 02, W-202; the box of a line without bounds: W-205; pairs: W-206; packed calendars, and memory
-- after a refusal: W-208).
use Rattle.std.specs.Prelude.{Bool, true, List, [], ◌∷◌, map, ℕ, ◌+◌, ◌-◌, ◌*◌, leb, eqb, length, get_or, drop, replicate, if◌then◌else◌}
use Rattle.std.specs.Prelude.{Option}
use Rattle.units.specs.Cells.{written}
use Rattle.units.specs.Choice.{◌and◌, on_option, ◌or_else◌}
use Rattle.units.specs.Limits.{most_hours, most_calendars, most_rooms, most_tasks, most_pairs, box_numbers, pair_numbers}
use Rattle.units.specs.Limits.{is_plan_length, is_calendar_count}
use Rattle.units.specs.Lists.{list_to, joined}
use Rattle.plan.specs.Plan.{Plan, plan, pair_count}
use Rattle.plan.specs.Packed.{bytes_of, packed}
use Rattle.plan.specs.declared.Fault.{Fault}
use Rattle.plan.specs.Refusals.{fault, unless, Answer, refused, answered, on_answer}
use Rattle.plan.specs.Faults.{plan_fault}
use Rattle.plan_format.specs.Text.{Read, read_text}

-- a task's six bounds, where there are so many rooms: those of its line, or S 0 to H - 1, E p to H, O 0 to 0
unfoldable pub box_of : ℕ → ℕ → List ℕ → List ℕ
box_of h rooms task =
    if eqb (length task) (rooms + 8)
    then drop (rooms + 2) task
    else 0 ∷ (h - 1) ∷ get_or task 1 0 ∷ h ∷ 0 ∷ 0 ∷ []

-- the tasks' heights, room by room
unfoldable pub heights_in : ℕ → List (List ℕ) → List ℕ
heights_in rooms tasks = joined (list_to (λ room. map (λ t. get_or t (room + 2) 0) tasks) rooms)

-- the plan that a text holds, and its boxes
unfoldable pub plan_in : Read → Plan
plan_in r =
    plan r.hours r.capacities (joined r.calendars) (map (λ t. get_or t 0 0) r.tasks) (map (λ t. get_or t 1 0) r.tasks)
    (heights_in (length r.capacities) r.tasks) r.pairs

unfoldable pub boxes_in : Read → List ℕ
boxes_in r = joined (map (box_of r.hours (length r.capacities)) r.tasks)

-- each calendar line has H symbols
unfoldable pub all_of : ℕ → List (List ℕ) → Bool
all_of h [] = true
all_of h (l ∷ ls) = eqb (length l) h and all_of h ls

-- the most that a plan can hold: 16 times 2,196 bytes of packed calendars, 64 heights in each of eight rooms, the tasks of 256 pairs, and the bounds
-- of 64 boxes
abbrev pub most_packed : ℕ
most_packed = most_calendars * bytes_of most_hours

abbrev pub most_heights : ℕ
most_heights = most_rooms * most_tasks

abbrev pub most_paired : ℕ
most_paired = pair_numbers * most_pairs

abbrev pub most_bounds : ℕ
most_bounds = box_numbers * most_tasks

-- memory for that, for eight capacities, and for 64 tasks in each other field
unfoldable pub is_enough : List ℕ → List ℕ → List ℕ → List ℕ → List ℕ → List ℕ → List ℕ → Bool
is_enough capacities calendars task_calendars work_times heights pairs boxes =
    leb most_rooms (length capacities)
    and leb most_packed (length calendars)
    and leb most_tasks (length task_calendars)
    and leb most_tasks (length work_times)
    and leb most_heights (length heights)
    and leb most_paired (length pairs)
    and leb most_bounds (length boxes)

-- 2 and 3, each calendar line by itself
unfoldable pub line_fault : Read → Option Fault
line_fault r =
    unless (is_plan_length r.hours) 2 0
    or_else unless (is_calendar_count (length r.calendars) and all_of r.hours r.calendars) 3 0

-- after 1: 31, 2, 3, 4, 5, 19, 17, 10, then task by task 6 to 9, then pair by pair 18
unfoldable pub read_fault : Bool → Read → Option Fault
read_fault enough r = unless enough 31 0 or_else line_fault r or_else plan_fault (plan_in r) (boxes_in r)

-- What reading answers: H, and how many rooms, calendars, tasks and pairs were read.
pub record PlanRead : Type 0 where
  pub hours : ℕ
  pub rooms : ℕ
  pub calendars : ℕ
  pub tasks : ℕ
  pub pairs : ℕ

-- What reading leaves: its answer, and the memory lent, slice by slice.
pub record ReadEnd : Type 0 where
  pub answer : Answer PlanRead
  pub capacities : List ℕ
  pub calendars : List ℕ
  pub task_calendars : List ℕ
  pub work_times : List ℕ
  pub heights : List ℕ
  pub pairs : List ℕ
  pub boxes : List ℕ

abbrev pub end_with : Answer PlanRead → List ℕ → List ℕ → List ℕ → List ℕ → List ℕ → List ℕ → List ℕ → ReadEnd
end_with answer capacities calendars task_calendars work_times heights pairs boxes =
    record {
      answer = answer;
      capacities = capacities;
      calendars = calendars;
      task_calendars = task_calendars;
      work_times = work_times;
      heights = heights;
      pairs = pairs;
      boxes = boxes;
    }

-- memory of the same size, all 0
abbrev pub zeros : List ℕ → List ℕ
zeros cells = replicate (length cells) 0

module _ (capacities calendars task_calendars work_times heights pairs boxes : List ℕ) where
  -- 31 changes no lent memory
  unfoldable pub unread : Fault → ReadEnd
  unread f = end_with (refused f) capacities calendars task_calendars work_times heights pairs boxes

  -- every other refusal leaves all of it 0
  unfoldable pub cleared : Fault → ReadEnd
  cleared f =
      end_with
      (refused f)
      (zeros capacities)
      (zeros calendars)
      (zeros task_calendars)
      (zeros work_times)
      (zeros heights)
      (zeros pairs)
      (zeros boxes)

  -- the calendars are packed; cells past the plan's own are untouched
  unfoldable pub stored : Read → ReadEnd
  stored r =
      end_with
      (answered
      (record {
        hours = r.hours;
        rooms = length r.capacities;
        calendars = length r.calendars;
        tasks = length r.tasks;
        pairs = pair_count (plan_in r);
      }))
      (written (plan_in r).capacities capacities)
      (written (joined (map packed r.calendars)) calendars)
      (written (plan_in r).shifts.task_calendars task_calendars)
      (written (plan_in r).shifts.work_times work_times)
      (written (plan_in r).heights heights)
      (written (plan_in r).pairs pairs)
      (written (boxes_in r) boxes)

  -- a text that keeps to the rules: 31, or the refusals after it in their order, or its plan
  unfoldable pub read_tested : Read → ReadEnd
  read_tested r =
      if is_enough capacities calendars task_calendars work_times heights pairs boxes
      then on_option (read_fault true r) (stored r) cleared
      else unread (fault 31 0)

  -- 1 comes first, also where memory is not enough
  unfoldable pub read_plan : List ℕ → ReadEnd
  read_plan text = on_answer (read_text text) cleared read_tested
