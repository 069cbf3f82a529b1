-- The plan's tests, group by group: the first fault, in 01's order (01, "Refused because of the input", "Refused because of the state"; 17: 02,
-- W-202; 18 and 19: W-206; 21: W-208).
use Rattle.std.specs.Prelude.{Bool, List, ◌≡◌, ℕ, ◌*◌, ◌/◌, ◌%◌, eqb, length, get_or}
use Rattle.std.specs.Prelude.{Option, None}
use Rattle.units.specs.Choice.{◌and◌, ◌or_else◌, first_of}
use Rattle.units.specs.Limits.{box_numbers, pair_numbers, is_plan_length, is_work_time, is_height, is_capacity, is_calendar_count, is_calendar_number, is_room_count, is_task_count, is_pair_count, is_pair, is_box}
use Rattle.units.specs.declared.Bounds.{Bounds}
use Rattle.plan.specs.Plan.{Shifts, Plan, room_count, task_count, pair_count, calendar_count, work_time_of, room_part, pair_at}
use Rattle.plan.specs.HourKinds.{is_symbol}
use Rattle.plan.specs.Packed.{bytes_of, part_of, is_packed}
use Rattle.plan.specs.Boxes.{bounds_at}
use Rattle.plan.specs.declared.Fault.{Fault}
use Rattle.plan.specs.Refusals.{unless}

-- ---- memory of the right size: 31

-- one number a task in each field, of the heights in each room, and one box a task
unfoldable pub one_for_each_task : List ℕ → List ℕ → List ℕ → List ℕ → List ℕ → Bool
one_for_each_task capacities task_calendars work_times heights boxes =
    eqb (length work_times) (length task_calendars)
    and eqb (length heights) (length capacities * length task_calendars)
    and eqb (length boxes) (box_numbers * length task_calendars)

-- two numbers a pair
unfoldable pub is_whole_pairs : List ℕ → Bool
is_whole_pairs pairs = eqb (length pairs % pair_numbers) 0

-- of a plan
abbrev pub is_right_size : Plan → List ℕ → Bool
is_right_size P boxes =
    one_for_each_task P.capacities P.shifts.task_calendars P.shifts.work_times P.heights boxes and is_whole_pairs P.pairs

-- ---- H and the calendars, by their letters: 2, 3, 4

-- 1 to 16 calendars, each of H symbols
unfoldable pub is_calendars : ℕ → List ℕ → Bool
is_calendars hours calendars = eqb (length calendars % hours) 0 and is_calendar_count (length calendars / hours)

-- 4, at an index of the symbols, calendars joined
unfoldable pub symbol_fault : List ℕ → ℕ → Option Fault
symbol_fault calendars k = unless (is_symbol calendars k) 4 k

unfoldable pub calendars_fault : ℕ → List ℕ → Option Fault
calendars_fault hours calendars =
    unless (is_plan_length hours) 2 0
    or_else unless (is_calendars hours calendars) 3 0
    or_else first_of (symbol_fault calendars) (length calendars)

-- ---- H and the calendars, packed: 2, 3, 21

-- 21, at calendar k of those joined
unfoldable pub packing_fault : ℕ → List ℕ → ℕ → Option Fault
packing_fault h bytes k = unless (is_packed h (part_of h bytes k)) 21 k

-- 1 to 16 calendars, each of as many bytes as hold H hours
unfoldable pub packed_fault : ℕ → List ℕ → Option Fault
packed_fault h bytes =
    unless (is_plan_length h) 2 0
    or_else unless (is_calendars (bytes_of h) bytes) 3 0
    or_else first_of (packing_fault h bytes) (length bytes / bytes_of h)

-- ---- counts and the capacities: 5, 19, 17, 10

-- 10, of a room
unfoldable pub capacity_fault : List ℕ → ℕ → Option Fault
capacity_fault capacities room = unless (is_capacity (get_or capacities room 0)) 10 0

unfoldable pub counts_fault : ℕ → ℕ → List ℕ → Option Fault
counts_fault tasks pairs capacities =
    unless (is_task_count tasks) 5 0
    or_else unless (is_pair_count pairs) 19 0
    or_else unless (is_room_count (length capacities)) 17 0
    or_else first_of (capacity_fault capacities) (length capacities)

-- ---- task by task: 6, 7, 8, 9

-- 8, of task i of so many, in a room
unfoldable pub height_fault : ℕ → List ℕ → ℕ → ℕ → Option Fault
height_fault tasks heights i room = unless (is_height (get_or (room_part tasks heights room) i 0)) 8 i

-- of task i, in a plan of so many hours, calendars and rooms, by the number of its calendar, its work time p, the heights of all tasks, and its box
unfoldable pub one_task_fault : ℕ → ℕ → ℕ → ℕ → List ℕ → ℕ → ℕ → ℕ → Bounds → Option Fault
one_task_fault hours calendars rooms tasks heights i number p b =
    unless (is_calendar_number calendars number) 6 i
    or_else unless (is_work_time hours p) 7 i
    or_else first_of (height_fault tasks heights i) rooms
    or_else unless (is_box hours p b) 9 i

unfoldable pub task_fault : Shifts → ℕ → List ℕ → List ℕ → ℕ → Option Fault
task_fault S rooms heights boxes i =
    one_task_fault S.hours (calendar_count S) rooms (length S.task_calendars) heights i (get_or S.task_calendars i 0) (work_time_of S i)
    (bounds_at boxes i)

unfoldable pub tasks_fault : Shifts → ℕ → List ℕ → List ℕ → Option Fault
tasks_fault S rooms heights boxes = first_of (task_fault S rooms heights boxes) (length S.task_calendars)

-- ---- pair by pair: 18

-- of pair k of a plan of so many tasks
unfoldable pub pair_fault : ℕ → List ℕ → ℕ → Option Fault
pair_fault tasks pairs k = unless (is_pair tasks (pair_at pairs k)) 18 k

unfoldable pub pairs_fault : Plan → Option Fault
pairs_fault P = first_of (pair_fault (task_count P) P.pairs) (pair_count P)

-- ---- all

-- 2, 3, 4, 5, 19, 17, 10, then task by task, then pair by pair
unfoldable pub plan_fault : Plan → List ℕ → Option Fault
plan_fault P boxes =
    calendars_fault P.shifts.hours P.shifts.calendars
    or_else counts_fault (task_count P) (pair_count P) P.capacities
    or_else tasks_fault P.shifts (room_count P) P.heights boxes
    or_else pairs_fault P

-- 31 before all others
unfoldable pub input_fault : Plan → List ℕ → Option Fault
input_fault P boxes = unless (is_right_size P boxes) 31 0 or_else plan_fault P boxes

-- a plan passes the tests if none of 2 to 10 and 17 to 19 applies to it
abbrev pub Passes : Plan → List ℕ → Type 0
Passes P boxes = plan_fault P boxes ≡ None
