-- What the code keeps of a plan text on its way through the lines: the calendars in bytes of their own, and all numbers in sections of the same cells.
use Rattle.std.specs.Prelude.{◌≡◌, true, List, ◌-◌, map, ℕ, zero, suc, ◌+◌, ◌*◌, ◌≤◌, ◌<◌, length, get_or, set, take, drop}
use Rattle.std.specs.Prelude.{Option, None, Some, Result, Ok, Err}
use Rattle.units.specs.Limits.{most_rooms, most_tasks, box_numbers, pair_numbers}
use Rattle.units.specs.Lists.{list_to, joined}
use Rattle.units.specs.Choice.{first_of}
use Rattle.plan.specs.Packed.{packed}
use Rattle.plan.specs.Over.{PackedPlan, packed_plan}
use Rattle.plan.specs.Faults.{symbol_fault}
use Rattle.plan.specs.declared.Fault.{Fault}
use Rattle.plan.specs.declared.Refusal.{Refusal}
use Rattle.plan.specs.Refusals.{Answer, refused, answered, fault, fault_of}
use Rattle.plan_lines.specs.declared.Reading.{Reading}
use Rattle.plan_lines.specs.declared.Scan.{Scan}
use Rattle.plan_lines.specs.declared.Section.{Section}
use Rattle.plan_lines.specs.declared.Section.TheVariants as section_is
use Rattle.plan_format.specs.Text.{Read, most_line, most_lines, plan_section, cal_section, task_section, after_section}
use Rattle.plan_format.specs.Reading.{box_of, plan_in, all_of, most_packed, most_heights, most_paired, most_bounds}

-- ---- the cells and their sections

-- where each section begins: the tasks' calendars, work times, heights and boxes, the capacities, and the pairs; and how many cells there are
abbrev pub calendars_at : ℕ
calendars_at = 0

abbrev pub work_times_at : ℕ
work_times_at = most_tasks

abbrev pub heights_at : ℕ
heights_at = 2 * most_tasks

abbrev pub boxes_at : ℕ
boxes_at = heights_at + most_heights

abbrev pub capacities_at : ℕ
capacities_at = boxes_at + most_bounds

abbrev pub pairs_at : ℕ
pairs_at = capacities_at + most_rooms

abbrev pub store_size : ℕ
store_size = pairs_at + most_paired

-- where the heights in a room begin: each room has cells for the most tasks, since their number is known only in the end
abbrev pub room_at : ℕ → ℕ
room_at room = heights_at + most_tasks * room

-- the first cells of a section
abbrev pub section : ℕ → ℕ → List ℕ → List ℕ
section from n cells = take n (drop from cells)

-- they are xs, if the section has room for them
unfoldable pub Kept : ℕ → ℕ → List ℕ → List ℕ → Type 0
Kept from room xs cells = length xs ≤ room → section from (length xs) cells ≡ xs

-- what each section keeps: capacities, calendars, work times, the heights in each room, boxes, pairs
pub record Keeps (rs cs ws : List ℕ) (hs : ℕ → List ℕ) (bs ps cells : List ℕ) : Type 0 where
  pub capacities : Kept capacities_at most_rooms rs cells
  pub calendars : Kept calendars_at most_tasks cs cells
  pub work_times : Kept work_times_at most_tasks ws cells
  pub heights : (room : ℕ) → room < length rs → Kept (room_at room) most_tasks (hs room) cells
  pub boxes : Kept boxes_at most_bounds bs cells
  pub pairs : Kept pairs_at most_paired ps cells

-- the capacities, the tasks' numbers and the pairs, if there is room for so many rooms
abbrev pub KeepsNumbers : ℕ → List ℕ → List (List ℕ) → List ℕ → List ℕ → Type 0
KeepsNumbers hours rs tasks ps cells =
    length rs ≤ most_rooms
    → Keeps rs (map (λ t. get_or t 0 0) tasks) (map (λ t. get_or t 1 0) tasks) (λ room. map (λ t. get_or t (room + 2) 0) tasks)
    (joined (map (box_of hours (length rs)) tasks)) ps cells

-- the cells once a task's heights in so many rooms are in them, from its numbers
unfoldable pub with_heights : ℕ → List ℕ → ℕ → List ℕ → List ℕ
with_heights task numbers zero cells = cells
with_heights task numbers (suc room) cells = set (with_heights task numbers room cells) (room_at room + task) (get_or numbers (room + 2) 0)

-- the heights that are stored of so many tasks in so many rooms, without the gaps between rooms
unfoldable pub stored_heights : ℕ → ℕ → List ℕ → List ℕ
stored_heights rooms tasks cells = joined (list_to (λ room. section (room_at room) tasks cells) rooms)

-- the plan of so many rooms, tasks and pairs that is stored, its calendars packed, and its boxes
abbrev pub stored_plan : ℕ → ℕ → ℕ → ℕ → List ℕ → List ℕ → PackedPlan
stored_plan hours rooms tasks pairs calendars cells =
    packed_plan hours (section capacities_at rooms cells) calendars (section calendars_at tasks cells) (section work_times_at tasks cells)
    (stored_heights rooms tasks cells) (section pairs_at (pair_numbers * pairs) cells)

-- calendars, each packed by its own length, joined
abbrev pub all_packed : List (List ℕ) → List ℕ
all_packed cals = joined (map packed cals)

-- the plan that a text holds, its calendars packed
abbrev pub packed_read : Read → PackedPlan
packed_read r =
    packed_plan r.hours r.capacities (all_packed r.calendars) (plan_in r).shifts.task_calendars (plan_in r).shifts.work_times (plan_in r).heights r.pairs

abbrev pub stored_boxes : ℕ → List ℕ → List ℕ
stored_boxes tasks cells = section boxes_at (box_numbers * tasks) cells

-- ---- from line to line

-- the number of a section that the code names
abbrev pub section_number : Section → ℕ
section_number section_is.Start = 0
section_number section_is.Plan = plan_section
section_number section_is.Calendars = cal_section
section_number section_is.Tasks = task_section
section_number section_is.Pairs = after_section

-- everything that is counted; no more than the bytes of the text
abbrev pub counted : Scan → ℕ
counted s = s.symbols + s.calendars + s.tasks + s.pairs

-- 4, at the first symbol that is none; as the code keeps it
abbrev pub symbols_fault : List ℕ → Option Fault
symbols_fault xs = first_of (symbol_fault xs) (length xs)

abbrev pub wrong_symbol_fault : Option ℕ → Option Fault
wrong_symbol_fault None = None
wrong_symbol_fault (Some k) = Some (fault 4 k)

-- what has been read, as it is counted and stored once n bytes are
pub record Holds (r : Read) (s : Scan) (n : ℕ) (bytes cells : List ℕ) : Type 0 where
  pub reached : section_number s.reached ≡ r.reached
  pub hours : s.hours ≡ r.hours
  pub rooms : s.rooms ≡ length r.capacities
  pub calendars : s.calendars ≡ length r.calendars
  pub even : s.even ≡ all_of r.hours r.calendars
  pub symbol_count : s.symbols ≡ length (joined r.calendars)
  pub byte_count : s.bytes ≡ length (all_packed r.calendars)
  pub wrong_symbol : wrong_symbol_fault s.wrong_symbol ≡ symbols_fault (joined r.calendars)
  pub tasks : s.tasks ≡ length r.tasks
  pub pairs : pair_numbers * s.pairs ≡ length r.pairs
  pub few : counted s ≤ n
  pub few_bytes : s.bytes ≤ s.symbols
  pub kept_calendars : Kept 0 most_packed (all_packed r.calendars) bytes
  pub kept_numbers : KeepsNumbers r.hours r.capacities r.tasks r.pairs cells

-- what has been read with another line, if the line keeps to the rules
unfoldable pub Follows : Option Read → Option Scan → ℕ → List ℕ → List ℕ → Type 0
Follows o None n calendars cells = o ≡ None
Follows o (Some s) n calendars cells = (r : Read) × (o ≡ Some r) × Holds r s n calendars cells

-- after the line that is being read: broken, or led to a scan
abbrev pub line_ended : Reading → Option Scan → Reading
line_ended m None = record m { broken = true }
line_ended m (Some s) = record m { scan = s; line = m.line + 1; length = 0 }

-- the bytes of so many lines, at most
abbrev pub bytes_before : ℕ → ℕ
bytes_before line = most_line * (line - 1)

abbrev pub most_read : ℕ
most_read = most_line * most_lines

-- what the whole text comes to
unfoldable pub Scans : Answer Read → Result Scan Refusal → List ℕ → List ℕ → Type 0
Scans a (Err refusal) calendars cells = a ≡ refused (fault_of refusal)
Scans a (Ok s) calendars cells = (r : Read) × (a ≡ answered r) × Holds r s most_read calendars cells

-- a whole text as it is stored
pub record Stored (s : Scan) (calendars cells : List ℕ) : Type 0 where
  pub text : Read
  pub held : Holds text s most_read calendars cells
