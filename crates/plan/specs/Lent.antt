-- The plan that lent memory holds: what lies behind the references of the code's structs.
use Rattle.std.specs.Prelude.{◌≡◌, true, ℕ, ◌+◌, ◌≤◌, ◌<◌, length, get_or}
use Rattle.plan.specs.Plan.{Shifts, Plan, first_symbol, shifts}
use Rattle.plan.specs.HourKinds.{is_symbol}
use Rattle.plan.specs.Packed.{letters}
use Rattle.plan.specs.Over.{PackedPlan, packed_plan, unpacked}
use Rattle.plan.specs.declared.Shifts as Lent_shifts
use Rattle.plan.specs.declared.Plan as Lent_plan

-- the part that the calendar rule reads, with the letters of the calendars
abbrev pub shifts_in : Lent_shifts.Shifts → Shifts
shifts_in s = shifts s.hours.0 (letters s.hours.0 s.calendars.now) s.task_calendars.now s.work_times.now

-- a plan, whose calendars are packed; and with their letters
abbrev pub packed_in : Lent_plan.Plan → PackedPlan
packed_in p =
    packed_plan p.shifts.hours.0 p.capacities.now p.shifts.calendars.now p.shifts.task_calendars.now p.shifts.work_times.now p.heights.now p.pairs.now

abbrev pub plan_in : Lent_plan.Plan → Plan
plan_in p = unpacked (packed_in p)

-- calendar k lies among the letters, and each letter is r, c or o
pub record CalendarAt (S : Shifts) (k : ℕ) : Type 0 where
  pub some_hours : 1 ≤ S.hours
  pub within : first_symbol S.hours k + S.hours ≤ length S.calendars
  pub symbols : (j : ℕ) → j < length S.calendars → is_symbol S.calendars j ≡ true

-- task i names a calendar that lies there
pub record HasCalendar (S : Shifts) (i : ℕ) : Type 0 where
  pub task : i < length S.task_calendars
  pub calendar : CalendarAt S (get_or S.task_calendars i 0)
