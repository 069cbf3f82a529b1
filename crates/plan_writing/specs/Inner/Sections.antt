-- The sections of a plan's text after the plan line, by the calendars, the tasks and the pairs that have been put so far.
use Rattle.std.specs.Prelude.{List, ℕ}
use Rattle.plan.specs.Plan.{Shifts, Plan, room_count}
use Rattle.plan_format.specs.Text.{text_of}
use Rattle.plan_format.specs.Writing.{cal_records, task_numbers, task_records, after_records}

-- the lines of the first n calendars
abbrev pub calendars_text : Shifts → ℕ → List ℕ
calendars_text S n = text_of (cal_records S n)

-- the numbers of task i, and the lines of the first n tasks
abbrev pub numbers_at : Plan → List ℕ → ℕ → List ℕ
numbers_at P boxes i = task_numbers (room_count P) P.shifts.task_calendars P.shifts.work_times P.heights boxes i

abbrev pub tasks_text : Plan → List ℕ → ℕ → List ℕ
tasks_text P boxes n = text_of (task_records (room_count P) P.shifts.task_calendars P.shifts.work_times P.heights boxes n)

-- the lines of the first n pairs
abbrev pub pairs_text : Plan → ℕ → List ℕ
pairs_text P n = text_of (after_records P n)
