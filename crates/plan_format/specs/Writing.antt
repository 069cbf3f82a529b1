-- Writing a plan as text (02, W-201; rooms: W-202; pairs: W-206; packed calendars: W-208): the plan's records, its text, the refusals in their order,
-- what lent memory holds after, and that the text read again is the plan.
use Rattle.std.specs.Prelude.{true, List, [], ◌∷◌, ◌++◌, ◌≡◌, ℕ, ◌+◌, ◌*◌, ◌≤◌, ◌<◌, leb, length, get_or}
use Rattle.std.specs.Prelude.{Option}
use Rattle.units.specs.Cells.{written}
use Rattle.units.specs.Choice.{on_option, ◌or_else◌}
use Rattle.units.specs.Limits.{most_hours, most_calendars, most_rooms, most_tasks, most_pairs, box_numbers, pair_numbers}
use Rattle.units.specs.Lists.{list_to}
use Rattle.plan.specs.Plan.{Shifts, Plan, room_count, task_count, pair_count, calendar_count, calendar_at, room_part, pair_of}
use Rattle.plan.specs.Boxes.{bounds_at, box_cells}
use Rattle.plan.specs.declared.Fault.{Fault}
use Rattle.plan.specs.Refusals.{unless, Answer, refused, answered}
use Rattle.plan.specs.Faults.{is_right_size, input_fault}
use Rattle.plan.specs.Over.{PackedPlan, unpacked, over_letters}
use Rattle.text.specs.Fields.{lf, parts}
use Rattle.plan_format.specs.Records.{Record, plan_record, cal_record, task_record, after_record}
use Rattle.plan_format.specs.Text.{Read, most_line, most_lines, read_text, text_of}
use Rattle.plan_format.specs.Reading.{plan_in, boxes_in, is_enough, ReadEnd, end_with, read_plan}

-- the first n calendars, a record each
unfoldable pub cal_records : Shifts → ℕ → List Record
cal_records S n = list_to (λ k. cal_record (calendar_at S k)) n

-- the heights of task i of so many, in each of so many rooms
unfoldable pub heights_at : ℕ → ℕ → List ℕ → ℕ → List ℕ
heights_at rooms tasks heights i = list_to (λ room. get_or (room_part tasks heights room) i 0) rooms

-- the numbers of task i: calendar, p, the height in each of so many rooms, and all six bounds
unfoldable pub task_numbers : ℕ → List ℕ → List ℕ → List ℕ → List ℕ → ℕ → List ℕ
task_numbers rooms task_calendars work_times heights boxes i =
    get_or task_calendars i 0 ∷ get_or work_times i 0 ∷ (heights_at rooms (length task_calendars) heights i ++ box_cells (bounds_at boxes i))

-- the first n tasks, a record each
unfoldable pub task_records : ℕ → List ℕ → List ℕ → List ℕ → List ℕ → ℕ → List Record
task_records rooms task_calendars work_times heights boxes n =
    list_to (λ i. task_record (task_numbers rooms task_calendars work_times heights boxes i)) n

-- the first n pairs, a record each
unfoldable pub after_records : Plan → ℕ → List Record
after_records P n = list_to (λ k. after_record (pair_of P k).earlier (pair_of P k).later) n

-- the records of a plan: `plan`, then its calendars, then its tasks, then its pairs
unfoldable pub records_of : Plan → List ℕ → List Record
records_of P boxes =
    plan_record P.shifts.hours P.capacities
    ∷ (cal_records P.shifts (calendar_count P.shifts)
    ++ task_records (room_count P) P.shifts.task_calendars P.shifts.work_times P.heights boxes (task_count P)
    ++ after_records P (pair_count P))

-- a plan's text, every task line with all its bounds
unfoldable pub text_of_plan : Plan → List ℕ → List ℕ
text_of_plan P boxes = text_of (records_of P boxes)

-- The most bytes of a line, with its LF: a word, a tab before each field, and no more digits than the limits have. H has 4 and each capacity 5; a
-- task's calendar has 2, and each number after it 4: p, the height in each room, and the six bounds. Each task of a pair has 2.
abbrev pub most_plan_line : ℕ
most_plan_line = 4 + (1 + 4) + most_rooms * (1 + 5) + 1

abbrev pub most_cal_line : ℕ
most_cal_line = 3 + (1 + most_hours) + 1

abbrev pub most_task_line : ℕ
most_task_line = 4 + (1 + 2) + (1 + most_rooms + box_numbers) * (1 + 4) + 1

abbrev pub most_pair_line : ℕ
most_pair_line = 5 + pair_numbers * (1 + 2) + 1

-- and of a text: memory of this size is never refused by 33
abbrev pub most_text : ℕ
most_text = most_plan_line + most_calendars * most_cal_line + most_tasks * most_task_line + most_pairs * most_pair_line

-- 01's refusals in 01's order, then 33 where the memory is shorter than this text
unfoldable pub write_fault : Plan → List ℕ → List ℕ → Option Fault
write_fault P boxes out = input_fault P boxes or_else unless (leb (length (text_of_plan P boxes)) (length out)) 33 0

-- What writing leaves: its answer, which is the length of the text, and the memory lent.
pub record WriteEnd : Type 0 where
  pub answer : Answer ℕ
  pub out : List ℕ

abbrev pub write_end : Answer ℕ → List ℕ → WriteEnd
write_end answer out = record { answer = answer; out = out }

-- a refusal changes no byte; bytes past the text are untouched
unfoldable pub write_plan : Plan → List ℕ → List ℕ → WriteEnd
write_plan P boxes out =
    on_option (write_fault P boxes out)
    (write_end (answered (length (text_of_plan P boxes))) (written (text_of_plan P boxes) out))
    (λ f. write_end (refused f) out)

-- of a plan in memory: by the letters of its calendars
unfoldable pub write_packed : PackedPlan → List ℕ → List ℕ → WriteEnd
write_packed P boxes out =
    over_letters (is_right_size (unpacked P) boxes) P (λ f. write_end (refused f) out) (λ Q. write_plan Q boxes out)

-- a plan and its boxes read into this memory: what is answered, and what lies there
module _ (rs cs ts ws hs ps bs : List ℕ) where
  abbrev pub plan_read : PackedPlan → List ℕ → ReadEnd
  plan_read P boxes =
      end_with
      (answered
      (record {
        hours = P.hours;
        rooms = length P.capacities;
        calendars = calendar_count (unpacked P).shifts;
        tasks = length P.task_calendars;
        pairs = pair_count (unpacked P);
      }))
      (written P.capacities rs)
      (written P.calendars cs)
      (written P.task_calendars ts)
      (written P.work_times ws)
      (written P.heights hs)
      (written P.pairs ps)
      (written boxes bs)

-- A text read again gives an equal plan with equal boxes: its lines are few and short enough to be read, it holds them, and reading it into any
-- memory that is enough leaves there the very bytes that were lent.
pub record ReadsBack (P : PackedPlan) (boxes text : List ℕ) : Type 0 where
  pub few : length (parts lf text) ≤ most_lines + 1
  pub short : (k : ℕ) → k + 1 < length (parts lf text) → length (get_or (parts lf text) k []) + 1 ≤ most_line
  pub again : (r : Read) × (read_text text ≡ answered r) × (plan_in r ≡ unpacked P) × (boxes_in r ≡ boxes)
  pub read : (rs cs ts ws hs ps bs : List ℕ) → is_enough rs cs ts ws hs ps bs ≡ true
      → read_plan rs cs ts ws hs ps bs text ≡ plan_read rs cs ts ws hs ps bs P boxes
