-- Plan text as 01 and 02 up to W-205 speak of it: its lines of three words, read and written, and what reading leaves in lent memory. That text
-- without pairs is read and written by these as before W-206 is proved. What did not change is cited: a record of the three words leaves the pairs
-- read so far as they are, and a plan's own tests, where it has no pairs, are those of before (crate former, NoPairs). What W-208 changed for all
-- texts (ShortTexts) is as it is now: the limits of lines, packed calendars, and memory after a refusal.
use Rattle.std.specs.Prelude.{Bool, true, List, [], ◌∷◌, ◌++◌, map, ◌≡◌, ◌⊎◌, ℕ, ◌+◌, ◌≤◌, leb, eqb, length, get_or, if◌then◌else◌}
use Rattle.std.specs.Prelude.{Option, None}
use Rattle.units.specs.Cells.{written}
use Rattle.units.specs.Choice.{◌and◌, on_option, ◌or_else◌}
use Rattle.units.specs.Limits.{most_rooms, most_tasks}
use Rattle.units.specs.Lists.{joined}
use Rattle.plan.specs.Plan.{Plan, room_count, task_count, calendar_count}
use Rattle.plan.specs.Packed.{packed}
use Rattle.plan.specs.declared.Fault.{Fault}
use Rattle.plan.specs.Refusals.{fault, unless, Answer, refused, answered, on_answer}
use Rattle.plan.specs.Faults.{input_fault}
use Rattle.text.specs.Words.{word_plan, word_cal, word_task, word_after}
use Rattle.text.specs.Fields.{tab, lf, parts, same}
use Rattle.plan_format.specs.Records.{Record, plan_record, plan_of, cal_of, task_of}
use Rattle.plan_format.specs.Text as pairs-text
use Rattle.plan_format.specs.Text.{plan_section, is_line, Read, nothing, with_record, text_of}
use Rattle.plan_format.specs.Reading as pairs-reading
use Rattle.plan_format.specs.Reading.{plan_in, boxes_in, most_packed, most_heights, most_paired, most_bounds, read_fault, ReadEnd, end_with, unread, cleared}
use Rattle.plan_format.specs.Writing as pairs-writing
use Rattle.plan_format.specs.Writing.{cal_records, task_records, WriteEnd, write_end}

-- ---- read

-- by the first field, and the fields after it
unfoldable pub by_word : List (List ℕ) → Option Record
by_word [] = None
by_word (word ∷ fields) =
    if same word word_plan then plan_of fields
    else (if same word word_cal then cal_of fields
    else (if same word word_task then task_of fields
    else None))

-- a line, the lines and the text: as they are read now, by these words
unfoldable pub with_line_at : ℕ → Read → List ℕ → Option Read
with_line_at k r line =
    if is_line k (length line) then on_option (by_word (parts tab line)) None (with_record r) else None

unfoldable pub read_lines : ℕ → Read → List (List ℕ) → Answer Read
read_lines k r [] = refused (fault 1 k)
read_lines k r (line ∷ []) = if leb plan_section r.reached and eqb (length line) 0 then answered r else refused (fault 1 k)
read_lines k r (line ∷ (next ∷ lines)) =
    on_option (with_line_at k r line) (refused (fault 1 k)) (λ more. read_lines (k + 1) more (next ∷ lines))

unfoldable pub read_text : List ℕ → Answer Read
read_text text = read_lines 1 nothing (parts lf text)

-- memory for a plan, none of it for pairs
unfoldable pub is_enough : List ℕ → List ℕ → List ℕ → List ℕ → List ℕ → List ℕ → Bool
is_enough capacities calendars task_calendars work_times heights boxes =
    leb most_rooms (length capacities)
    and leb most_packed (length calendars)
    and leb most_tasks (length task_calendars)
    and leb most_tasks (length work_times)
    and leb most_heights (length heights)
    and leb most_bounds (length boxes)

module _ (capacities calendars task_calendars work_times heights pairs boxes : List ℕ) where
  -- 0 pairs are answered, and memory lent for pairs is left as it was
  unfoldable pub stored : Read → ReadEnd
  stored r =
      end_with
      (answered (record { hours = r.hours; rooms = length r.capacities; calendars = length r.calendars; tasks = length r.tasks; pairs = 0 }))
      (written (plan_in r).capacities capacities)
      (written (joined (map packed r.calendars)) calendars)
      (written (plan_in r).shifts.task_calendars task_calendars)
      (written (plan_in r).shifts.work_times work_times)
      (written (plan_in r).heights heights)
      pairs
      (written (boxes_in r) boxes)

  -- a refusal leaves that memory as it leaves all other
  unfoldable pub read_plan : List ℕ → ReadEnd
  read_plan text =
      let refuse : Fault → ReadEnd = cleared capacities calendars task_calendars work_times heights pairs boxes in
      on_answer (read_text text) refuse
      (λ r.
      if is_enough capacities calendars task_calendars work_times heights boxes
      then on_option (read_fault true r) (stored r) refuse
      else unread capacities calendars task_calendars work_times heights pairs boxes (fault 31 0))

-- ---- written

-- the records of a plan: `plan`, then its calendars, then its tasks
unfoldable pub records_of : Plan → List ℕ → List Record
records_of P boxes =
    plan_record P.shifts.hours P.capacities
    ∷ (cal_records P.shifts (calendar_count P.shifts)
    ++ task_records (room_count P) P.shifts.task_calendars P.shifts.work_times P.heights boxes (task_count P))

unfoldable pub text_of_plan : Plan → List ℕ → List ℕ
text_of_plan P boxes = text_of (records_of P boxes)

unfoldable pub write_fault : Plan → List ℕ → List ℕ → Option Fault
write_fault P boxes out = input_fault P boxes or_else unless (leb (length (text_of_plan P boxes)) (length out)) 33 0

unfoldable pub write_plan : Plan → List ℕ → List ℕ → WriteEnd
write_plan P boxes out =
    on_option (write_fault P boxes out)
    (write_end (answered (length (text_of_plan P boxes))) (written (text_of_plan P boxes) out))
    (λ f. write_end (refused f) out)

-- ---- as before

-- the line's word is `after`
unfoldable pub is_pair_line : List ℕ → Bool
is_pair_line line = same (get_or (parts tab line) 0 []) word_after

-- the text was refused by 1 for such a line: its lines count from 1
unfoldable pub RefusedAtPair : List ℕ → Type 0
RefusedAtPair text = (k : ℕ) × (read_text text ≡ refused (fault 1 (1 + k))) × (is_pair_line (get_or (parts lf text) k []) ≡ true)

-- Each text is read as before, unless it was refused for a pair's line; one that was accepted is accepted with the same answer, and holds no pairs.
-- With memory for pairs lent beside, reading leaves what it left. A plan without pairs is written as before.
pub record AsBefore : Type 0 where
  pub read : (text : List ℕ) → (pairs-text.read_text text ≡ read_text text) ⊎ RefusedAtPair text
  pub accepted : (text : List ℕ) (r : Read) → read_text text ≡ answered r → (pairs-text.read_text text ≡ answered r) × (r.pairs ≡ [])
  pub left : (rs cs ts ws hs ps bs text : List ℕ) → most_paired ≤ length ps
      → (pairs-reading.read_plan rs cs ts ws hs ps bs text ≡ read_plan rs cs ts ws hs ps bs text) ⊎ RefusedAtPair text
  pub written : (P : Plan) → P.pairs ≡ [] → (boxes out : List ℕ) → pairs-writing.write_plan P boxes out ≡ write_plan P boxes out
