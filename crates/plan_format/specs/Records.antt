-- The records of plan text, one a line (01, "Plan text and listing"; rooms: 02, W-202; pairs: W-206).
use Rattle.std.specs.Prelude.{Option, None, Some}
use Rattle.std.specs.Prelude.{List, [], ◌∷◌, ◌++◌, ℕ, leb, eqb, length, get_or, drop, if◌then◌else◌}
use Rattle.units.specs.Choice.{◌and◌, some_if, on_option}
use Rattle.text.specs.Words.{word_plan, word_cal, word_task, word_after}
use Rattle.text.specs.Fields.{tab, parts, same}
use Rattle.text.specs.Numbers.{numbers_of}
use Rattle.text.specs.Lines.{number_fields}

-- `plan`, H, and the capacity of each room; `cal` and the symbols; `task` and its numbers: calendar, p, the height in each room, and all six
-- bounds or none; `after` and a pair of tasks, the earlier first
pub data Record : Type 0 where
  plan_record : ℕ → List ℕ → Record
  cal_record : List ℕ → Record
  task_record : List ℕ → Record
  after_record : ℕ → ℕ → Record

-- ---- read

-- the fields' numbers, if there are so many or more
unfoldable pub numbers_if : ℕ → List (List ℕ) → Option (List ℕ)
numbers_if least fields = on_option (numbers_of fields) None (λ ns. some_if (leb least (length ns)) ns)

-- H, and a number for each room; how many rooms there may be is left to refusal 17
unfoldable pub plan_of : List (List ℕ) → Option Record
plan_of fields = on_option (numbers_if 1 fields) None (λ ns. Some (plan_record (get_or ns 0 0) (drop 1 ns)))

-- one field of symbols, not empty; what they are is left to refusal 4
unfoldable pub cal_of : List (List ℕ) → Option Record
cal_of fields = some_if (eqb (length fields) 1 and leb 1 (length (get_or fields 0 []))) (cal_record (get_or fields 0 []))

-- calendar and p; how many numbers follow is a matter of the plan line
unfoldable pub task_of : List (List ℕ) → Option Record
task_of fields = on_option (numbers_if 2 fields) None (λ ns. Some (task_record ns))

-- two tasks; which they may be is left to refusal 18
unfoldable pub after_of : List (List ℕ) → Option Record
after_of fields =
    on_option (numbers_of fields) None (λ ns. some_if (eqb (length ns) 2) (after_record (get_or ns 0 0) (get_or ns 1 0)))

-- by the first field, and the fields after it
unfoldable pub by_word : List (List ℕ) → Option Record
by_word [] = None
by_word (word ∷ fields) =
    if same word word_plan then plan_of fields
    else (if same word word_cal then cal_of fields
    else (if same word word_task then task_of fields
    else (if same word word_after then after_of fields
    else None)))

-- a line's record, if it is one
unfoldable pub record_of : List ℕ → Option Record
record_of line = by_word (parts tab line)

-- ---- written

-- a record's line, without its LF
unfoldable pub record_line : Record → List ℕ
record_line (plan_record h cs) = word_plan ++ number_fields (h ∷ cs)
record_line (cal_record symbols) = word_cal ++ (tab ∷ symbols)
record_line (task_record numbers) = word_task ++ number_fields numbers
record_line (after_record earlier later) = word_after ++ number_fields (earlier ∷ later ∷ [])
