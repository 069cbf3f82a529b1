-- Plan text, line by line (01, "Plan text and listing"; rooms: 02, W-202; pairs: W-206; the limits of a line and of their number: W-208). Read: the
-- first line that breaks the rules, or the plan's records. Written: each record's line.
use Rattle.std.specs.Prelude.{Bool, true, List, [], ◌∷◌, ◌++◌, ℕ, ◌+◌, leb, eqb, length, if◌then◌else◌}
use Rattle.std.specs.Prelude.{Option, None}
use Rattle.units.specs.Choice.{◌and◌, some_if, on_option}
use Rattle.units.specs.Limits.{within}
use Rattle.plan.specs.Refusals.{fault, Answer, refused, answered}
use Rattle.text.specs.Fields.{lf, parts}
use Rattle.text.specs.Lines.{ended}
use Rattle.plan_format.specs.Records.{Record, plan_record, cal_record, task_record, after_record, record_of, record_line}

-- ---- read

-- the most bytes of a line, with its LF, and the most lines of a text
abbrev pub most_line : ℕ
most_line = 8800

abbrev pub most_lines : ℕ
most_lines = 65535

-- The sections of a text, in their order: nothing yet (0), the plan line, calendars, tasks, pairs.
abbrev pub plan_section : ℕ
plan_section = 1

abbrev pub cal_section : ℕ
cal_section = 2

abbrev pub task_section : ℕ
task_section = 3

abbrev pub after_section : ℕ
after_section = 4

-- What has been read: the section reached, and what the records so far say; a task by its numbers, and the pairs as they lie in memory.
pub record Read : Type 0 where
  pub reached : ℕ
  pub hours : ℕ
  pub capacities : List ℕ
  pub calendars : List (List ℕ)
  pub tasks : List (List ℕ)
  pub pairs : List ℕ

abbrev pub nothing : Read
nothing = record { reached = 0; hours = 0; capacities = []; calendars = []; tasks = []; pairs = [] }

-- `plan` comes first and once; each other record comes after it, and not after a later section
unfoldable pub comes : ℕ → ℕ → Bool
comes section reached = if eqb section plan_section then eqb reached 0 else within plan_section section reached

-- a task line has calendar, p, a height for each of so many rooms, and all six bounds or none
unfoldable pub is_task_line : ℕ → ℕ → Bool
is_task_line rooms numbers = if eqb numbers (rooms + 2) then true else eqb numbers (rooms + 8)

unfoldable pub with_record : Read → Record → Option Read
with_record r (plan_record h cs) =
    some_if (comes plan_section r.reached) (record { reached = plan_section; hours = h; capacities = cs; calendars = []; tasks = []; pairs = [] })
with_record r (cal_record symbols) =
    some_if (comes cal_section r.reached)
    (record {
      reached = cal_section;
      hours = r.hours;
      capacities = r.capacities;
      calendars = r.calendars ++ (symbols ∷ []);
      tasks = r.tasks;
      pairs = r.pairs;
    })
with_record r (task_record numbers) =
    some_if (comes task_section r.reached and is_task_line (length r.capacities) (length numbers))
    (record {
      reached = task_section;
      hours = r.hours;
      capacities = r.capacities;
      calendars = r.calendars;
      tasks = r.tasks ++ (numbers ∷ []);
      pairs = r.pairs;
    })
with_record r (after_record earlier later) =
    some_if (comes after_section r.reached)
    (record {
      reached = after_section;
      hours = r.hours;
      capacities = r.capacities;
      calendars = r.calendars;
      tasks = r.tasks;
      pairs = r.pairs ++ (earlier ∷ later ∷ []);
    })

unfoldable pub with_line : Read → List ℕ → Option Read
with_line r line = on_option (record_of line) None (with_record r)

-- line k may come, and be of so many bytes before its LF
unfoldable pub is_line : ℕ → ℕ → Bool
is_line k bytes = leb (bytes + 1) most_line and leb k most_lines

-- with line k
unfoldable pub with_line_at : ℕ → Read → List ℕ → Option Read
with_line_at k r line = if is_line k (length line) then with_line r line else None

-- from line k on: each line up to its LF. What follows the last LF must be nothing, and the text must have begun
unfoldable pub read_lines : ℕ → Read → List (List ℕ) → Answer Read
read_lines k r [] = refused (fault 1 k)
read_lines k r (line ∷ []) = if leb plan_section r.reached and eqb (length line) 0 then answered r else refused (fault 1 k)
read_lines k r (line ∷ (next ∷ lines)) =
    on_option (with_line_at k r line) (refused (fault 1 k)) (λ more. read_lines (k + 1) more (next ∷ lines))

-- lines count from 1
unfoldable pub read_text : List ℕ → Answer Read
read_text text = read_lines 1 nothing (parts lf text)

-- ---- written

-- one record a line
unfoldable pub text_of : List Record → List ℕ
text_of [] = []
text_of (x ∷ xs) = ended (record_line x) ++ text_of xs
