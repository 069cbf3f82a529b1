-- What the code finds in a line of plan text.
use Rattle.std.specs.Prelude.{◌≡◌, List, ℕ, ◌≤◌, length, drop, get_or}
use Rattle.std.specs.Prelude.{Option, None, Some}
use Rattle.plan_records.specs.declared.LineRecord.{LineRecord}
use Rattle.plan_records.specs.declared.LineRecord.TheVariants as line
use Rattle.text.specs.Reading.{Begin}
use Rattle.plan_format.specs.Records.{Record, plan_record, cal_record, task_record, after_record}

-- a record in some bytes: its symbols, which are of the bytes, its numbers in the first cells
unfoldable pub Finds : Option Record → Option LineRecord → List ℕ → List ℕ → Type 0
Finds o None bytes cells = o ≡ None
Finds o (Some (line.Plan n)) bytes cells = (ns : List ℕ) × (o ≡ Some (plan_record (get_or ns 0 0) (drop 1 ns))) × (1 ≤ n) × Begin ns n cells
Finds o (Some (line.Cal symbols)) bytes cells = (o ≡ Some (cal_record symbols.now)) × (length symbols.now ≤ length bytes)
Finds o (Some (line.Task n)) bytes cells = (ns : List ℕ) × (o ≡ Some (task_record ns)) × (2 ≤ n) × Begin ns n cells
Finds o (Some line.After) bytes cells = (ns : List ℕ) × (o ≡ Some (after_record (get_or ns 0 0) (get_or ns 1 0))) × Begin ns 2 cells
