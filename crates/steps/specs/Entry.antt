-- The log checker and the filter as entry points: what each answers and leaves in lent memory (01, "Steps", and the order of refusals; packed calendars:
-- 02, W-208).
use Rattle.std.specs.Prelude.{Bool, false, List, [], ◌∷◌, map, ℕ, zero, suc, ◌+◌, eqb, length, get_or}
use Rattle.std.specs.Prelude.{Option, Some, Result, Ok, Err}
use Rattle.units.specs.Choice.{◌and◌, on_option, ◌or_else◌}
use Rattle.units.specs.Cells.{written}
use Rattle.plan.specs.Plan.{Plan}
use Rattle.plan.specs.declared.Fault.{Fault}
use Rattle.plan.specs.Refusals.{fault, unless, Answer, answer_unless, fault_of}
use Rattle.plan.specs.Faults.{is_right_size, plan_fault}
use Rattle.plan.specs.Over.{PackedPlan, unpacked, over_letters, memory_fault}
use Rattle.steps.specs.declared.Step.{Step}
use Rattle.steps.specs.declared.Accepted.{Accepted}
use Rattle.steps.specs.declared.Filtered.{Filtered}
use Rattle.steps.specs.declared.Ending as Declared
use Rattle.steps.specs.declared.Ending.TheVariants as declared
use Rattle.plan.specs.declared.Refusal.{Refusal}
use Rattle.steps.specs.Steps.{step}
use Rattle.steps.specs.Log.{LogEnd, log_end, replay}
use Rattle.steps.specs.Filter.{Ending, settled, impossible, no_room, Run, count, run}

-- the log in lent memory: the kinds, the tasks and the hours of its steps, each in a slice of its own
unfoldable pub step_at : List ℕ → List ℕ → List ℕ → ℕ → Step
step_at kinds tasks hours k = step (get_or kinds k 0) (get_or tasks k 0) (get_or hours k 0)

-- n steps from step k on; all steps
unfoldable pub steps_from : List ℕ → List ℕ → List ℕ → ℕ → ℕ → List Step
steps_from kinds tasks hours k zero = []
steps_from kinds tasks hours k (suc n) = step_at kinds tasks hours k ∷ steps_from kinds tasks hours (k + 1) n

unfoldable pub steps_in : List ℕ → List ℕ → List ℕ → List Step
steps_in kinds tasks hours = steps_from kinds tasks hours 0 (length kinds)

-- one number a step in each slice
unfoldable pub one_for_each_step : List ℕ → List ℕ → List ℕ → Bool
one_for_each_step kinds tasks hours = eqb (length tasks) (length kinds) and eqb (length hours) (length kinds)

-- 31, then the plan's tests
unfoldable pub entry_fault : Plan → List ℕ → List ℕ → List ℕ → List ℕ → Option Fault
entry_fault P boxes kinds tasks hours =
    unless (is_right_size P boxes and one_for_each_step kinds tasks hours) 31 0
    or_else plan_fault P boxes

-- The log checker: the log's end, or at once a refusal that changes nothing. The boxes lent become those at the log's end.
unfoldable pub check_log : Plan → List ℕ → List ℕ → List ℕ → List ℕ → LogEnd
check_log P boxes kinds tasks hours =
    on_option (entry_fault P boxes kinds tasks hours) (replay P boxes (steps_in kinds tasks hours)) (λ f. log_end 0 false boxes (Some f))

-- accepting, it answers the number of steps and whether the last said impossible
unfoldable pub check_answer : LogEnd → Answer Accepted
check_answer e = answer_unless e.refusal (record { steps = e.steps; impossible = e.impossible })

-- What the filter answers: a refusal; 32, with the count; settled or impossible, with the count.
pub data FilterAnswer : Type 0 where
  refused_by : Fault → FilterAnswer
  no_room_for : Fault → ℕ → FilterAnswer
  settled_after impossible_after : ℕ → FilterAnswer

-- the steps taken by an answer, of which so many before; a refusal takes none
abbrev pub count_of : ℕ → FilterAnswer → ℕ
count_of taken (refused_by f) = taken
count_of taken (no_room_for f n) = n
count_of taken (settled_after n) = n
count_of taken (impossible_after n) = n

unfoldable pub ending_answer : Ending → ℕ → FilterAnswer
ending_answer settled n = settled_after n
ending_answer impossible n = impossible_after n
ending_answer no_room n = no_room_for (fault 32 0) n

-- What the filter leaves: its answer, the boxes, and the log, slice by slice.
pub record FilterEnd : Type 0 where
  pub answer : FilterAnswer
  pub boxes : List ℕ
  pub kinds : List ℕ
  pub tasks : List ℕ
  pub hours : List ℕ

abbrev pub filter_end : FilterAnswer → List ℕ → List ℕ → List ℕ → List ℕ → FilterEnd
filter_end answer boxes kinds tasks hours = record { answer = answer; boxes = boxes; kinds = kinds; tasks = tasks; hours = hours }

unfoldable pub logged : Run → List ℕ → List ℕ → List ℕ → FilterEnd
logged r kinds tasks hours =
    filter_end (ending_answer r.ending (count r)) r.boxes
    (written (map (λ x. x.kind) r.log) kinds)
    (written (map (λ x. x.task) r.log) tasks)
    (written (map (λ x. x.hour) r.log) hours)

-- The filter, with the log lent as its room: the run, or a refusal that changes nothing.
unfoldable pub filter_plan : Plan → List ℕ → List ℕ → List ℕ → List ℕ → FilterEnd
filter_plan P boxes kinds tasks hours =
    on_option (entry_fault P boxes kinds tasks hours)
    (logged (run P boxes (length kinds)) kinds tasks hours)
    (λ f. filter_end (refused_by f) boxes kinds tasks hours)

-- the number and the values of each case of the filter's answer
abbrev pub ending_of : Declared.Ending → Ending
ending_of declared.Settled = settled
ending_of declared.Impossible = impossible
ending_of declared.NoRoom = no_room

abbrev pub filter_answer : Result Filtered Refusal → FilterAnswer
filter_answer (Err r) = refused_by (fault_of r)
filter_answer (Ok f) = ending_answer (ending_of f.ending) f.count

-- The same of a log that is given as a list of records, in the three slices that hold them: what the log checker makes of it; what the filter
-- answers and leaves, with the first so many steps of the log.
unfoldable pub check_records : Plan → List ℕ → List Step → LogEnd
check_records P boxes log = check_log P boxes (map (λ x. x.kind) log) (map (λ x. x.task) log) (map (λ x. x.hour) log)

pub record FilterLeft : Type 0 where
  pub answer : FilterAnswer
  pub boxes : List ℕ
  pub first : ℕ → List Step

unfoldable pub left_by : FilterEnd → FilterLeft
left_by e = record { answer = e.answer; boxes = e.boxes; first = steps_from e.kinds e.tasks e.hours 0 }

unfoldable pub filter_records : Plan → List ℕ → List Step → FilterLeft
filter_records P boxes cells = left_by (filter_plan P boxes (map (λ x. x.kind) cells) (map (λ x. x.task) cells) (map (λ x. x.hour) cells))

-- ---- of a plan in memory, whose calendars are packed

-- 31, then the plan's tests in memory, where no log is lent in slices
unfoldable pub packed_input_fault : PackedPlan → List ℕ → Option Fault
packed_input_fault P boxes = memory_fault (is_right_size (unpacked P) boxes) P boxes

-- 31 does not apply to the plan's memory and the log's; what is found before the log is read
abbrev pub is_right_memory : PackedPlan → List ℕ → List ℕ → List ℕ → List ℕ → Bool
is_right_memory P boxes kinds tasks hours = is_right_size (unpacked P) boxes and one_for_each_step kinds tasks hours

unfoldable pub packed_entry_fault : PackedPlan → List ℕ → List ℕ → List ℕ → List ℕ → Option Fault
packed_entry_fault P boxes kinds tasks hours = memory_fault (is_right_memory P boxes kinds tasks hours) P boxes

-- the log checker; the filter
unfoldable pub check_log_packed : PackedPlan → List ℕ → List ℕ → List ℕ → List ℕ → LogEnd
check_log_packed P boxes kinds tasks hours =
    over_letters (is_right_memory P boxes kinds tasks hours) P (λ f. log_end 0 false boxes (Some f)) (λ Q. check_log Q boxes kinds tasks hours)

unfoldable pub filter_packed : PackedPlan → List ℕ → List ℕ → List ℕ → List ℕ → FilterEnd
filter_packed P boxes kinds tasks hours =
    over_letters (is_right_memory P boxes kinds tasks hours) P
    (λ f. filter_end (refused_by f) boxes kinds tasks hours)
    (λ Q. filter_plan Q boxes kinds tasks hours)

-- of a log that is given as a list of records
unfoldable pub check_records_packed : PackedPlan → List ℕ → List Step → LogEnd
check_records_packed P boxes log = check_log_packed P boxes (map (λ x. x.kind) log) (map (λ x. x.task) log) (map (λ x. x.hour) log)

unfoldable pub filter_records_packed : PackedPlan → List ℕ → List Step → FilterLeft
filter_records_packed P boxes cells = left_by (filter_packed P boxes (map (λ x. x.kind) cells) (map (λ x. x.task) cells) (map (λ x. x.hour) cells))
