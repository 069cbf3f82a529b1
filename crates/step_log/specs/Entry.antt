-- The log checker and the filter over a log that is a list of step records: what each answers and leaves in lent memory (01, "Steps", the order
-- of refusals, and "Where each language form goes"; packed calendars: 02, W-208).
use Rattle.std.specs.Prelude.{false, List, ℕ, length, take}
use Rattle.std.specs.Prelude.{Some}
use Rattle.units.specs.Choice.{on_option}
use Rattle.units.specs.Cells.{written}
use Rattle.plan.specs.Plan.{Plan}
use Rattle.plan.specs.Faults.{is_right_size, input_fault}
use Rattle.plan.specs.Over.{PackedPlan, unpacked, over_letters}
use Rattle.steps.specs.declared.Step.{Step}
use Rattle.steps.specs.Log.{LogEnd, log_end, replay}
use Rattle.steps.specs.Filter.{Run, count, run}
use Rattle.steps.specs.Entry.{FilterAnswer, refused_by, ending_answer, FilterLeft}

-- The log checker: the log's end, or at once a refusal (31, then the plan's tests) that changes nothing.
unfoldable pub check_steps : Plan → List ℕ → List Step → LogEnd
check_steps P boxes log = on_option (input_fault P boxes) (replay P boxes log) (λ f. log_end 0 false boxes (Some f))

-- What the filter leaves: its answer, the boxes, and the log.
pub record StepsEnd : Type 0 where
  pub answer : FilterAnswer
  pub boxes : List ℕ
  pub log : List Step

abbrev pub steps_end : FilterAnswer → List ℕ → List Step → StepsEnd
steps_end answer boxes log = record { answer = answer; boxes = boxes; log = log }

unfoldable pub logged_steps : Run → List Step → StepsEnd
logged_steps r log = steps_end (ending_answer r.ending (count r)) r.boxes (written r.log log)

-- The filter, with the log lent as its room: the run, or a refusal that changes nothing.
unfoldable pub filter_steps : Plan → List ℕ → List Step → StepsEnd
filter_steps P boxes log =
    on_option (input_fault P boxes)
    (logged_steps (run P boxes (length log)) log)
    (λ f. steps_end (refused_by f) boxes log)

-- its answer, the boxes, and the first so many steps of the log
unfoldable pub left_steps : StepsEnd → FilterLeft
left_steps e = record { answer = e.answer; boxes = e.boxes; first = λ n. take n e.log }

-- both of a plan in memory, whose calendars are packed
unfoldable pub check_steps_packed : PackedPlan → List ℕ → List Step → LogEnd
check_steps_packed P boxes log =
    over_letters (is_right_size (unpacked P) boxes) P (λ f. log_end 0 false boxes (Some f)) (λ Q. check_steps Q boxes log)

unfoldable pub filter_steps_packed : PackedPlan → List ℕ → List Step → StepsEnd
filter_steps_packed P boxes log =
    over_letters (is_right_size (unpacked P) boxes) P (λ f. steps_end (refused_by f) boxes log) (λ Q. filter_steps Q boxes log)
