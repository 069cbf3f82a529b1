-- A part of a log: the steps that the core is called with at a time, and what the log checker and the filter come to with them. No public contract
-- names a part.
use Rattle.std.specs.Prelude.{Bool, false, ◌≡◌, List, ℕ, ◌+◌, ◌-◌, min, ltb}
use Rattle.std.specs.Prelude.{None, Some, Result, Ok, Err}
use Rattle.units.specs.Choice.{on_option}
use Rattle.plan.specs.Over.{PackedPlan, unpacked}
use Rattle.steps.specs.declared.Step.{Step}
use Rattle.steps.specs.declared.Accepted.{Accepted}
use Rattle.plan.specs.declared.Refusal.{Refusal}
use Rattle.plan.specs.Refusals.{answer_of, fault_of}
use Rattle.steps.specs.Steps as steps
use Rattle.steps.specs.Log.{LogEnd, log_end, replay_from}
use Rattle.steps.specs.Filter.{Run, count, run}
use Rattle.steps.specs.Entry.{packed_input_fault, steps_from, check_answer, FilterAnswer, refused_by}
use Rattle.steps.specs.Entry.{no_room_for, settled_after, impossible_after, ending_answer, filter_answer}
use Rattle.step_log.specs.declared.part.Part.{Part}
use Rattle.step_log.specs.declared.part.PartFiltered.{PartFiltered}
use Rattle.step_log.specs.Inner.Size.{part_size}

abbrev pub no_step : Step
no_step = steps.step 0 0 0

unfoldable pub part_steps : Part → List Step
part_steps p = steps_from p.kinds p.tasks p.hours 0 p.count

-- ---- the log checker

-- the end of a log from step number k on, or a refusal that changes nothing
unfoldable pub check_steps_from : PackedPlan → ℕ → Bool → List ℕ → List Step → LogEnd
check_steps_from P k said boxes steps =
    on_option (packed_input_fault P boxes) (replay_from (unpacked P) k said boxes steps) (λ f. log_end 0 false boxes (Some f))

-- What the log checker comes to with a part, whose end this is.
pub record CheckedAs (e : LogEnd) (answer : Result Accepted Refusal) (left : List ℕ) : Type 0 where
  pub answers : answer_of answer ≡ check_answer e
  pub leaves : left ≡ e.boxes

-- ---- the filter

-- it goes on only where it stopped for room, with room in all
abbrev pub does_go_on : ℕ → FilterAnswer → Bool
does_go_on room (refused_by f) = false
does_go_on room (no_room_for f n) = ltb n room
does_go_on room (settled_after n) = false
does_go_on room (impossible_after n) = false

-- the run over one part, after so many steps and with room for so many in all
unfoldable pub part_run : PackedPlan → List ℕ → ℕ → ℕ → Run
part_run P boxes taken room = run (unpacked P) boxes (min part_size (room - taken))

-- What the filter comes to with a part that goes as this run, after so many steps.
pub record RanAs (r : Run) (taken : ℕ) (f : PartFiltered) (left : List ℕ) : Type 0 where
  pub answers : filter_answer (Ok f.filtered) ≡ ending_answer r.ending (taken + count r)
  pub leaves : left ≡ r.boxes
  pub steps : part_steps f.steps ≡ r.log
  pub number : f.steps.count ≡ count r

-- A plan that passes the tests has a part's run, with room for so many steps in all; a refusal is of the plan, and changes nothing.
abbrev pub FilteredAs : PackedPlan → List ℕ → ℕ → ℕ → Result PartFiltered Refusal → List ℕ → Type 0
FilteredAs P boxes taken room (Ok f) left = (packed_input_fault P boxes ≡ None) × RanAs (part_run P boxes taken room) taken f left
FilteredAs P boxes taken room (Err r) left = (packed_input_fault P boxes ≡ Some (fault_of r)) × (left ≡ boxes)
