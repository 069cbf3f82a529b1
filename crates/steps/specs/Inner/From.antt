-- The log checker and the filter from a step on, on the boxes that the steps before it left: a log in parts goes on so. 01 has no such terms.
use Rattle.std.specs.Prelude.{Bool, false, List, map, ℕ, ◌+◌, length}
use Rattle.std.specs.Prelude.{Some}
use Rattle.units.specs.Choice.{on_option}
use Rattle.units.specs.Cells.{written}
use Rattle.plan.specs.Over.{PackedPlan, unpacked}
use Rattle.steps.specs.Log.{LogEnd, log_end, replay_from}
use Rattle.steps.specs.Filter.{Run, count, run}
use Rattle.steps.specs.Entry.{steps_in, packed_entry_fault, refused_by, ending_answer, FilterEnd, filter_end}

-- the log's end, where the first step lent has the number k, and whether the one before it said impossible; or a refusal that changes nothing
unfoldable pub check_from : PackedPlan → List ℕ → List ℕ → List ℕ → List ℕ → ℕ → Bool → LogEnd
check_from P boxes kinds tasks hours k said =
    on_option (packed_entry_fault P boxes kinds tasks hours)
    (replay_from (unpacked P) k said boxes (steps_in kinds tasks hours))
    (λ f. log_end 0 false boxes (Some f))

-- a run's end, where so many steps were taken before it
unfoldable pub logged_from : ℕ → Run → List ℕ → List ℕ → List ℕ → FilterEnd
logged_from taken r kinds tasks hours =
    filter_end (ending_answer r.ending (taken + count r)) r.boxes
    (written (map (λ x. x.kind) r.log) kinds)
    (written (map (λ x. x.task) r.log) tasks)
    (written (map (λ x. x.hour) r.log) hours)

unfoldable pub filter_from : PackedPlan → List ℕ → List ℕ → List ℕ → List ℕ → ℕ → FilterEnd
filter_from P boxes kinds tasks hours taken =
    on_option (packed_entry_fault P boxes kinds tasks hours)
    (logged_from taken (run (unpacked P) boxes (length kinds)) kinds tasks hours)
    (λ f. filter_end (refused_by f) boxes kinds tasks hours)
