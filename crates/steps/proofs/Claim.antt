-- The whole claim about logs holds for every plan that passes the tests, with boxes of the right number: for any log checker that replays the log
-- and any filter that leaves what the run leaves, and so for those over three slices. Assumes nothing.
use mathlib.Core.Path.{◌≡◌, refl, sym, subst}
use Rattle.std.specs.Prelude.{None}
use mathlib.Core.List.{List, map}
use Prim.Native.Nat.{ℕ}
use lib.ListN.{length, length-map}
use Rattle.units.specs.Cells.{written}
use Rattle.units.specs.Choice.{on_option}
use Rattle.plan.specs.Plan.{Plan}
use Rattle.plan.specs.Faults.{input_fault}
use Rattle.plan.specs.Over.{PackedPlan, unpacked}
use Rattle.steps.specs.declared.Step.{Step}
use Rattle.steps.specs.Log.{LogEnd, replay}
use Rattle.steps.specs.Filter.{Run, count, run}
use Rattle.steps.specs.Entry.{check_answer, check_records, ending_answer, logged, filter_plan, FilterLeft, left_by, filter_records}
use Rattle.steps.specs.Entry.{packed_input_fault, check_records_packed, filter_records_packed}
use Rattle.steps.specs.Claim.{CheckedHolds, FilterHolds, LogsHold}
use Rattle.steps.proofs.Contracts.{first-sized, replayed-holds, steps-written, records-pass, records-replay, run_holds}
use Rattle.steps.proofs.Contracts.{input-letters, packed-records-pass, packed-records-replay, filter-is}

-- what is left is what the run leaves
pub record LeftBy (r : Run) (l : FilterLeft) : Type 0 where
  pub answer : l.answer ≡ ending_answer r.ending (count r)
  pub boxes : l.boxes ≡ r.boxes
  pub log : l.first (count r) ≡ r.log

module _ (P : Plan) (opening : List ℕ) (check : List Step → LogEnd) (filter : List Step → FilterLeft) (passes : input_fault P opening ≡ None)
    (replays : (log : List Step) → check log ≡ replay P opening log)
    (runs : (cells : List Step) → LeftBy (run P opening (length cells)) (filter cells)) where
  filters : (cells : List Step)
      → FilterHolds P opening check (length cells) (filter cells).answer (filter cells).boxes (filter cells).first
  filters cells =
      rw ((runs cells).answer, (runs cells).boxes)
      (run_holds P opening check (length cells) (filter cells).first (first-sized P opening passes) replays (runs cells).log)

  pub logs-hold-by : LogsHold P opening check filter
  logs-hold-by =
      record {
        checks = λ log.
            subst (λ (e : LogEnd). CheckedHolds P opening None log (check_answer e) e.boxes) (sym (replays log))
            (replayed-holds P opening None log (first-sized P opening passes));
        ends = λ cells. let r = run P opening (length cells) in (r.ending, count r, (runs cells).answer);
        filters = filters;
      }

module _ (P : Plan) (opening : List ℕ) (passes : input_fault P opening ≡ None) where
  left-by-run : (cells : List Step) → LeftBy (run P opening (length cells)) (filter_records P opening cells)
  unfolding filter_records left_by filter_plan on_option logged written
  left-by-run cells =
      rw (records-pass P opening passes cells, length-map cells (λ x. x.kind))
      (record { answer = refl; boxes = refl; log = steps-written (run P opening (length cells)).log _ _ _ })

  pub logs-hold : LogsHold P opening (check_records P opening) (filter_records P opening)
  logs-hold = logs-hold-by P opening _ _ passes (records-replay P opening passes) left-by-run

-- and in memory, where the calendars are packed
module _ (P : PackedPlan) (opening : List ℕ) (passes : packed_input_fault P opening ≡ None) where
  packed-left-by-run : (cells : List Step) → LeftBy (run (unpacked P) opening (length cells)) (filter_records_packed P opening cells)
  unfolding filter_records_packed left_by on_option logged written
  packed-left-by-run cells =
      rw (
        filter-is P opening (map (λ x. x.kind) cells) (map (λ x. x.task) cells) (map (λ x. x.hour) cells),
        packed-records-pass P opening passes cells,
        length-map cells (λ x. x.kind),
      )
      (record { answer = refl; boxes = refl; log = steps-written (run (unpacked P) opening (length cells)).log _ _ _ })

  pub packed-logs-hold : LogsHold (unpacked P) opening (check_records_packed P opening) (filter_records_packed P opening)
  packed-logs-hold =
      logs-hold-by (unpacked P) opening _ _ (input-letters P opening passes) (packed-records-replay P opening passes) packed-left-by-run
