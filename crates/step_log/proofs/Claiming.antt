-- The claims that the contracts over step records carry. Assumes nothing.
use mathlib.Core.Path.{◌≡◌, refl, sym, ap, ◌∙◌, subst}
use Rattle.std.specs.Prelude.{None}
use mathlib.Core.List.{List}
use Prim.Native.Nat.{ℕ}
use lib.ListN.{length, take}
use lib.Seq.{take-append_seam}
use Rattle.units.specs.Cells.{written}
use Rattle.units.specs.Choice.{on_option}
use Rattle.units.proofs.Choices.{option-all}
use Rattle.plan.specs.Plan.{Plan}
use Rattle.plan.specs.Refusals.{Answer}
use Rattle.plan.specs.Faults.{input_fault}
use Rattle.plan.specs.Over.{PackedPlan, unpacked, packed_of, SameOverLetters}
use Rattle.plan.proofs.Over.{same-over}
use Rattle.steps.specs.declared.Step.{Step}
use Rattle.steps.specs.Log.{LogEnd, replay}
use Rattle.steps.specs.Filter.{run}
use Rattle.steps.specs.declared.Accepted.{Accepted}
use Rattle.steps.specs.Entry.{packed_input_fault, check_answer}
use Rattle.steps.specs.Claim.{CheckedHolds, FilterHolds, LogsHold}
use Rattle.steps.proofs.Contracts.{memory-fault, input-letters, packed-sized, tested-holds, no-run-holds, run_holds}
use Rattle.steps.proofs.Claim.{LeftBy, logs-hold-by}
use Rattle.step_log.specs.Entry.{check_steps, check_steps_packed, StepsEnd, logged_steps, filter_steps, filter_steps_packed, left_steps}
use Rattle.step_log.proofs.Checking.{check-steps-is}
use Rattle.step_log.proofs.Filtering.{filter-steps-is}

module _ (P : PackedPlan) (boxes : List ℕ) (passes : packed_input_fault P boxes ≡ None) where
  steps-replay : (log : List Step) → check_steps_packed P boxes log ≡ replay (unpacked P) boxes log
  unfolding on_option
  steps-replay log = check-steps-is P boxes log ∙ rw passes refl

  left-by-run : (cells : List Step) → LeftBy (run (unpacked P) boxes (length cells)) (left_steps (filter_steps_packed P boxes cells))
  unfolding left_steps on_option logged_steps written
  left-by-run cells =
      rw (filter-steps-is P boxes cells, passes)
      (record { answer = refl; boxes = refl; log = take-append_seam (run (unpacked P) boxes (length cells)).log _ })

  -- the whole claim, over the log checker and the filter of step records
  pub logs-hold : LogsHold (unpacked P) boxes (check_steps_packed P boxes) (λ cells. left_steps (filter_steps_packed P boxes cells))
  logs-hold = logs-hold-by (unpacked P) boxes _ _ (input-letters P boxes passes) steps-replay left-by-run

-- and of a plan of letters
module _ (P : Plan) (boxes : List ℕ) (passes : input_fault P boxes ≡ None) where
  lettered-replay : (log : List Step) → check_steps P boxes log ≡ replay P boxes log
  unfolding check_steps on_option
  lettered-replay log = rw passes refl

  lettered-left : (cells : List Step) → LeftBy (run P boxes (length cells)) (left_steps (filter_steps P boxes cells))
  unfolding left_steps filter_steps on_option logged_steps written
  lettered-left cells = rw passes (record { answer = refl; boxes = refl; log = take-append_seam (run P boxes (length cells)).log _ })

  pub lettered-logs-hold : LogsHold P boxes (check_steps P boxes) (λ cells. left_steps (filter_steps P boxes cells))
  lettered-logs-hold = logs-hold-by P boxes _ _ passes lettered-replay lettered-left

module _ (P : PackedPlan) (boxes : List ℕ) (log : List Step) where
  -- ---- the log checker

  check-steps-hold : CheckedHolds (unpacked P) boxes (packed_input_fault P boxes) log (check_answer (check_steps_packed P boxes log))
      (check_steps_packed P boxes log).boxes
  unfolding packed_input_fault
  check-steps-hold =
      rw (check-steps-is P boxes log)
      (unfold packed_input_fault in (tested-holds (unpacked P) boxes _ log (packed-sized P boxes) (λ f e. memory-fault _ P boxes f e)))

  same-steps : SameOverLetters P (check_steps_packed P boxes log) (λ Q. check_steps Q boxes log)
  unfolding check_steps_packed check_steps input_fault packed_of
  same-steps Q lettered is =
      ap (λ (p : PackedPlan). check_steps_packed p boxes log) is
      ∙ same-over Q lettered _ boxes _ (λ R. check_steps R boxes log) _ refl

  pub checks-steps : (answer : Answer Accepted) (left : List ℕ)
      → (answer ≡ check_answer (check_steps_packed P boxes log)) × (left ≡ (check_steps_packed P boxes log).boxes)
      → ((answer ≡ check_answer (check_steps_packed P boxes log)) × (left ≡ (check_steps_packed P boxes log).boxes))
      × CheckedHolds (unpacked P) boxes (packed_input_fault P boxes) log answer left
      × SameOverLetters P answer (λ Q. check_answer (check_steps Q boxes log))
      × SameOverLetters P left (λ Q. (check_steps Q boxes log).boxes)
  checks-steps answer left (a, l) = (
    (a, l),
    rw (a, l) check-steps-hold,
    λ Q lettered is. a ∙ ap check_answer (same-steps Q lettered is),
    λ Q lettered is. l ∙ ap (λ (e : LogEnd). e.boxes) (same-steps Q lettered is),
  )

  -- ---- the filter

  abbrev Holds : StepsEnd → Type 0
  Holds e = FilterHolds (unpacked P) boxes (check_steps_packed P boxes) (length log) e.answer e.boxes (λ n. take n e.log)

  filter-steps-hold : Holds (filter_steps_packed P boxes log)
  unfolding logged_steps written
  filter-steps-hold =
      subst Holds (sym (filter-steps-is P boxes log))
      (option-all Holds (packed_input_fault P boxes) _ _
      (λ e. run_holds (unpacked P) boxes _ (length log) _ (packed-sized P boxes e) (steps-replay P boxes e)
      (take-append_seam (run (unpacked P) boxes (length log)).log _))
      (λ f e. no-run-holds (unpacked P) boxes _ (length log) _ f))

  same-end : SameOverLetters P (filter_steps_packed P boxes log) (λ Q. filter_steps Q boxes log)
  unfolding filter_steps_packed filter_steps input_fault packed_of
  same-end Q lettered is =
      ap (λ (p : PackedPlan). filter_steps_packed p boxes log) is
      ∙ same-over Q lettered _ boxes _ (λ R. filter_steps R boxes log) _ refl

  pub leaves-steps : (e : StepsEnd) → e ≡ filter_steps_packed P boxes log
      → (e ≡ filter_steps_packed P boxes log) × Holds e × SameOverLetters P e (λ Q. filter_steps Q boxes log)
  leaves-steps e is = (is, rw is filter-steps-hold, λ Q lettered packed. is ∙ same-end Q lettered packed)
