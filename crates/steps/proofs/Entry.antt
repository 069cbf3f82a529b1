-- Laws of the entry points' own tests: what each outcome makes of the log checker's contract and of the filter's. Assumes nothing.
use mathlib.Core.Path.{◌≡◌, refl, sym, ap, ◌∙◌}
use mathlib.Core.Bool.{Bool, true, false}
use Rattle.std.specs.Prelude.{None, Some}
use mathlib.Core.List.{List}
use Prim.Native.Nat.{ℕ}
use native.Mathlib.Nat.{zero-add}
use lib.ListN.{length}
use borrow.Author.Tests.{eqb-true}
use Rattle.units.specs.Choice.{on_option}
use Rattle.units.proofs.Choices.{and_both, and_left, and_right, not_left, not_right, neither}
use Rattle.plan.specs.declared.Fault.{Fault}
use Rattle.plan.specs.Refusals.{fault, Answer, refused, answer_unless}
use Rattle.plan.specs.Faults.{is_right_size}
use Rattle.plan.specs.Over.{PackedPlan, unpacked, packed_plan_fault, memory_fault, packed_of}
use Rattle.plan.specs.Over.{SameOverLetters}
use Rattle.plan.proofs.Over.{same-over}
use Rattle.plan.proofs.Refusals.{unless-none, go_on, refuse}
use Rattle.plan.proofs.Over.{memory-passed}
use Rattle.steps.specs.Log.{LogEnd, replay_from, replay}
use Rattle.steps.specs.Filter.{count, run}
use Rattle.steps.specs.declared.Accepted.{Accepted}
use Rattle.steps.specs.Entry.{steps_from, steps_in, one_for_each_step, entry_fault, packed_entry_fault, check_log, check_log_packed, check_answer}
use Rattle.steps.specs.Entry.{check_records_packed}
use Rattle.steps.specs.Entry.{refused_by, FilterEnd, filter_end, logged, filter_plan, filter_packed}
use Rattle.steps.specs.Inner.From.{check_from, logged_from, filter_from}
use Rattle.steps.specs.Claim.{CheckedHolds, FilterHolds}
use Rattle.plan.specs.Passed.{Passed}
use Rattle.steps.proofs.Contracts.{check-log-is, check-holds, filter-is, filter-holds}

pub one_each : (kinds tasks hours : List ℕ) → one_for_each_step kinds tasks hours ≡ true
    → (length tasks ≡ length kinds) × (length hours ≡ length kinds)
unfolding one_for_each_step
one_each kinds tasks hours e = (eqb-true _ _ (and_left _ _ e), eqb-true _ _ (and_right _ _ e))

module _ (P : PackedPlan) (boxes kinds tasks hours : List ℕ) where
  abbrev Tasks : Bool
  Tasks = is_right_size (unpacked P) boxes

  abbrev Steps : Bool
  Steps = one_for_each_step kinds tasks hours

  pub other-tasks : Tasks ≡ false → packed_entry_fault P boxes kinds tasks hours ≡ Some (fault 31 0)
  unfolding packed_entry_fault memory_fault
  other-tasks e = refuse _ 31 0 _ (not_left _ _ e)

  pub other-steps : Steps ≡ false → packed_entry_fault P boxes kinds tasks hours ≡ Some (fault 31 0)
  unfolding packed_entry_fault memory_fault
  other-steps e = refuse _ 31 0 _ (not_right _ _ e)

  pub right-size : Tasks ≡ true → Steps ≡ true → packed_entry_fault P boxes kinds tasks hours ≡ packed_plan_fault P boxes
  unfolding packed_entry_fault memory_fault
  right-size a b = go_on _ 31 0 _ (and_both _ _ a b)

  -- what passes
  pub passes : packed_entry_fault P boxes kinds tasks hours ≡ None → Passed (unpacked P) boxes × (Steps ≡ true)
  unfolding packed_entry_fault memory_fault
  passes e =
      let faults = neither _ _ e in
      let sizes = unless-none _ 31 0 faults.0 in
      (memory-passed _ P boxes (and_left _ _ sizes) e, and_right _ _ sizes)

  -- the log checker from a step on, and what its answer is once its own tests are through
  abbrev pub ChecksFrom : ℕ → Bool → Answer Accepted → List ℕ → Type 0
  ChecksFrom k said answer left =
      (answer ≡ check_answer (check_from P boxes kinds tasks hours k said)) × (left ≡ (check_from P boxes kinds tasks hours k said).boxes)

  pub from-refuses : (k : ℕ) (said : Bool) (f : Fault) → packed_entry_fault P boxes kinds tasks hours ≡ Some f → ChecksFrom k said (refused f) boxes
  unfolding check_from check_answer answer_unless on_option
  from-refuses k said f e = (rw e, rw e)

  pub from-replays : (k : ℕ) (said : Bool) → packed_entry_fault P boxes kinds tasks hours ≡ None → (answer : Answer Accepted) (left : List ℕ)
      → (answer ≡ check_answer (replay_from (unpacked P) k said boxes (steps_in kinds tasks hours)))
      × (left ≡ (replay_from (unpacked P) k said boxes (steps_in kinds tasks hours)).boxes)
      → ChecksFrom k said answer left
  unfolding check_from on_option
  from-replays k said e answer left (a, l) = (rw e a, rw e l)

  -- the log checker's contract: from the log's first step
  from-first : check_from P boxes kinds tasks hours 0 false ≡ check_log_packed P boxes kinds tasks hours
  unfolding check_from replay
  from-first = sym (check-log-is P boxes kinds tasks hours)

  same-log : SameOverLetters P (check_log_packed P boxes kinds tasks hours) (λ Q. check_log Q boxes kinds tasks hours)
  unfolding check_log_packed check_log entry_fault packed_of
  same-log Q lettered is =
      ap (λ (p : PackedPlan). check_log_packed p boxes kinds tasks hours) is
      ∙ same-over Q lettered _ boxes _ (λ R. check_log R boxes kinds tasks hours) _ refl

  pub check-holds-of : (answer : Answer Accepted) (left : List ℕ) → ChecksFrom 0 false answer left
      → ((answer ≡ check_answer (check_log_packed P boxes kinds tasks hours)) × (left ≡ (check_log_packed P boxes kinds tasks hours).boxes))
      × CheckedHolds (unpacked P) boxes (packed_entry_fault P boxes kinds tasks hours) (steps_in kinds tasks hours) answer left
      × SameOverLetters P answer (λ Q. check_answer (check_log Q boxes kinds tasks hours))
      × SameOverLetters P left (λ Q. (check_log Q boxes kinds tasks hours).boxes)
  check-holds-of answer left (a, l) =
      let said = a ∙ ap check_answer from-first in
      let leaves = l ∙ ap (λ (e : LogEnd). e.boxes) from-first in (
        (said, leaves),
        rw (said, leaves) (check-holds P boxes kinds tasks hours),
        λ Q lettered packed. said ∙ ap check_answer (same-log Q lettered packed),
        λ Q lettered packed. leaves ∙ ap (λ (l : LogEnd). l.boxes) (same-log Q lettered packed),
      )

  -- the filter from a count on
  abbrev pub FiltersFrom : ℕ → FilterEnd → Type 0
  FiltersFrom taken e = e ≡ filter_from P boxes kinds tasks hours taken

  pub filter-refuses : (taken : ℕ) (f : Fault) → packed_entry_fault P boxes kinds tasks hours ≡ Some f
      → FiltersFrom taken (filter_end (refused_by f) boxes kinds tasks hours)
  unfolding filter_from on_option
  filter-refuses taken f e = rw e

  pub filter_runs : (taken : ℕ) → packed_entry_fault P boxes kinds tasks hours ≡ None → (end : FilterEnd)
      → end ≡ logged_from taken (run (unpacked P) boxes (length kinds)) kinds tasks hours → FiltersFrom taken end
  unfolding filter_from on_option
  filter_runs taken e end l = rw e l

  -- the filter's contract: after no step
  from-none : filter_from P boxes kinds tasks hours 0 ≡ filter_packed P boxes kinds tasks hours
  unfolding filter_from logged_from logged
  from-none = rw (zero-add (count (run (unpacked P) boxes (length kinds)))) (sym (filter-is P boxes kinds tasks hours))

  same-filter : SameOverLetters P (filter_packed P boxes kinds tasks hours) (λ Q. filter_plan Q boxes kinds tasks hours)
  unfolding filter_packed filter_plan entry_fault packed_of
  same-filter Q lettered is =
      ap (λ (p : PackedPlan). filter_packed p boxes kinds tasks hours) is
      ∙ same-over Q lettered _ boxes _ (λ R. filter_plan R boxes kinds tasks hours) _ refl

  pub filter-holds-of : (end : FilterEnd) → FiltersFrom 0 end
      → (end ≡ filter_packed P boxes kinds tasks hours)
      × FilterHolds (unpacked P) boxes (check_records_packed P boxes) (length kinds) end.answer end.boxes (steps_from end.kinds end.tasks end.hours 0)
      × SameOverLetters P end (λ Q. filter_plan Q boxes kinds tasks hours)
  filter-holds-of end e =
      let is = e ∙ from-none in
      (is, rw is (filter-holds P boxes kinds tasks hours), λ Q lettered packed. is ∙ same-filter Q lettered packed)
