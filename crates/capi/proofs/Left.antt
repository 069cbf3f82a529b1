-- What an entry point leaves, with its answer as numbers.
use mathlib.Core.Path.{◌≡◌, refl, ap, ◌∙◌}
use mathlib.Core.List.{List}
use Prim.Native.Nat.{ℕ}
use Rattle.plan.specs.Refusals.{Answer}
use Rattle.steps.specs.Log.{LogEnd}
use Rattle.steps.specs.declared.Accepted.{Accepted}
use Rattle.steps.specs.Entry.{check_answer, FilterAnswer, FilterEnd, filter_end}
use Rattle.plan_format.specs.Reading.{PlanRead, ReadEnd, end_with}
use Rattle.plan_format.specs.Writing.{WriteEnd, write_end}
use Rattle.answers.specs.Numbers.{log_numbers, filter_numbers, read_numbers, write_numbers}

module _ {numbers boxes : List ℕ} where
  pub left-log : (e : LogEnd) {a : Answer Accepted} → numbers ≡ log_numbers a → (a ≡ check_answer e) × (boxes ≡ e.boxes)
      → (numbers ≡ log_numbers (check_answer e)) × (boxes ≡ e.boxes)
  left-log e n (a, b) = (n ∙ ap log_numbers a, b)

  pub left-run : {e : FilterEnd} {a : FilterAnswer} {kinds tasks hours : List ℕ} → numbers ≡ filter_numbers a
      → filter_end a boxes kinds tasks hours ≡ e
      → (numbers ≡ filter_numbers e.answer) × (filter_end e.answer boxes kinds tasks hours ≡ e)
  left-run n is = rw (← is) (n, refl)

  pub left-plan : {e : ReadEnd} {a : Answer PlanRead} {capacities calendars task_calendars work_times heights pairs : List ℕ} → numbers ≡ read_numbers a
      → end_with a capacities calendars task_calendars work_times heights pairs boxes ≡ e
      → (numbers ≡ read_numbers e.answer) × (end_with e.answer capacities calendars task_calendars work_times heights pairs boxes ≡ e)
  left-plan n is = rw (← is) (n, refl)

pub left-text : {e : WriteEnd} {a : Answer ℕ} {numbers out : List ℕ} → numbers ≡ write_numbers a → write_end a out ≡ e
    → (numbers ≡ write_numbers e.answer) × (out ≡ e.out)
left-text n is = rw (← is) (n, refl)
