-- A plan's text, section by section, after a plan line whose numbers the code made, and what is cited wherever one of its functions is proved.
-- Assumes nothing.
use mathlib.Core.Path.{◌≡◌}
use mathlib.Core.List.{List, ◌∷◌, ◌++◌}
use Prim.Native.Nat.{ℕ, ◌+◌, ◌*◌, ◌≤◌}
use native.Mathlib.Nat.{mul-le-mul}
use native.Mathlib.Omega.{arith}
use lib.ListN.{length}
use Rattle.units.specs.Limits.{most_hours, most_calendars}
use Rattle.text.specs.Words.{word_plan}
use Rattle.text.specs.Lines.{line_of}
use Rattle.text.specs.Putting.{Put}
use Rattle.text.proofs.Puts.{put_both}
use Rattle.plan.specs.Plan.{Plan, task_count, pair_count, calendar_count, first_symbol, calendar_at}
use Rattle.plan.specs.Passed.{Passed}
use Rattle.plan_format.specs.Writing.{cal_records, text_of_plan}
use Rattle.plan_format.proofs.Written.{numbers-count}
use Rattle.plan_format.proofs.Growing.{text-none, text-longer, cal-length, task-line, pair-line, plan-text, plan-length, calendars-length}
use Rattle.plan_writing.specs.Inner.Sections.{calendars_text, tasks_text, pairs_text}

module _ (P : Plan) (boxes : List ℕ) {numbers : List ℕ} (e : numbers ≡ P.shifts.hours ∷ P.capacities) where
  abbrev first : List ℕ
  first = line_of word_plan numbers

  abbrev calendars : List ℕ
  calendars = calendars_text P.shifts (calendar_count P.shifts)

  abbrev tasks : List ℕ
  tasks = tasks_text P boxes (task_count P)

  abbrev pairs : List ℕ
  pairs = pairs_text P (pair_count P)

  text_sections : text_of_plan P boxes ≡ first ++ calendars ++ tasks ++ pairs
  unfolding cal_records calendar_at
  text_sections = rw e (plan-text P boxes)

  pub sections_length : length (text_of_plan P boxes) ≡ length first + length calendars + length tasks + length pairs
  unfolding cal_records calendar_at
  sections_length = rw e (plan-length P boxes)

  pub put_sections : {i j m n : ℕ} {cells l1 l2 l3 l4 : List ℕ} → Put first 0 cells i l1 → Put calendars i l1 j l2 → Put tasks j l2 m l3
      → Put pairs m l3 n l4 → Put (text_of_plan P boxes) 0 cells n l4
  put_sections p q r s = rw text_sections (put_both (omega arith) (put_both (omega arith) (put_both (omega arith) p q) r) s)

-- the calendars' lines: H letters each, and so few calendars that the sum is a small one
module _ {P : Plan} {boxes : List ℕ} (p : Passed P boxes) where
  pub calendars-bytes : length (calendars_text P.shifts (calendar_count P.shifts))
      ≡ first_symbol P.shifts.hours (calendar_count P.shifts) + 5 * calendar_count P.shifts
  unfolding first_symbol cal_records calendar_at
  calendars-bytes = omega (arith, calendars-length P boxes p, p.whole)

  pub letters-few : first_symbol P.shifts.hours (calendar_count P.shifts) ≤ most_calendars * most_hours
  unfolding first_symbol
  letters-few = mul-le-mul p.calendars p.hours

pub ruleset calendars_counted = (calendars-bytes, letters-few)

-- for the loops that count the lines of the tasks and of the pairs, and for a calendar's line
pub ruleset tasks_counted = (text-none, text-longer, task-line, numbers-count)

pub ruleset pairs_counted = (text-none, text-longer, pair-line)

pub ruleset calendar_counted = (cal-length)
