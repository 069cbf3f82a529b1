-- Plan text as 01 and 02 up to W-207 speak of it: a text of at most 32,768 bytes, a plan of at most 1,008 hours, its calendars left as letters and
-- memory unchanged by a refusal. That what was accepted then is accepted as the same plan, and what an older reader answers to a text that is accepted
-- now, is proved. What did not change is cited: a line's record, the plan that a text holds, and its tests.
use Rattle.std.specs.Prelude.{Bool, true, List, [], ◌∷◌, ◌≡◌, ◌⊎◌, map, ℕ, ◌+◌, ◌*◌, ◌<◌, leb, eqb, length, take, if◌then◌else◌}
use Rattle.std.specs.Prelude.{Option, None, Some}
use Rattle.units.specs.Cells.{written}
use Rattle.units.specs.Choice.{◌and◌, on_option, ◌or_else◌}
use Rattle.units.specs.Limits.{most_calendars, most_rooms, most_tasks, within}
use Rattle.units.specs.Lists.{joined}
use Rattle.plan.specs.Packed.{letters, packed}
use Rattle.plan.specs.Plan.{pair_count}
use Rattle.plan.specs.declared.Fault.{Fault}
use Rattle.plan.specs.Refusals.{fault, unless, Answer, refused, answered, on_answer}
use Rattle.text.specs.Fields.{lf, parts}
use Rattle.plan_format.specs.Text as lines-text
use Rattle.plan_format.specs.Text.{plan_section, Read, nothing, with_line}
use Rattle.plan_format.specs.Reading as lines-reading
use Rattle.plan_format.specs.Reading.{plan_in, boxes_in, most_heights, most_paired, most_bounds, ReadEnd, end_with, unread}

-- ---- a text

-- the most bytes of a text
abbrev pub most_bytes : ℕ
most_bytes = 32768

-- a text that is too long breaks the rules at the line that holds byte 32,769
unfoldable pub read_lines : Bool → ℕ → Read → List (List ℕ) → Answer Read
read_lines whole k r [] = refused (fault 1 k)
read_lines whole k r (line ∷ []) = if whole and leb plan_section r.reached and eqb (length line) 0 then answered r else refused (fault 1 k)
read_lines whole k r (line ∷ (next ∷ lines)) =
    on_option (with_line r line) (refused (fault 1 k)) (λ more. read_lines whole (k + 1) more (next ∷ lines))

unfoldable pub read_text : List ℕ → Answer Read
read_text text = read_lines (leb (length text) most_bytes) 1 nothing (parts lf (take most_bytes text))

-- ---- a plan

-- the most hours
abbrev pub most_hours : ℕ
most_hours = 1008

-- the refusals after 1 and 31: as now, but for 2
unfoldable pub read_fault : Read → Option Fault
read_fault r = unless (within 1 most_hours r.hours) 2 0 or_else lines-reading.read_fault true r

-- ---- lent memory

-- a cell for each letter
unfoldable pub is_enough : List ℕ → List ℕ → List ℕ → List ℕ → List ℕ → List ℕ → List ℕ → Bool
is_enough capacities calendars task_calendars work_times heights pairs boxes =
    leb most_rooms (length capacities)
    and leb (most_calendars * most_hours) (length calendars)
    and leb most_tasks (length task_calendars)
    and leb most_tasks (length work_times)
    and leb most_heights (length heights)
    and leb most_paired (length pairs)
    and leb most_bounds (length boxes)

module _ (capacities calendars task_calendars work_times heights pairs boxes : List ℕ) where
  -- a plan, with these cells for its calendars
  unfoldable pub stored_with : List ℕ → Read → ReadEnd
  stored_with cells r =
      end_with
      (answered
      (record {
        hours = r.hours;
        rooms = length r.capacities;
        calendars = length r.calendars;
        tasks = length r.tasks;
        pairs = pair_count (plan_in r);
      }))
      (written (plan_in r).capacities capacities)
      (written cells calendars)
      (written (plan_in r).shifts.task_calendars task_calendars)
      (written (plan_in r).shifts.work_times work_times)
      (written (plan_in r).heights heights)
      (written (plan_in r).pairs pairs)
      (written (boxes_in r) boxes)

  -- the letters, joined; a refusal changes no lent memory
  unfoldable pub read_plan : List ℕ → ReadEnd
  read_plan text =
      let refuse : Fault → ReadEnd = unread capacities calendars task_calendars work_times heights pairs boxes in
      on_answer (read_text text) refuse
      (λ r.
      on_option
      (unless (is_enough capacities calendars task_calendars work_times heights pairs boxes) 31 0 or_else read_fault r)
      (stored_with (joined r.calendars) r)
      refuse)

-- ---- as before

-- A text that was accepted is accepted as the same plan. One that is accepted now was accepted as the same plan, or is longer than 32,768 bytes and
-- was malformed, or its plan is of more than 1,008 hours and was refused by 2. In memory that is enough now, reading a text that was accepted leaves
-- what it left, but for the calendars: where their letters lay, their bytes lie, which have those letters.
pub record AsBefore : Type 0 where
  pub accepted : (text : List ℕ) (r : Read) → read_text text ≡ answered r → read_fault r ≡ None
      → (lines-text.read_text text ≡ answered r) × (lines-reading.read_fault true r ≡ None)
  pub older : (text : List ℕ) (r : Read) → lines-text.read_text text ≡ answered r → lines-reading.read_fault true r ≡ None
      → ((read_text text ≡ answered r) × (read_fault r ≡ None))
      ⊎ (((most_bytes < length text) × ((k : ℕ) × (read_text text ≡ refused (fault 1 k))))
      ⊎ ((read_text text ≡ answered r) × (read_fault r ≡ Some (fault 2 0)) × (most_hours < r.hours)))
  pub left : (rs cs ts ws hs ps bs text : List ℕ) (r : Read) → lines-reading.is_enough rs cs ts ws hs ps bs ≡ true
      → read_text text ≡ answered r → read_fault r ≡ None
      → (read_plan rs cs ts ws hs ps bs text ≡ stored_with rs cs ts ws hs ps bs (joined r.calendars) r)
      × (lines-reading.read_plan rs cs ts ws hs ps bs text ≡ stored_with rs cs ts ws hs ps bs (joined (map packed r.calendars)) r)
  pub letters : (r : Read) → lines-reading.read_fault true r ≡ None → letters r.hours (joined (map packed r.calendars)) ≡ joined r.calendars
