-- The calendar rule as an entry point: its input is tested as a plan of one calendar and one task with H the calendar's length (01, "When a
-- task fits its calendar"); packed, with H given: 02, W-208.
use Rattle.std.specs.Prelude.{◌≡◌, true, List, [], ◌∷◌, ℕ, ◌<◌, eqb, length, Option}
use Rattle.units.specs.Choice.{◌or_else◌, on_option}
use Rattle.units.specs.Limits.{is_plan_length}
use Rattle.units.specs.declared.Bounds.{Bounds}
use Rattle.plan.specs.Plan.{Plan, plan}
use Rattle.plan.specs.HourKinds.{is_symbol}
use Rattle.plan.specs.Boxes.{box_cells}
use Rattle.plan.specs.declared.Fault.{Fault}
use Rattle.plan.specs.Refusals.{unless, Answer, refused, answer_unless}
use Rattle.plan.specs.Packed.{bytes_of, letters_of, is_packed}
use Rattle.plan.specs.Faults.{input_fault}
use Rattle.calendar.specs.declared.Witnessed.{Witnessed}
use Rattle.calendar.specs.Rule.{witnessed_rule}

-- one calendar, and one task with the work time p, of height 0 in a plan of one room of capacity 0 without pairs
unfoldable pub one_task : List ℕ → ℕ → Plan
one_task cal p = plan (length cal) (0 ∷ []) cal (0 ∷ []) (p ∷ []) (0 ∷ []) []

unfoldable pub calendar_rule : List ℕ → ℕ → Bounds → Answer (Option Witnessed)
calendar_rule cal p b = answer_unless (input_fault (one_task cal p) (box_cells b)) (witnessed_rule cal p b)

-- each letter of a calendar is r, c or o
abbrev pub AreLetters : List ℕ → Type 0
AreLetters cal = (t : ℕ) → t < length cal → is_symbol cal t ≡ true

-- Of a packed calendar, with H: 2, 3 and 21 of this one calendar, and then what the rule answers of its letters (02, W-208).
unfoldable pub one_calendar_fault : ℕ → List ℕ → Option Fault
one_calendar_fault h bytes =
    unless (is_plan_length h) 2 0
    or_else unless (eqb (length bytes) (bytes_of h)) 3 0
    or_else unless (is_packed h bytes) 21 0

unfoldable pub packed_rule : ℕ → List ℕ → ℕ → Bounds → Answer (Option Witnessed)
packed_rule h bytes p b = on_option (one_calendar_fault h bytes) (calendar_rule (letters_of h bytes) p b) refused
