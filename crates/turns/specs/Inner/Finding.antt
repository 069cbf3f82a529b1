-- The words of the search for the first admitted step. Only contracts of private functions cite this; 01 has no such terms.
use Rattle.std.specs.Prelude.{Bool, true, false, ◌≡◌, List, ℕ, ◌+◌, ◌*◌, ◌<◌, leb, ltb, length, get_or, if◌then◌else◌}
use Rattle.std.specs.Prelude.{Option, None}
use Rattle.units.specs.Choice.{◌and◌, some_if, first_of}
use Rattle.units.specs.declared.Bounds.{Bounds}
use Rattle.plan.specs.Plan.{Plan, room_count, task_count, pair_count, capacity_of, room_part, pair_of}
use Rattle.plan.specs.Boxes.{bounds_at}
use Rattle.calendar.specs.declared.Window.{Window}
use Rattle.calendar.specs.Rule.{lst, ect}
use Rattle.steps.specs.declared.Step.{Step}
use Rattle.steps.specs.declared.Judged.{Judged}
use Rattle.steps.specs.Load.{must_run}
use Rattle.steps.specs.Steps.{step, letter_c, letter_o, letter_l, letter_u, letter_f, letter_b}
use Rattle.turns.specs.declared.load.Part.{Part}
use Rattle.turns.specs.Inner.Kept.{load_of, on_judged, calendar_by, pair_by, admitted_by}

-- a step so judged is admitted
unfoldable pub admits : Judged → Bool
admits j = on_judged j false false true (λ i b. true)

-- L moves the lower S, U the upper
unfoldable pub letter_of : Bool → ℕ
letter_of lower = if lower then letter_l else letter_u

-- of a pair's tasks, F moves the lower S of the later, B the upper S of the earlier
unfoldable pub pair_letter_of : Bool → ℕ
pair_letter_of lower = if lower then letter_f else letter_b

-- the hours from the first up to before the end are those in which the step can be admitted: lower S ≤ t < ect, or lst ≤ t < upper S + lower E
unfoldable pub first_hour : Bool → Window → Bounds → ℕ
first_hour lower w b = if lower then b.earliest.0 else lst w

unfoldable pub end_hour : Bool → Window → Bounds → ℕ
end_hour lower w b = if lower then ect w else b.latest.0 + b.shortest.0

-- what a task's compulsory part adds to the load of an hour
unfoldable pub part_at : Option Window → ℕ → ℕ → ℕ
part_at fit height t = if must_run fit t then height else 0

-- what a task of the height adds to the load of hour t, if these hours are its compulsory part
unfoldable pub share_in : Part → ℕ → ℕ → ℕ
share_in part height t = if leb part.from.0 t and ltb t part.end.0 then height else 0

-- the numbers are the loads of the hours, room by room
pub record Loaded (hours rooms tasks : ℕ) (loads : List ℕ) (fits : List (Option Window)) (heights : List ℕ) : Type 0 where
  pub each : length loads ≡ rooms * hours
  pub load : (room : ℕ) → room < rooms → (t : ℕ) → t < hours → get_or loads (room * hours + t) 0 ≡ load_of fits (room_part tasks heights room) t

-- the first C; the first O of a room, from its loads, and of any; the first L or U; the first F or B
unfoldable pub first_calendar : Plan → List ℕ → List (Option Window) → Option Step
first_calendar P boxes fits =
    first_of (λ i. some_if (admits (calendar_by (get_or fits i None) i (bounds_at boxes i))) (step letter_c i 0)) (task_count P)

unfoldable pub room_overload : ℕ → List ℕ → ℕ → Option Step
room_overload room loads capacity = first_of (λ t. some_if (ltb capacity (get_or loads t 0)) (step letter_o room t)) (length loads)

unfoldable pub first_overload : Plan → List ℕ → Option Step
first_overload P loads = first_of (λ room. room_overload room (room_part P.shifts.hours loads room) (capacity_of P room)) (room_count P)

unfoldable pub first_excess : Plan → List ℕ → List (Option Window) → Bool → Option Step
first_excess P boxes fits lower =
    first_of (λ i. first_of (λ t. admitted_by P boxes fits (step (letter_of lower) i t)) P.shifts.hours) (task_count P)

unfoldable pub first_pair : Plan → List ℕ → List (Option Window) → Bool → Option Step
first_pair P boxes fits lower =
    first_of (λ k. some_if (admits (pair_by P boxes fits lower (pair_of P k))) (step (pair_letter_of lower) k 0)) (pair_count P)
