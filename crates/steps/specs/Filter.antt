-- The filter (01, "Steps"; rooms: 02, W-202; pairs: W-206; O before C: W-207): the first admitted step of each turn, until none is admitted, one says
-- impossible, or the log has no room.
use Rattle.std.specs.Prelude.{Option, None, Some}
use Rattle.std.specs.Prelude.{List, [], ◌∷◌, ℕ, zero, suc, length}
use Rattle.units.specs.Choice.{on_option, ◌or_else◌, first_of}
use Rattle.plan.specs.Plan.{Plan, room_count, task_count, pair_count}
use Rattle.steps.specs.declared.Step.{Step}
use Rattle.steps.specs.Steps.{step, letter_c, letter_o, letter_l, letter_u, letter_f, letter_b, Kind, kind_c, kind_o, kind_l, kind_u, kind_f, kind_b}
use Rattle.steps.specs.Steps.{unknown_kind, Judgement, judge, on_judgement}

-- An admitted step: one that says impossible, or one that moves a bound, with the boxes that it leaves.
pub data Admitted : Type 0 where
  stops : Step → Admitted
  moves : Step → List ℕ → Admitted

abbrev pub step_of : Admitted → Step
step_of (stops x) = x
step_of (moves x left) = x

unfoldable pub on_admitted : {A : Type 0} → Admitted → (Step → A) → (Step → List ℕ → A) → A
on_admitted (stops x) f g = f x
on_admitted (moves x left) f g = g x left

-- the step, if it is admitted, for any judgement of a step at its turn; in a plan
abbrev pub if_admitted_by : (List ℕ → Step → Judgement) → List ℕ → Step → Option Admitted
if_admitted_by judge_at boxes x = on_judgement (judge_at boxes x) None None (Some (stops x)) (λ left. Some (moves x left))

unfoldable pub if_admitted : Plan → List ℕ → Step → Option Admitted
if_admitted P boxes x = if_admitted_by (judge P) boxes x

-- the first that f finds among the steps of a kind: C by task; O by room, then hour; L by task, then hour; U by task, then hour; F by pair; B by
-- pair
module _ {A : Type 0} (P : Plan) (f : Step → Option A) where
  unfoldable pub first_of_kind : Kind → Option A
  first_of_kind kind_c = first_of (λ i. f (step letter_c i 0)) (task_count P)
  first_of_kind kind_o = first_of (λ room. first_of (λ t. f (step letter_o room t)) P.shifts.hours) (room_count P)
  first_of_kind kind_l = first_of (λ i. first_of (λ t. f (step letter_l i t)) P.shifts.hours) (task_count P)
  first_of_kind kind_u = first_of (λ i. first_of (λ t. f (step letter_u i t)) P.shifts.hours) (task_count P)
  first_of_kind kind_f = first_of (λ k. f (step letter_f k 0)) (pair_count P)
  first_of_kind kind_b = first_of (λ k. f (step letter_b k 0)) (pair_count P)
  first_of_kind unknown_kind = None

  -- and in an order of kinds
  unfoldable pub first_by : List Kind → Option A
  first_by [] = None
  first_by (k ∷ ks) = first_of_kind k or_else first_by ks

-- the filter's order
unfoldable pub filter_order : List Kind
filter_order = kind_o ∷ kind_c ∷ kind_l ∷ kind_u ∷ kind_f ∷ kind_b ∷ []

-- the first admitted step, in an order of kinds; in the filter's
unfoldable pub next_by : List Kind → Plan → List ℕ → Option Admitted
next_by order P boxes = first_by P (if_admitted P boxes) order

abbrev pub next : Plan → List ℕ → Option Admitted
next = next_by filter_order

-- How a run ends: no step is admitted; the last step said impossible; a step is admitted and the log has no room for it (32).
pub data Ending : Type 0 where
  settled impossible no_room : Ending

-- A run: its ending, the steps taken, and the boxes left. The count is the number of the steps.
pub record Run : Type 0 where
  pub ending : Ending
  pub log : List Step
  pub boxes : List ℕ

abbrev pub count : Run → ℕ
count r = length r.log

abbrev pub ended : Ending → List Step → List ℕ → Run
ended ending log boxes = record { ending = ending; log = log; boxes = boxes }

unfoldable pub after : Step → Run → Run
after x r = ended r.ending (x ∷ r.log) r.boxes

-- the run from the boxes with room for so many steps, for any choice of the step that stands next; the filter's
module _ (next_at : List ℕ → Option Admitted) where
  unfoldable pub run_by : List ℕ → ℕ → Run
  run_by boxes zero = ended (on_option (next_at boxes) settled (λ a. no_room)) [] boxes
  run_by boxes (suc room) =
      on_option (next_at boxes)
      (ended settled [] boxes)
      (λ a. on_admitted a (λ x. ended impossible (x ∷ []) boxes) (λ x left. after x (run_by left room)))

abbrev pub run : Plan → List ℕ → ℕ → Run
run P = run_by (next P)
