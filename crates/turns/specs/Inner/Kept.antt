-- What the filter and the log checker keep beside the boxes, and what they work out from it. Only contracts of private functions
-- and those between the crates cite this; 01 has no such terms.
use Rattle.std.specs.Prelude.{Bool, true, false, List, ◌≡◌, ℕ, ◌+◌, ◌-◌, ◌<◌, leb, ltb, length, get_or, if◌then◌else◌}
use Rattle.std.specs.Prelude.{Option, None, Some}
use Rattle.units.specs.Choice.{◌and◌, some_of}
use Rattle.units.specs.Limits.{most_tasks, with_earliest, with_latest}
use Rattle.units.specs.Sums.{sum_where}
use Rattle.units.specs.declared.Bounds.{Bounds}
use Rattle.units.specs.declared.Pair.{Pair}
use Rattle.plan.specs.Plan.{Plan, room_count, task_count, capacity_of, heights_of, height_of, pair_of}
use Rattle.plan.specs.Boxes.{bounds_at, with_bounds}
use Rattle.plan.specs.Passed.{Passed}
use Rattle.calendar.specs.declared.Window.{Window}
use Rattle.calendar.specs.Rule.{lst, ect}
use Rattle.steps.specs.declared.Step.{Step}
use Rattle.steps.specs.declared.Judged.{Judged}
use Rattle.steps.specs.declared.Judged.TheVariants.{Unknown, NotAdmitted, Impossible, Moved}
use Rattle.steps.specs.Load.{fit_at, must_run}
use Rattle.steps.specs.Steps as steps
use Rattle.steps.specs.Steps.{Kind, kind_c, kind_o, kind_l, kind_u, kind_f, kind_b, unknown_kind, kind_of, is_step, on_fit, same_bounds, Judgement}
use Rattle.steps.specs.Filter.{Admitted, stops, moves}
use Rattle.turns.specs.declared.side.Side.{Side}
use Rattle.turns.specs.declared.side.Side.TheVariants.{Lower, Upper}
use Rattle.turns.specs.declared.turn.Turn.{Turn}

-- At each turn: a plan that passes its tests with the boxes as they are, and for each task the answer of the calendar rule for its box.
pub record Keeping (P : Plan) (boxes : List ℕ) (fits : List (Option Window)) : Type 0 where
  pub passed : Passed P boxes
  pub kept : (i : ℕ) → i < task_count P → get_or fits i None ≡ fit_at P.shifts boxes i
  pub full : length fits ≡ most_tasks

-- load(t) of a room, from the answers kept and the room's heights
unfoldable pub load_of : List (Option Window) → List ℕ → ℕ → ℕ
load_of fits heights t = sum_where (λ j. must_run (get_or fits j None) t) (λ j. get_or heights j 0) (length heights)

-- the excess in a room, from its load(t): the task's own share of the load is not counted again
unfoldable pub exceeds : Window → ℕ → ℕ → ℕ → ℕ → Bool
exceeds w height load capacity t = ltb capacity (if must_run (Some w) t then load else height + load)

unfoldable pub on_judged : {A : Type 0} → Judged → A → A → A → (ℕ → Bounds → A) → A
on_judged Unknown u n i m = u
on_judged NotAdmitted u n i m = n
on_judged Impossible u n i m = i
on_judged (Moved task b) u n i m = m task b

-- C, L and U of task i with the bounds b; where a bound moves, the task and its new bounds
unfoldable pub calendar_by : Option Window → ℕ → Bounds → Judged
calendar_by fit i b = on_fit fit Impossible (λ w. if same_bounds w.bounds b then NotAdmitted else Moved i w.bounds)

unfoldable pub lower_by : Window → ℕ → Bounds → Bool → ℕ → Judged
lower_by w i b excess t =
    if ltb t (ect w) and leb b.earliest.0 t and excess
    then (if leb b.latest.0 t then Impossible else Moved i (with_earliest b (t + 1)))
    else NotAdmitted

unfoldable pub upper_by : Window → ℕ → Bounds → Bool → ℕ → Judged
upper_by w i b excess t =
    if leb (lst w) t and ltb t (b.latest.0 + b.shortest.0) and excess
    then (if ltb t (b.earliest.0 + b.shortest.0) then Impossible else Moved i (with_latest b (t - b.shortest.0)))
    else NotAdmitted

-- F of a pair, of which the earlier task has the window w and the later one is task i with the bounds b; B of a pair, of which the later task has the
-- window v and the earlier one is task i with the bounds b
unfoldable pub forward_by : Window → ℕ → Bounds → Judged
forward_by w i b =
    if ltb b.earliest.0 (ect w) then (if ltb b.latest.0 (ect w) then Impossible else Moved i (with_earliest b (ect w))) else NotAdmitted

unfoldable pub backward_by : Window → ℕ → Bounds → Judged
backward_by v i b =
    if ltb (lst v) (b.latest.0 + b.shortest.0)
    then (if ltb (lst v) (b.earliest.0 + b.shortest.0) then Impossible else Moved i (with_latest b (lst v - b.shortest.0)))
    else NotAdmitted

-- of the code's two bounds of S, whether it is the lower
abbrev pub is_lower : Side → Bool
is_lower Lower = true
is_lower Upper = false

-- L where the lower bound of S is to move, U where the upper is
unfoldable pub move_by : Bool → Window → ℕ → Bounds → Bool → ℕ → Judged
move_by true w i b excess t = lower_by w i b excess t
move_by false w i b excess t = upper_by w i b excess t

-- the excess of task i, in a room; in some room
module _ (P : Plan) (fits : List (Option Window)) (w : Window) (i t : ℕ) where
  unfoldable pub excess_in : ℕ → Bool
  excess_in room = exceeds w (height_of P room i) (load_of fits (heights_of P room) t) (capacity_of P room) t

  unfoldable pub excess_by : Bool
  excess_by = some_of excess_in (room_count P)

-- a step, from the plan, the boxes and the answers kept
module _ (P : Plan) (boxes : List ℕ) (fits : List (Option Window)) where
  unfoldable pub bound_by : Bool → ℕ → ℕ → Judged
  bound_by lower i t =
      on_fit (get_or fits i None) NotAdmitted
      (λ w. move_by lower w i (bounds_at boxes i) (excess_by P fits w i t) t)

  -- F where the lower bound of S is to move, B where the upper is
  unfoldable pub pair_by : Bool → Pair → Judged
  pair_by true x =
      on_fit (get_or fits x.earlier None) NotAdmitted
      (λ w. on_fit (get_or fits x.later None) NotAdmitted (λ v. forward_by w x.later (bounds_at boxes x.later)))
  pair_by false x =
      on_fit (get_or fits x.earlier None) NotAdmitted
      (λ w. on_fit (get_or fits x.later None) NotAdmitted (λ v. backward_by v x.earlier (bounds_at boxes x.earlier)))

  unfoldable pub judge_kind_by : Kind → ℕ → ℕ → Judged
  judge_kind_by kind_c i t = calendar_by (get_or fits i None) i (bounds_at boxes i)
  judge_kind_by kind_o room t = if ltb (capacity_of P room) (load_of fits (heights_of P room) t) then Impossible else NotAdmitted
  judge_kind_by kind_l i t = bound_by true i t
  judge_kind_by kind_u i t = bound_by false i t
  judge_kind_by kind_f k t = pair_by true (pair_of P k)
  judge_kind_by kind_b k t = pair_by false (pair_of P k)
  judge_kind_by unknown_kind i t = Unknown

  unfoldable pub judge_by : Step → Judged
  judge_by x =
      if is_step P (kind_of x.kind) x.task x.hour
      then judge_kind_by (kind_of x.kind) x.task x.hour
      else Unknown

  -- the step, if it is admitted
  unfoldable pub admitted_by : Step → Option Step
  admitted_by x = on_judged (judge_by x) None None (Some x) (λ i b. Some x)

-- what the code answers for a step and for a turn: an admitted step that moves no bound says impossible
unfoldable pub judgement_of : List ℕ → Judged → Judgement
judgement_of boxes r = on_judged r steps.unknown steps.not_admitted steps.impossible (λ i b. steps.moved (with_bounds boxes i b))

unfoldable pub admitted_of : List ℕ → Step → Judged → Admitted
admitted_of boxes x r = on_judged r (stops x) (stops x) (stops x) (λ i b. moves x (with_bounds boxes i b))

abbrev pub turn : Step → Judged → Turn
turn x r = record { step = x; judged = r }

abbrev pub turn_of : List ℕ → Option Turn → Option Admitted
turn_of boxes None = None
turn_of boxes (Some t) = Some (admitted_of boxes t.step t.judged)
