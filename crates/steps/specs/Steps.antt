-- Steps, each with its admission and its effect (01, "Steps"; rooms: 02, W-202; F and B: W-206).
use Rattle.std.specs.Prelude.{Option, None, Some}
use Rattle.std.specs.Prelude.{Bool, false, List, ℕ, ◌+◌, ◌-◌, leb, ltb, eqb, if◌then◌else◌}
use Rattle.units.specs.Choice.{◌and◌}
use Rattle.units.specs.Limits.{is_hour, is_room_number, with_earliest, with_latest}
use Rattle.units.specs.declared.Bounds.{Bounds}
use Rattle.units.specs.declared.Pair.{Pair}
use Rattle.plan.specs.Plan.{Plan, room_count, task_count, pair_count, capacity_of, pair_of}
use Rattle.plan.specs.Boxes.{bounds_at, with_bounds}
use Rattle.calendar.specs.declared.Window.{Window}
use Rattle.calendar.specs.Rule.{lst, ect}
use Rattle.steps.specs.declared.Step.{Step}
use Rattle.steps.specs.declared.StepKind.{StepKind}
use Rattle.steps.specs.declared.StepKind.TheVariants.{Calendar, Overload, Lower, Upper, Forward, Backward}
use Rattle.steps.specs.Load.{fit_at, load, excess}

abbrev pub step : ℕ → ℕ → ℕ → Step
step kind task hour = record { kind = kind; task = task; hour = hour }

-- The kinds, each a letter as one byte: C, O, L, U, F, B.
abbrev pub letter_c : ℕ
letter_c = 67

abbrev pub letter_o : ℕ
letter_o = 79

abbrev pub letter_l : ℕ
letter_l = 76

abbrev pub letter_u : ℕ
letter_u = 85

abbrev pub letter_f : ℕ
letter_f = 70

abbrev pub letter_b : ℕ
letter_b = 66

pub data Kind : Type 0 where
  kind_c kind_o kind_l kind_u kind_f kind_b unknown_kind : Kind

unfoldable pub kind_of : ℕ → Kind
kind_of letter =
    if eqb letter letter_c then kind_c
    else (if eqb letter letter_o then kind_o
    else (if eqb letter letter_l then kind_l
    else (if eqb letter letter_u then kind_u
    else (if eqb letter letter_f then kind_f
    else (if eqb letter letter_b then kind_b
    else unknown_kind)))))

-- of the code's kinds
abbrev pub kind_in : Option StepKind → Kind
kind_in (Some Calendar) = kind_c
kind_in (Some Overload) = kind_o
kind_in (Some Lower) = kind_l
kind_in (Some Upper) = kind_u
kind_in (Some Forward) = kind_f
kind_in (Some Backward) = kind_b
kind_in None = unknown_kind

abbrev pub letter_of : StepKind → ℕ
letter_of Calendar = letter_c
letter_of Overload = letter_o
letter_of Lower = letter_l
letter_of Upper = letter_u
letter_of Forward = letter_f
letter_of Backward = letter_b

-- 11 does not apply: a known kind, of a task and an hour that exist, and a field that its kind doesn't use is 0; the task field of O is a room
-- that exists, that of F and of B a pair
unfoldable pub is_step : Plan → Kind → ℕ → ℕ → Bool
is_step P kind_c i t = ltb i (task_count P) and eqb t 0
is_step P kind_o room t = is_room_number (room_count P) room and is_hour P.shifts.hours t
is_step P kind_l i t = ltb i (task_count P) and is_hour P.shifts.hours t
is_step P kind_u i t = ltb i (task_count P) and is_hour P.shifts.hours t
is_step P kind_f k t = ltb k (pair_count P) and eqb t 0
is_step P kind_b k t = ltb k (pair_count P) and eqb t 0
is_step P unknown_kind i t = false

-- What a step comes to at its turn: 11 names it, it is not admitted, it says impossible, or it moves a bound, with the boxes that it leaves.
pub data Judgement : Type 0 where
  unknown not_admitted impossible : Judgement
  moved : List ℕ → Judgement

unfoldable pub on_judgement : {A : Type 0} → Judgement → A → A → A → (List ℕ → A) → A
on_judgement unknown u n i m = u
on_judgement not_admitted u n i m = n
on_judgement impossible u n i m = i
on_judgement (moved boxes) u n i m = m boxes

-- the case of a task with no valid triple, and that of one with the window
unfoldable pub on_fit : {A : Type 0} → Option Window → A → (Window → A) → A
on_fit None a f = a
on_fit (Some w) a f = f w

unfoldable pub same_bounds : Bounds → Bounds → Bool
same_bounds a b =
    eqb a.earliest.0 b.earliest.0
    and eqb a.latest.0 b.latest.0
    and eqb a.shortest.0 b.shortest.0
    and eqb a.longest.0 b.longest.0
    and eqb a.fewest.0 b.fewest.0
    and eqb a.most.0 b.most.0

-- C task: the six bounds become the least and greatest s, e and o over the valid triples in the box. Admitted if a bound changes, or if there
-- is no valid triple, which is impossible
unfoldable pub judge_c : Plan → List ℕ → ℕ → Judgement
judge_c P boxes i =
    on_fit (fit_at P.shifts boxes i) impossible
    (λ w. if same_bounds w.bounds (bounds_at boxes i) then not_admitted else moved (with_bounds boxes i w.bounds))

-- O room, hour t: the room's load(t) exceeds its capacity. Impossible
unfoldable pub judge_o : Plan → List ℕ → ℕ → ℕ → Judgement
judge_o P boxes room t = if ltb (capacity_of P room) (load P room boxes t) then impossible else not_admitted

-- L task, hour t: the task has a valid triple, ect > t, lower S ≤ t, and the excess. Lower S becomes t + 1; if t ≥ upper S, impossible
unfoldable pub judge_l : Plan → List ℕ → ℕ → ℕ → Judgement
judge_l P boxes i t =
    on_fit (fit_at P.shifts boxes i) not_admitted
    (λ w. if ltb t (ect w) and leb (bounds_at boxes i).earliest.0 t and excess P boxes i t
    then (if leb (bounds_at boxes i).latest.0 t
    then impossible
    else moved (with_bounds boxes i (with_earliest (bounds_at boxes i) (t + 1))))
    else not_admitted)

-- U task, hour t: the task has a valid triple, lst ≤ t, upper S > t minus lower E, and the excess. Upper S becomes t minus lower E; if that is
-- below lower S, impossible. The two tests stand as sums, since t minus lower E may be negative
unfoldable pub judge_u : Plan → List ℕ → ℕ → ℕ → Judgement
judge_u P boxes i t =
    on_fit (fit_at P.shifts boxes i) not_admitted
    (λ w. if leb (lst w) t and ltb t ((bounds_at boxes i).latest.0 + (bounds_at boxes i).shortest.0) and excess P boxes i t
    then (if ltb t ((bounds_at boxes i).earliest.0 + (bounds_at boxes i).shortest.0)
    then impossible
    else moved (with_bounds boxes i (with_latest (bounds_at boxes i) (t - (bounds_at boxes i).shortest.0))))
    else not_admitted)

-- of a pair, both tasks' windows; not admitted where one has no valid triple
unfoldable pub on_pair : Plan → List ℕ → Pair → (Window → Window → Judgement) → Judgement
on_pair P boxes x f =
    on_fit (fit_at P.shifts boxes x.earlier) not_admitted (λ w. on_fit (fit_at P.shifts boxes x.later) not_admitted (λ v. f w v))

-- F pair: both tasks have a valid triple, and the later's lower S is below the earlier's ect, which it becomes; if its upper S is below that,
-- impossible
unfoldable pub judge_f : Plan → List ℕ → Pair → Judgement
judge_f P boxes x =
    on_pair P boxes x
    (λ w v. if ltb (bounds_at boxes x.later).earliest.0 (ect w)
    then (if ltb (bounds_at boxes x.later).latest.0 (ect w)
    then impossible
    else moved (with_bounds boxes x.later (with_earliest (bounds_at boxes x.later) (ect w))))
    else not_admitted)

-- B pair: both tasks have a valid triple, and the earlier's upper S is above the later's lst minus the earlier's lower E, which it becomes; if that
-- is below its lower S, impossible. The two tests stand as sums, as those of U
unfoldable pub judge_b : Plan → List ℕ → Pair → Judgement
judge_b P boxes x =
    on_pair P boxes x
    (λ w v. if ltb (lst v) ((bounds_at boxes x.earlier).latest.0 + (bounds_at boxes x.earlier).shortest.0)
    then (if ltb (lst v) ((bounds_at boxes x.earlier).earliest.0 + (bounds_at boxes x.earlier).shortest.0)
    then impossible
    else moved
    (with_bounds boxes x.earlier (with_latest (bounds_at boxes x.earlier) (lst v - (bounds_at boxes x.earlier).shortest.0))))
    else not_admitted)

unfoldable pub judge_kind : Plan → List ℕ → Kind → ℕ → ℕ → Judgement
judge_kind P boxes kind_c i t = judge_c P boxes i
judge_kind P boxes kind_o room t = judge_o P boxes room t
judge_kind P boxes kind_l i t = judge_l P boxes i t
judge_kind P boxes kind_u i t = judge_u P boxes i t
judge_kind P boxes kind_f k t = judge_f P boxes (pair_of P k)
judge_kind P boxes kind_b k t = judge_b P boxes (pair_of P k)
judge_kind P boxes unknown_kind i t = unknown

unfoldable pub judge : Plan → List ℕ → Step → Judgement
judge P boxes x =
    if is_step P (kind_of x.kind) x.task x.hour
    then judge_kind P boxes (kind_of x.kind) x.task x.hour
    else unknown
