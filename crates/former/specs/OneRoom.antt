-- A plan of one room as 01 speaks of it: what 02, W-202, gave each room, in 01's words, of the capacity and of one height a task. That a plan of one
-- room answers by these as before is proved. Its pairs (W-206) are any plan's. The order of the kinds is left open, since W-207 changed it.
use Rattle.std.specs.Prelude.{Bool, true, false, not, List, [], ◌∷◌, ◌↔◌, ◌≡◌, ℕ, ◌+◌, ◌-◌, ◌≤◌, ◌<◌, leb, ltb, eqb, get_or, if◌then◌else◌}
use Rattle.std.specs.Prelude.{Option, None}
use Rattle.units.specs.Choice.{◌and◌, ◌or_else◌, first_of}
use Rattle.units.specs.Limits.{is_hour, with_earliest, with_latest}
use Rattle.units.specs.Sums.{sum_where}
use Rattle.plan.specs.Plan.{Plan, task_count, pair_count, calendar_of, work_time_of, pair_of}
use Rattle.plan.specs.Boxes.{bounds_at, with_bounds}
use Rattle.plan.specs.declared.Fault.{Fault}
use Rattle.plan.specs.Refusals.{unless}
use Rattle.calendar.specs.declared.Triple.{Triple}
use Rattle.calendar.specs.Triples.{valid_triple, in_bounds}
use Rattle.calendar.specs.Rule.{lst, ect}
use Rattle.schedule.specs.Schedule as rooms
use Rattle.schedule.specs.Schedule.{runs, in_turn}
use Rattle.schedule.specs.Entry as rooms-entry
use Rattle.schedule.specs.Entry.{triple_fault, order_fault}
use Rattle.steps.specs.declared.Step.{Step}
use Rattle.steps.specs.Load.{fit_at, must_run}
use Rattle.steps.specs.Steps as rooms-steps
use Rattle.steps.specs.Steps.{step, letter_c, letter_o, letter_l, letter_u, letter_f, letter_b, Kind, kind_c, kind_o, kind_l, kind_u, kind_f, kind_b}
use Rattle.steps.specs.Steps.{unknown_kind, kind_of}
use Rattle.steps.specs.Steps.{Judgement, unknown, not_admitted, impossible, moved, on_judgement, on_fit, judge_c, judge_f, judge_b}
use Rattle.steps.specs.Log.{replay, replay_by}
use Rattle.steps.specs.Filter as rooms-filter
use Rattle.steps.specs.Filter.{Admitted, if_admitted_by, run_by}

module _ (P : Plan) where
  unfoldable pub capacity : ℕ
  capacity = get_or P.capacities 0 0

  unfoldable pub height_of : ℕ → ℕ
  height_of i = get_or P.heights i 0

  unfoldable pub heights_where : (ℕ → Bool) → ℕ
  heights_where test = sum_where test height_of (task_count P)

  -- ---- schedules

  unfoldable pub running : (ℕ → Triple) → ℕ → ℕ
  running σ t = heights_where (λ i. runs (σ i) t)

  pub record Feasible (boxes : List ℕ) (σ : ℕ → Triple) : Type 0 where
    pub inside : (i : ℕ) → i < task_count P → in_bounds (bounds_at boxes i) (σ i) ≡ true
    pub fits : (i : ℕ) → i < task_count P → valid_triple (calendar_of P.shifts i) (work_time_of P.shifts i) (σ i) ≡ true
    pub room : (t : ℕ) → t < P.shifts.hours → running σ t ≤ capacity
    pub pairs : (k : ℕ) → k < pair_count P → in_turn (pair_of P k) σ ≡ true

  unfoldable pub hour_fault : (ℕ → Triple) → ℕ → Option Fault
  hour_fault σ t = unless (leb (running σ t) capacity) 16 t

  unfoldable pub schedule_fault : List ℕ → (ℕ → Triple) → Option Fault
  schedule_fault boxes σ =
      first_of (triple_fault P.shifts boxes σ) (task_count P)
      or_else first_of (hour_fault σ) P.shifts.hours
      or_else first_of (order_fault P σ) (pair_count P)

  -- ---- steps

  unfoldable pub load : List ℕ → ℕ → ℕ
  load boxes t = heights_where (λ j. must_run (fit_at P.shifts boxes j) t)

  unfoldable pub others_load : List ℕ → ℕ → ℕ → ℕ
  others_load boxes i t = heights_where (λ j. not (eqb j i) and must_run (fit_at P.shifts boxes j) t)

  unfoldable pub excess : List ℕ → ℕ → ℕ → Bool
  excess boxes i t = ltb capacity (height_of i + others_load boxes i t)

  unfoldable pub is_step : Kind → ℕ → ℕ → Bool
  is_step kind_c i t = ltb i (task_count P) and eqb t 0
  is_step kind_o i t = eqb i 0 and is_hour P.shifts.hours t
  is_step kind_l i t = ltb i (task_count P) and is_hour P.shifts.hours t
  is_step kind_u i t = ltb i (task_count P) and is_hour P.shifts.hours t
  is_step kind_f k t = ltb k (pair_count P) and eqb t 0
  is_step kind_b k t = ltb k (pair_count P) and eqb t 0
  is_step unknown_kind i t = false

  unfoldable pub judge_o : List ℕ → ℕ → Judgement
  judge_o boxes t = if ltb capacity (load boxes t) then impossible else not_admitted

  unfoldable pub judge_l : List ℕ → ℕ → ℕ → Judgement
  judge_l boxes i t =
      on_fit (fit_at P.shifts boxes i) not_admitted
      (λ w. if ltb t (ect w) and leb (bounds_at boxes i).earliest.0 t and excess boxes i t
      then (if leb (bounds_at boxes i).latest.0 t
      then impossible
      else moved (with_bounds boxes i (with_earliest (bounds_at boxes i) (t + 1))))
      else not_admitted)

  unfoldable pub judge_u : List ℕ → ℕ → ℕ → Judgement
  judge_u boxes i t =
      on_fit (fit_at P.shifts boxes i) not_admitted
      (λ w. if leb (lst w) t and ltb t ((bounds_at boxes i).latest.0 + (bounds_at boxes i).shortest.0) and excess boxes i t
      then (if ltb t ((bounds_at boxes i).earliest.0 + (bounds_at boxes i).shortest.0)
      then impossible
      else moved (with_bounds boxes i (with_latest (bounds_at boxes i) (t - (bounds_at boxes i).shortest.0))))
      else not_admitted)

  unfoldable pub judge_kind : List ℕ → Kind → ℕ → ℕ → Judgement
  judge_kind boxes kind_c i t = judge_c P boxes i
  judge_kind boxes kind_o i t = judge_o boxes t
  judge_kind boxes kind_l i t = judge_l boxes i t
  judge_kind boxes kind_u i t = judge_u boxes i t
  judge_kind boxes kind_f k t = judge_f P boxes (pair_of P k)
  judge_kind boxes kind_b k t = judge_b P boxes (pair_of P k)
  judge_kind boxes unknown_kind i t = unknown

  unfoldable pub judge : List ℕ → Step → Judgement
  judge boxes x =
      if is_step (kind_of x.kind) x.task x.hour
      then judge_kind boxes (kind_of x.kind) x.task x.hour
      else unknown

  -- the first admitted step of a kind: C by task; O by hour; L by task, then hour; U by task, then hour; F by pair; B by pair
  unfoldable pub first_of_kind : List ℕ → Kind → Option Admitted
  first_of_kind boxes kind_c = first_of (λ i. if_admitted_by judge boxes (step letter_c i 0)) (task_count P)
  first_of_kind boxes kind_o = first_of (λ t. if_admitted_by judge boxes (step letter_o 0 t)) P.shifts.hours
  first_of_kind boxes kind_l = first_of (λ i. first_of (λ t. if_admitted_by judge boxes (step letter_l i t)) P.shifts.hours) (task_count P)
  first_of_kind boxes kind_u = first_of (λ i. first_of (λ t. if_admitted_by judge boxes (step letter_u i t)) P.shifts.hours) (task_count P)
  first_of_kind boxes kind_f = first_of (λ k. if_admitted_by judge boxes (step letter_f k 0)) (pair_count P)
  first_of_kind boxes kind_b = first_of (λ k. if_admitted_by judge boxes (step letter_b k 0)) (pair_count P)
  first_of_kind boxes unknown_kind = None

  -- and in an order of kinds
  unfoldable pub next_by : List Kind → List ℕ → Option Admitted
  next_by [] boxes = None
  next_by (k ∷ ks) boxes = first_of_kind boxes k or_else next_by ks boxes

-- A plan answers as before: its feasible schedules and the refusals of others, its steps, the filter's choice and its run in any order of the kinds, and
-- the replay of a log.
pub record AsBefore (P : Plan) : Type 0 where
  pub feasible : (boxes : List ℕ) (σ : ℕ → Triple) → rooms.Feasible P boxes σ ↔ Feasible P boxes σ
  pub refused : (boxes : List ℕ) (σ : ℕ → Triple) → rooms-entry.schedule_fault P boxes σ ≡ schedule_fault P boxes σ
  pub judged : (boxes : List ℕ) (x : Step) → rooms-steps.judge P boxes x ≡ judge P boxes x
  pub chosen : (order : List Kind) (boxes : List ℕ) → rooms-filter.next_by order P boxes ≡ next_by P order boxes
  pub filtered : (order : List Kind) (boxes : List ℕ) (n : ℕ) → run_by (rooms-filter.next_by order P) boxes n ≡ run_by (next_by P order) boxes n
  pub replayed : (boxes : List ℕ) (log : List Step) → replay P boxes log ≡ replay_by (judge P) 0 false boxes log
