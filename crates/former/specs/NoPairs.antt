-- A plan without pairs as 01 and 02 up to W-205 speak of it: its tests, its feasible schedules, the steps C, O, L and U, and what the entry points
-- come to by these. A plan's pairs are not read. That a plan without pairs answers by these as before W-206 is proved. The order of the kinds is left
-- open, since W-207 changed it; filter_plan's is today's.
use Rattle.std.specs.Prelude.{Bool, true, false, List, [], ◌∷◌, ◌++◌, map, ◌↔◌, ◌≡◌, ℕ, ◌≤◌, ◌<◌, ltb, eqb, if◌then◌else◌, length}
use Rattle.std.specs.Prelude.{Option, None, Some}
use Rattle.units.specs.Choice.{◌and◌, on_option, ◌or_else◌, first_of}
use Rattle.units.specs.Limits.{is_hour, is_room_count, is_room_number, is_task_count}
use Rattle.plan.specs.Plan.{Plan, room_count, task_count, calendar_of, work_time_of, capacity_of}
use Rattle.plan.specs.Boxes.{bounds_at}
use Rattle.plan.specs.declared.Fault.{Fault}
use Rattle.plan.specs.Refusals.{unless, Answer, answer_unless}
use Rattle.plan.specs.Faults as pairs-faults
use Rattle.plan.specs.Faults.{one_for_each_task, calendars_fault, capacity_fault, tasks_fault}
use Rattle.calendar.specs.declared.Triple.{Triple}
use Rattle.calendar.specs.Triples.{valid_triple, in_bounds}
use Rattle.schedule.specs.Schedule as pairs
use Rattle.schedule.specs.Schedule.{triple_at, running, makespan}
use Rattle.schedule.specs.Entry as pairs-schedules
use Rattle.schedule.specs.Entry.{triple_fault, hour_fault, is_sized}
use Rattle.steps.specs.declared.Step.{Step}
use Rattle.steps.specs.Steps as pairs-steps
use Rattle.steps.specs.Steps.{step, letter_c, letter_o, letter_l, letter_u, Judgement, unknown, on_judgement, judge_c, judge_o, judge_l, judge_u}
use Rattle.steps.specs.Log.{LogEnd, log_end, replay, replay_by}
use Rattle.steps.specs.Filter as pairs-filter
use Rattle.steps.specs.Filter.{Admitted, if_admitted_by, run_by}
use Rattle.steps.specs.Entry as pairs-entry
use Rattle.steps.specs.Entry.{steps_in, one_for_each_step, refused_by, FilterEnd, filter_end, logged}

-- four kinds of step, and any other letter is of none
pub data Kind : Type 0 where
  kind_c kind_o kind_l kind_u unknown_kind : Kind

unfoldable pub kind_of : ℕ → Kind
kind_of letter =
    if eqb letter letter_c then kind_c
    else (if eqb letter letter_o then kind_o
    else (if eqb letter letter_l then kind_l
    else (if eqb letter letter_u then kind_u
    else unknown_kind)))

-- the filter's order (02, W-207: O before C)
unfoldable pub filter_order : List Kind
filter_order = kind_o ∷ kind_c ∷ kind_l ∷ kind_u ∷ []

-- the same kind among those of plans with pairs
unfoldable pub kind_with_pairs : Kind → pairs-steps.Kind
kind_with_pairs kind_c = pairs-steps.kind_c
kind_with_pairs kind_o = pairs-steps.kind_o
kind_with_pairs kind_l = pairs-steps.kind_l
kind_with_pairs kind_u = pairs-steps.kind_u
kind_with_pairs unknown_kind = pairs-steps.unknown_kind

-- and the order, with F and B last (02, W-206)
unfoldable pub with_pairs : List Kind → List pairs-steps.Kind
with_pairs order = map kind_with_pairs order ++ (pairs-steps.kind_f ∷ pairs-steps.kind_b ∷ [])

module _ (P : Plan) where
  -- ---- the plan's tests

  unfoldable pub is_right_size : List ℕ → Bool
  is_right_size boxes = one_for_each_task P.capacities P.shifts.task_calendars P.shifts.work_times P.heights boxes

  -- 5, 17, 10
  unfoldable pub counts_fault : Option Fault
  counts_fault =
      unless (is_task_count (task_count P)) 5 0
      or_else unless (is_room_count (room_count P)) 17 0
      or_else first_of (capacity_fault P.capacities) (room_count P)

  -- 2, 3, 4, 5, 17, 10, then task by task 6, 7, 8, 9
  unfoldable pub plan_fault : List ℕ → Option Fault
  plan_fault boxes =
      calendars_fault P.shifts.hours P.shifts.calendars
      or_else counts_fault
      or_else tasks_fault P.shifts (room_count P) P.heights boxes

  -- 31 before all others
  unfoldable pub input_fault : List ℕ → Option Fault
  input_fault boxes = unless (is_right_size boxes) 31 0 or_else plan_fault boxes

  -- ---- schedules

  pub record Feasible (boxes : List ℕ) (σ : ℕ → Triple) : Type 0 where
    pub inside : (i : ℕ) → i < task_count P → in_bounds (bounds_at boxes i) (σ i) ≡ true
    pub fits : (i : ℕ) → i < task_count P → valid_triple (calendar_of P.shifts i) (work_time_of P.shifts i) (σ i) ≡ true
    pub capacity : (room : ℕ) → room < room_count P → (t : ℕ) → t < P.shifts.hours → running P room σ t ≤ capacity_of P room

  -- the tasks, and at last 16 at the first such hour
  unfoldable pub schedule_fault : List ℕ → (ℕ → Triple) → Option Fault
  schedule_fault boxes σ = first_of (triple_fault P.shifts boxes σ) (task_count P) or_else first_of (hour_fault P σ) P.shifts.hours

  unfoldable pub check_fault : List ℕ → List ℕ → Option Fault
  check_fault boxes schedule =
      unless (is_right_size boxes and is_sized (task_count P) schedule) 31 0
      or_else plan_fault boxes
      or_else schedule_fault boxes (triple_at schedule)

  unfoldable pub check_schedule : List ℕ → List ℕ → Answer ℕ
  check_schedule boxes schedule = answer_unless (check_fault boxes schedule) (makespan P (triple_at schedule))

  -- ---- steps

  unfoldable pub is_step : Kind → ℕ → ℕ → Bool
  is_step kind_c i t = ltb i (task_count P) and eqb t 0
  is_step kind_o room t = is_room_number (room_count P) room and is_hour P.shifts.hours t
  is_step kind_l i t = ltb i (task_count P) and is_hour P.shifts.hours t
  is_step kind_u i t = ltb i (task_count P) and is_hour P.shifts.hours t
  is_step unknown_kind i t = false

  unfoldable pub judge_kind : List ℕ → Kind → ℕ → ℕ → Judgement
  judge_kind boxes kind_c i t = judge_c P boxes i
  judge_kind boxes kind_o room t = judge_o P boxes room t
  judge_kind boxes kind_l i t = judge_l P boxes i t
  judge_kind boxes kind_u i t = judge_u P boxes i t
  judge_kind boxes unknown_kind i t = unknown

  unfoldable pub judge : List ℕ → Step → Judgement
  judge boxes x =
      if is_step (kind_of x.kind) x.task x.hour
      then judge_kind boxes (kind_of x.kind) x.task x.hour
      else unknown

  -- the first admitted step of a kind: C by task; O by room, then hour; L by task, then hour; U by task, then hour
  unfoldable pub first_of_kind : List ℕ → Kind → Option Admitted
  first_of_kind boxes kind_c = first_of (λ i. if_admitted_by judge boxes (step letter_c i 0)) (task_count P)
  first_of_kind boxes kind_o = first_of (λ room. first_of (λ t. if_admitted_by judge boxes (step letter_o room t)) P.shifts.hours) (room_count P)
  first_of_kind boxes kind_l = first_of (λ i. first_of (λ t. if_admitted_by judge boxes (step letter_l i t)) P.shifts.hours) (task_count P)
  first_of_kind boxes kind_u = first_of (λ i. first_of (λ t. if_admitted_by judge boxes (step letter_u i t)) P.shifts.hours) (task_count P)
  first_of_kind boxes unknown_kind = None

  -- and in an order of kinds
  unfoldable pub next_by : List Kind → List ℕ → Option Admitted
  next_by [] boxes = None
  next_by (k ∷ ks) boxes = first_of_kind boxes k or_else next_by ks boxes

  -- ---- the log checker and the filter

  unfoldable pub entry_fault : List ℕ → List ℕ → List ℕ → List ℕ → Option Fault
  entry_fault boxes kinds tasks hours = unless (is_right_size boxes and one_for_each_step kinds tasks hours) 31 0 or_else plan_fault boxes

  unfoldable pub check_log : List ℕ → List ℕ → List ℕ → List ℕ → LogEnd
  check_log boxes kinds tasks hours =
      on_option (entry_fault boxes kinds tasks hours) (replay_by judge 0 false boxes (steps_in kinds tasks hours))
      (λ f. log_end 0 false boxes (Some f))

  unfoldable pub filter_plan : List ℕ → List ℕ → List ℕ → List ℕ → FilterEnd
  filter_plan boxes kinds tasks hours =
      on_option (entry_fault boxes kinds tasks hours)
      (logged (run_by (next_by filter_order) boxes (length kinds)) kinds tasks hours)
      (λ f. filter_end (refused_by f) boxes kinds tasks hours)

-- A plan answers as before: the tests' refusals, its feasible schedules and the refusals of others, its steps, the filter's choice and its run in any
-- order of the four kinds, F and B after them, the replay of a log; and so does each entry point, in its answer and in all that it leaves in lent memory.
pub record AsBefore (P : Plan) : Type 0 where
  pub passed : (boxes : List ℕ) → pairs-faults.plan_fault P boxes ≡ plan_fault P boxes
  pub tested : (boxes : List ℕ) → pairs-faults.input_fault P boxes ≡ input_fault P boxes
  pub feasible : (boxes : List ℕ) (σ : ℕ → Triple) → pairs.Feasible P boxes σ ↔ Feasible P boxes σ
  pub refused : (boxes : List ℕ) (σ : ℕ → Triple) → pairs-schedules.schedule_fault P boxes σ ≡ schedule_fault P boxes σ
  pub judged : (boxes : List ℕ) (x : Step) → pairs-steps.judge P boxes x ≡ judge P boxes x
  pub chosen : (order : List Kind) (boxes : List ℕ) → pairs-filter.next_by (with_pairs order) P boxes ≡ next_by P order boxes
  pub filtered : (order : List Kind) (boxes : List ℕ) (n : ℕ)
      → run_by (pairs-filter.next_by (with_pairs order) P) boxes n ≡ run_by (next_by P order) boxes n
  pub replayed : (boxes : List ℕ) (log : List Step) → replay P boxes log ≡ replay_by (judge P) 0 false boxes log
  pub schedule_checker : (boxes schedule : List ℕ) → pairs-schedules.check_schedule P boxes schedule ≡ check_schedule P boxes schedule
  pub log_checker : (boxes kinds tasks hours : List ℕ) → pairs-entry.check_log P boxes kinds tasks hours ≡ check_log P boxes kinds tasks hours
  pub filter : (boxes kinds tasks hours : List ℕ) → pairs-entry.filter_plan P boxes kinds tasks hours ≡ filter_plan P boxes kinds tasks hours
