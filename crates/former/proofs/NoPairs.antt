-- Plans without pairs answer as before W-206. Assumes nothing.
use Rattle.std.specs.Prelude.{if◌then◌else◌}
use mathlib.Core.Path.{◌≡◌, refl, ap, ap₂, ◌∙◌}
use mathlib.Core.Bool.{Bool, true, false}
use Rattle.std.specs.Prelude.{Option, Some}
use Rattle.std.proofs.Math.Bool.{and-true}
use mathlib.Core.List.{List, [], ◌∷◌}
use Prim.Native.Nat.{ℕ, ◌/◌}
use native.Mathlib.Omega.{arith}
use lib.ListN.{length}
use lib.Dec.{ltb, eqb}
use borrow.Author.Tests.{le-ltb}
use Rattle.units.specs.Choice.{◌and◌, on_option, ◌or_else◌, first_of}
use Rattle.units.specs.Limits.{pair_numbers}
use Rattle.units.proofs.Choices.{not_left, if-false, else-end}
use Rattle.plan.specs.Plan.{Plan, task_count, pair_count}
use Rattle.plan.specs.declared.Fault.{Fault}
use Rattle.plan.specs.Refusals.{unless, answer_unless}
use Rattle.plan.specs.Faults.{is_whole_pairs, is_right_size, counts_fault, pairs_fault, plan_fault, input_fault}
use Rattle.calendar.specs.declared.Triple.{Triple}
use Rattle.schedule.specs.Schedule.{triple_at, Feasible, makespan}
use Rattle.schedule.specs.Entry.{schedule_fault, is_sized, check_fault, check_schedule}
use Rattle.steps.specs.declared.Step.{Step}
use Rattle.steps.specs.Steps.{letter_c, letter_o, letter_l, letter_u, letter_f, letter_b, Kind, kind_c, kind_o, kind_l, kind_u, kind_f, kind_b}
use Rattle.steps.specs.Steps.{unknown_kind, kind_of, is_step, Judgement, unknown, judge_kind, judge}
use Rattle.steps.specs.Log.{LogEnd, log_end}
use Rattle.steps.specs.Filter.{Run, if_admitted_by, first_of_kind, first_by, filter_order, next_by}
use Rattle.steps.specs.Entry.{steps_in, one_for_each_step, entry_fault, check_log, refused_by, filter_end, logged, filter_plan}
use Rattle.former.specs.NoPairs as before
use Rattle.former.specs.NoPairs.{AsBefore}
use Rattle.former.proofs.OneRoom.{found-alike, replayed-alike, filtered-alike}

module _ (P : Plan) (none : P.pairs ≡ []) where
  no-pair : pair_count P ≡ 0
  no-pair = ap (λ (l : List ℕ). length l / pair_numbers) none

  -- pair by pair, at last, nothing more is found
  none-after : {A : Type 0} (x : Option A) (f : ℕ → Option A) → (x or_else first_of f (pair_count P)) ≡ x
  unfolding first_of
  none-after x f = rw no-pair (else-end x)

  -- ---- the plan's tests

  size-is : (boxes : List ℕ) → is_right_size P boxes ≡ before.is_right_size P boxes
  unfolding is_whole_pairs before.is_right_size
  size-is boxes = rw none (and-true _)

  counts-is : counts_fault (task_count P) (pair_count P) P.capacities ≡ before.counts_fault P
  unfolding counts_fault before.counts_fault unless ◌or_else◌
  counts-is = rw no-pair refl

  plan-is : (boxes : List ℕ) → plan_fault P boxes ≡ before.plan_fault P boxes
  unfolding plan_fault pairs_fault before.plan_fault
  plan-is boxes = ap (◌or_else◌ _) (ap₂ ◌or_else◌ counts-is (none-after _ _))

  -- 31 before them, of the boxes; of a log's slices too
  input-is : (boxes : List ℕ) → input_fault P boxes ≡ before.input_fault P boxes
  unfolding input_fault before.input_fault
  input-is boxes = ap₂ (λ (b : Bool) (f : Option Fault). unless b 31 0 or_else f) (size-is boxes) (plan-is boxes)

  entry-is : (boxes kinds tasks hours : List ℕ) → entry_fault P boxes kinds tasks hours ≡ before.entry_fault P boxes kinds tasks hours
  unfolding entry_fault before.entry_fault
  entry-is boxes kinds tasks hours =
      ap₂ (λ (b : Bool) (f : Option Fault). unless (b and one_for_each_step kinds tasks hours) 31 0 or_else f) (size-is boxes) (plan-is boxes)

  -- ---- schedules

  feasible-before : (boxes : List ℕ) (σ : ℕ → Triple) → Feasible P boxes σ → before.Feasible P boxes σ
  feasible-before boxes σ F = record { inside = F.inside; fits = F.fits; capacity = F.capacity }

  before-feasible : (boxes : List ℕ) (σ : ℕ → Triple) → before.Feasible P boxes σ → Feasible P boxes σ
  before-feasible boxes σ F =
      record { inside = F.inside; fits = F.fits; capacity = F.capacity; pairs = λ k l. absurd (omega (arith, no-pair, l)) }

  schedule-is : (boxes : List ℕ) (σ : ℕ → Triple) → schedule_fault P boxes σ ≡ before.schedule_fault P boxes σ
  unfolding schedule_fault before.schedule_fault
  schedule-is boxes σ = ap (◌or_else◌ _) (none-after _ _)

  check-is : (boxes schedule : List ℕ) → check_fault P boxes schedule ≡ before.check_fault P boxes schedule
  unfolding check_fault before.check_fault
  check-is boxes schedule =
      ap₂ (λ (b : Bool) (f : Option Fault). unless (b and is_sized (task_count P) schedule) 31 0 or_else f) (size-is boxes)
      (ap₂ ◌or_else◌ (plan-is boxes) (schedule-is boxes (triple_at schedule)))

  -- ---- steps

  module _ (boxes : List ℕ) (i t : ℕ) where
    abbrev As : Kind → Judgement
    As k = if is_step P k i t then judge_kind P boxes k i t else unknown

    abbrev Before : before.Kind → Judgement
    Before k = if before.is_step P k i t then before.judge_kind P boxes k i t else unknown

    not-step : ltb i (pair_count P) and eqb t 0 ≡ false
    not-step = not_left _ _ (le-ltb i _ (omega (arith, no-pair)))

    -- a step of none of the four kinds, F and B too
    of-none : (f b : Bool) → As (if f then kind_f else (if b then kind_b else unknown_kind)) ≡ unknown
    unfolding is_step
    of-none true b = if-false _ _ _ not-step
    of-none false true = if-false _ _ _ not-step
    of-none false false = refl

    of-kind : (c o l u : Bool) (k : Kind) → As k ≡ unknown
        → As (if c then kind_c else (if o then kind_o else (if l then kind_l else (if u then kind_u else k))))
        ≡ Before
        (if c then before.kind_c
        else (if o then before.kind_o else (if l then before.kind_l else (if u then before.kind_u else before.unknown_kind))))
    unfolding is_step judge_kind before.is_step before.judge_kind
    of-kind true o l u k e = refl
    of-kind false true l u k e = refl
    of-kind false false true u k e = refl
    of-kind false false false true k e = refl
    of-kind false false false false k e = e

  judge-is : (boxes : List ℕ) (x : Step) → judge P boxes x ≡ before.judge P boxes x
  unfolding judge kind_of before.judge before.kind_of
  judge-is boxes x =
      of-kind boxes x.task x.hour (eqb x.kind letter_c) (eqb x.kind letter_o) (eqb x.kind letter_l) (eqb x.kind letter_u) _
      (of-none boxes x.task x.hour (eqb x.kind letter_f) (eqb x.kind letter_b))

  -- ---- the filter

  first-is : (boxes : List ℕ) (k : before.Kind)
      → first_of_kind P (if_admitted_by (before.judge P) boxes) (before.kind_with_pairs k) ≡ before.first_of_kind P boxes k
  unfolding first_of_kind before.kind_with_pairs before.first_of_kind
  first-is boxes before.kind_c = refl
  first-is boxes before.kind_o = refl
  first-is boxes before.kind_l = refl
  first-is boxes before.kind_u = refl
  first-is boxes before.unknown_kind = refl

  -- after the last of the four kinds F and B find nothing
  next-is : (order : List before.Kind) (boxes : List ℕ) → next_by (before.with_pairs order) P boxes ≡ before.next_by P order boxes
  unfolding next_by first_by first_of_kind first_of ◌or_else◌ before.with_pairs before.next_by
  next-is [] boxes = rw no-pair refl
  next-is (k ∷ ks) boxes = ap₂ ◌or_else◌ (found-alike P judge-is boxes (before.kind_with_pairs k) ∙ first-is boxes k) (next-is ks boxes)

  -- ---- the entry points

  schedule-checker : (boxes schedule : List ℕ) → check_schedule P boxes schedule ≡ before.check_schedule P boxes schedule
  unfolding check_schedule before.check_schedule
  schedule-checker boxes schedule =
      ap (λ (f : Option Fault). answer_unless f (makespan P (triple_at schedule))) (check-is boxes schedule)

  log-checker : (boxes kinds tasks hours : List ℕ) → check_log P boxes kinds tasks hours ≡ before.check_log P boxes kinds tasks hours
  unfolding check_log before.check_log
  log-checker boxes kinds tasks hours =
      ap₂ (λ (f : Option Fault) (e : LogEnd). on_option f e (λ g. log_end 0 false boxes (Some g))) (entry-is boxes kinds tasks hours)
      (replayed-alike P judge-is boxes (steps_in kinds tasks hours))

  filter-is : (boxes kinds tasks hours : List ℕ) → filter_plan P boxes kinds tasks hours ≡ before.filter_plan P boxes kinds tasks hours
  unfolding filter_plan filter_order before.filter_plan before.filter_order before.with_pairs before.kind_with_pairs
  filter-is boxes kinds tasks hours =
      ap₂ (λ (f : Option Fault) (r : Run). on_option f (logged r kinds tasks hours) (λ g. filter_end (refused_by g) boxes kinds tasks hours))
      (entry-is boxes kinds tasks hours) (filtered-alike (next-is before.filter_order) boxes (length kinds))

  pub no-pairs : AsBefore P
  no-pairs =
      record {
        passed = plan-is;
        tested = input-is;
        feasible = λ boxes σ. (feasible-before boxes σ, before-feasible boxes σ);
        refused = schedule-is;
        judged = judge-is;
        chosen = next-is;
        filtered = λ order. filtered-alike (next-is order);
        replayed = replayed-alike P judge-is;
        schedule_checker = schedule-checker;
        log_checker = log-checker;
        filter = filter-is;
      }
