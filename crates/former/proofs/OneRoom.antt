-- Plans of one room answer as before W-202. Assumes nothing.
use Rattle.std.specs.Prelude.{if◌then◌else◌}
use mathlib.Core.Path.{◌≡◌, refl, sym, ap, ap₂, ◌∙◌}
use mathlib.Core.Logic.{◌≢◌}
use Rattle.std.proofs.Math.Path.{fun_ext}
use mathlib.Core.Bool.{Bool, true, false, not}
use Rattle.std.specs.Prelude.{Option, None, Some}
use mathlib.Core.List.{List, [], ◌∷◌}
use Prim.Native.Nat.{ℕ, ◌+◌, ◌<◌}
use native.Mathlib.Nat.{zero-mul}
use native.Mathlib.Omega.{arith}
use lib.Dec.{leb, ltb, eqb}
use lib.Seq.{get_or-take}
use borrow.Author.Tests.{ltb-true, lt-ltb, le-ltb, eqb-true, eqb-false}
use Rattle.units.specs.Choice.{◌and◌, some_of, ◌or_else◌, first_of}
use Rattle.units.specs.Limits.{is_hour, is_room_number}
use Rattle.units.specs.Sums.{sum_where}
use Rattle.units.proofs.Choices.{and_left, first-eq}
use Rattle.units.proofs.Summing.{sum-eq}
use Rattle.plan.specs.Plan.{Plan, room_count, task_count, capacity_of, room_part, heights_of, height_of, heights_where}
use Rattle.plan.specs.Refusals.{unless}
use Rattle.calendar.specs.declared.Triple.{Triple}
use Rattle.schedule.specs.Schedule.{runs, running, Feasible}
use Rattle.schedule.specs.Entry.{room_fault, hour_fault, schedule_fault}
use Rattle.steps.specs.declared.Step.{Step}
use Rattle.steps.specs.Load.{fit_at, must_run, load, others_load, room_excess, excess}
use Rattle.steps.specs.Steps.{Kind, kind_c, kind_o, kind_l, kind_u, kind_f, kind_b, unknown_kind, kind_of, is_step, Judgement, unknown}
use Rattle.steps.specs.Steps.{not_admitted, impossible, judge_o, judge_l, judge_u}
use Rattle.steps.specs.Steps.{on_judgement, judge_kind, judge}
use Rattle.steps.specs.Log.{replay, replay_by}
use Rattle.steps.specs.Filter.{Admitted, stops, moves, if_admitted_by, if_admitted, first_of_kind, first_by, next_by, run_by}
use Rattle.former.specs.OneRoom as before
use Rattle.former.specs.OneRoom.{AsBefore}

-- ---- what is judged alike is admitted, found and replayed alike, and what is chosen alike is filtered alike

module _ (P : Plan) where
  module _ {judge_at : List ℕ → Step → Judgement} (same : (boxes : List ℕ) (x : Step) → judge P boxes x ≡ judge_at boxes x) where
    admitted-alike : (boxes : List ℕ) → if_admitted P boxes ≡ if_admitted_by judge_at boxes
    unfolding if_admitted
    admitted-alike boxes =
        fun_ext (λ x. ap (λ (j : Judgement). on_judgement j None None (Some (stops x)) (λ left. Some (moves x left))) (same boxes x))

    pub found-alike : (boxes : List ℕ) (k : Kind) → first_of_kind P (if_admitted P boxes) k ≡ first_of_kind P (if_admitted_by judge_at boxes) k
    found-alike boxes k = ap (λ (f : Step → Option Admitted). first_of_kind P f k) (admitted-alike boxes)

    pub replayed-alike : (boxes : List ℕ) (log : List Step) → replay P boxes log ≡ replay_by judge_at 0 false boxes log
    unfolding replay
    replayed-alike boxes log = ap (λ (f : List ℕ → Step → Judgement). replay_by f 0 false boxes log) (fun_ext (λ b. fun_ext (same b)))

pub filtered-alike : {f g : List ℕ → Option Admitted} → ((boxes : List ℕ) → f boxes ≡ g boxes)
    → (boxes : List ℕ) (n : ℕ) → run_by f boxes n ≡ run_by g boxes n
filtered-alike same boxes n = ap (λ (h : List ℕ → Option Admitted). run_by h boxes n) (fun_ext same)

module _ (P : Plan) (one : room_count P ≡ 1) where
  -- ---- the one room

  capacity-is : capacity_of P 0 ≡ before.capacity P
  unfolding before.capacity
  capacity-is = refl

  height-is : (i : ℕ) → i < task_count P → height_of P 0 i ≡ before.height_of P i
  unfolding height_of heights_of room_part before.height_of
  height-is i l = rw (zero-mul (task_count P)) (get_or-take (task_count P) P.heights i 0 l)

  heights-are : (test : ℕ → Bool) → heights_where P 0 test ≡ before.heights_where P test
  unfolding heights_where before.heights_where sum_where
  heights-are test = sum-eq _ _ (task_count P) (λ j l. ap (λ (n : ℕ). if test j then n else 0) (height-is j l))

  only : (room : ℕ) → room < room_count P → room ≡ 0
  only room l = omega (arith, one)

  -- what is found over the rooms is found in the one that there is
  first-room : {A : Type 0} (f : ℕ → Option A) → first_of f (room_count P) ≡ f 0
  unfolding first_of ◌or_else◌
  first-room f = rw one

  -- ---- schedules

  running-is : (σ : ℕ → Triple) (t : ℕ) → running P 0 σ t ≡ before.running P σ t
  unfolding running before.running
  running-is σ t = heights-are (λ i. runs (σ i) t)

  hour-is : (σ : ℕ → Triple) (t : ℕ) → hour_fault P σ t ≡ before.hour_fault P σ t
  unfolding hour_fault room_fault before.hour_fault
  hour-is σ t = first-room _ ∙ ap₂ (λ (n c : ℕ). unless (leb n c) 16 t) (running-is σ t) capacity-is

  schedule-is : (boxes : List ℕ) (σ : ℕ → Triple) → schedule_fault P boxes σ ≡ before.schedule_fault P boxes σ
  unfolding schedule_fault before.schedule_fault
  schedule-is boxes σ = ap (◌or_else◌ _) (ap₂ ◌or_else◌ (first-eq _ _ P.shifts.hours (λ t l. hour-is σ t)) refl)

  feasible-before : (boxes : List ℕ) (σ : ℕ → Triple) → Feasible P boxes σ → before.Feasible P boxes σ
  feasible-before boxes σ F =
      record {
        inside = F.inside;
        fits = F.fits;
        room = λ t l. omega (arith, running-is σ t, capacity-is, F.capacity 0 (omega (arith, one)) t l);
        pairs = F.pairs;
      }

  before-feasible : (boxes : List ℕ) (σ : ℕ → Triple) → before.Feasible P boxes σ → Feasible P boxes σ
  before-feasible boxes σ F =
      record {
        inside = F.inside;
        fits = F.fits;
        capacity = λ room l t m. rw (only room l) (omega (arith, running-is σ t, capacity-is, F.room t m));
        pairs = F.pairs;
      }

  -- ---- steps

  excess-is : (boxes : List ℕ) (i t : ℕ) → i < task_count P → excess P boxes i t ≡ before.excess P boxes i t
  unfolding excess room_excess some_of others_load before.excess before.others_load
  excess-is boxes i t l =
      rw one (ap₂ ltb capacity-is (ap₂ ◌+◌ (height-is i l) (heights-are (λ j. not (eqb j i) and must_run (fit_at P.shifts boxes j) t))))

  -- room 0 is the one that there is
  room-zero : (i : ℕ) → is_room_number (room_count P) i ≡ eqb i 0
  room-zero i = go (eqb i 0) refl
    where
      go : (b : Bool) → eqb i 0 ≡ b → ltb i (room_count P) ≡ eqb i 0
      go true e = lt-ltb i (room_count P) (omega (arith, eqb-true i 0 e, one)) ∙ sym e
      go false e = let ne : i ≢ 0 = eqb-false i 0 e in le-ltb i (room_count P) (omega (arith, one)) ∙ sym e

  is-step : (k : Kind) (i t : ℕ) → is_step P k i t ≡ before.is_step P k i t
  unfolding is_step before.is_step
  is-step kind_c i t = refl
  is-step kind_o i t = ap (λ (b : Bool). b and is_hour P.shifts.hours t) (room-zero i)
  is-step kind_l i t = refl
  is-step kind_u i t = refl
  is-step kind_f k t = refl
  is-step kind_b k t = refl
  is-step unknown_kind i t = refl

  kind-is : (boxes : List ℕ) (k : Kind) (i t : ℕ) → before.is_step P k i t ≡ true → judge_kind P boxes k i t ≡ before.judge_kind P boxes k i t
  unfolding judge_kind judge_o judge_l judge_u load before.is_step before.judge_kind before.judge_o before.judge_l before.judge_u before.load
  kind-is boxes kind_c i t e = refl
  kind-is boxes kind_o i t e =
      rw (eqb-true i 0 (and_left _ _ e))
      (ap₂ (λ (c n : ℕ). if ltb c n then impossible else not_admitted) capacity-is (heights-are (λ j. must_run (fit_at P.shifts boxes j) t)))
  kind-is boxes kind_l i t e = rw (excess-is boxes i t (ltb-true _ _ (and_left _ _ e)))
  kind-is boxes kind_u i t e = rw (excess-is boxes i t (ltb-true _ _ (and_left _ _ e)))
  kind-is boxes kind_f k t e = refl
  kind-is boxes kind_b k t e = refl
  kind-is boxes unknown_kind i t e = refl

  judge-is : (boxes : List ℕ) (x : Step) → judge P boxes x ≡ before.judge P boxes x
  unfolding judge before.judge
  judge-is boxes x =
      ap (λ (b : Bool). if b then judge_kind P boxes (kind_of x.kind) x.task x.hour else unknown) (is-step (kind_of x.kind) x.task x.hour)
      ∙ go (before.is_step P (kind_of x.kind) x.task x.hour) refl
    where
      go : (b : Bool) → before.is_step P (kind_of x.kind) x.task x.hour ≡ b
          → (if b then judge_kind P boxes (kind_of x.kind) x.task x.hour else unknown)
          ≡ (if b then before.judge_kind P boxes (kind_of x.kind) x.task x.hour else unknown)
      go true e = ap (λ (j : Judgement). if true then j else unknown) (kind-is boxes (kind_of x.kind) x.task x.hour e)
      go false e = refl

  -- ---- the filter

  first-is : (boxes : List ℕ) (k : Kind) → first_of_kind P (if_admitted_by (before.judge P) boxes) k ≡ before.first_of_kind P boxes k
  unfolding first_of_kind before.first_of_kind
  first-is boxes kind_c = refl
  first-is boxes kind_o = first-room _
  first-is boxes kind_l = refl
  first-is boxes kind_u = refl
  first-is boxes kind_f = refl
  first-is boxes kind_b = refl
  first-is boxes unknown_kind = refl

  next-is : (order : List Kind) (boxes : List ℕ) → next_by order P boxes ≡ before.next_by P order boxes
  unfolding next_by first_by before.next_by
  next-is [] boxes = refl
  next-is (k ∷ ks) boxes = ap₂ ◌or_else◌ (found-alike P judge-is boxes k ∙ first-is boxes k) (next-is ks boxes)

  pub one-room : AsBefore P
  one-room =
      record {
        feasible = λ boxes σ. (feasible-before boxes σ, before-feasible boxes σ);
        refused = schedule-is;
        judged = judge-is;
        chosen = next-is;
        filtered = λ order. filtered-alike (next-is order);
        replayed = replayed-alike P judge-is;
      }
