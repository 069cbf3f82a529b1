-- The claims that the contracts of the log checker and of the filter carry, over their definitions. Assumes nothing.
use mathlib.Core.Path.{◌≡◌, refl, sym, ap, ◌∙◌, subst}
use mathlib.Core.Bool.{Bool, true, false, false≢true}
use Rattle.std.specs.Prelude.{Option, None, Some}
use mathlib.Core.List.{List, [], ◌∷◌, ◌++◌, map, append-nil}
use Prim.Native.Nat.{ℕ, zero, suc, ◌+◌, ◌*◌, ◌<◌}
use native.Mathlib.Numerals.{add-one}
use native.Mathlib.Omega.{arith}
use lib.ListN.{length, length-map}
use borrow.Author.Tests.{eq-eqb, eqb-true}
use Rattle.units.specs.Cells.{written}
use Rattle.units.specs.Choice.{◌and◌, on_option, ◌or_else◌}
use Rattle.units.proofs.Choices.{and_both, and_left, and_right, None≢Some, option-all, neither, first-at}
use Rattle.plan.specs.Plan.{Plan, task_count}
use Rattle.plan.specs.Boxes.{bounds_at}
use Rattle.plan.specs.declared.Fault.{Fault}
use Rattle.plan.specs.Refusals.{fault, unless, refused, answered, answer_unless}
use Rattle.plan.specs.Faults.{one_for_each_task, is_right_size, packing_fault, packed_fault, plan_fault, input_fault}
use Rattle.plan.specs.Over.{PackedPlan, unpacked, packed_plan_fault, memory_fault}
use Rattle.plan.proofs.Over.{letters-none}
use Rattle.plan.proofs.Over.{over-tested}
use Rattle.plan.proofs.Refusals.{unless-none, go_on, refused≢answered}
use Rattle.plan.proofs.Numbers.{OfInput, by-unless, by-either, plan-numbers}
use Rattle.steps.specs.declared.Step.{Step}
use Rattle.calendar.specs.declared.Triple.{Triple}
use Rattle.calendar.specs.Triples.{in_bounds}
use Rattle.schedule.specs.Schedule.{Feasible}
use Rattle.steps.specs.Steps.{judge}
use Rattle.steps.specs.Log.{LogEnd, log_end, replay_from, replay_by, replay}
use Rattle.steps.specs.Filter.{filter_order, next, Ending, settled, impossible, no_room, Run, count, run}
use Rattle.steps.specs.declared.Accepted.{Accepted}
use Rattle.steps.specs.Entry.{step_at, steps_from, steps_in, one_for_each_step, entry_fault, check_log, check_answer, check_records}
use Rattle.steps.specs.Entry.{refused_by, ending_answer, FilterEnd, filter_end, logged, filter_plan}
use Rattle.steps.specs.Entry.{packed_input_fault, packed_entry_fault, check_log_packed, check_records_packed, filter_packed}
use Rattle.steps.specs.Claim.{said_impossible, CheckedHolds, FilterHolds}
use Rattle.steps.proofs.Judgements.{judgement-all}
use Rattle.steps.proofs.Replays.{accepted-admitted, admitted-accepted, accepted-steps, replay-keeps, replay-possible}
use Rattle.steps.proofs.Searches.{next-none, filter-complete}
use Rattle.steps.proofs.Runs.{run-replays, run_fits, run_short, run-rests}

-- ---- the faults found before a log is read are none of the log's own

pub not-13 : Fault → Type 0
not-13 f = f.number ≡ 13 → ⊥

packed-numbers : (h : ℕ) (bytes : List ℕ) → OfInput (packed_fault h bytes)
unfolding packed_fault packing_fault
packed-numbers h bytes =
    by-either (by-unless _ 2 0 (λ s. omega arith))
    (by-either (by-unless _ 3 0 (λ s. omega arith))
    (record { other = λ e s. let (k, l, q) = first-at _ _ _ e in (by-unless _ 21 k (λ t. omega arith)).other q s }))

pub memory-fault : (sized : Bool) (P : PackedPlan) (boxes : List ℕ) (f : Fault) → memory_fault sized P boxes ≡ Some f → not-13 f
unfolding memory_fault packed_plan_fault not-13
memory-fault sized P boxes f e q =
    (by-either (by-unless _ 31 0 (λ s. omega arith)) (by-either (packed-numbers P.hours P.calendars) (plan-numbers (unpacked P) boxes))).other e (omega arith)

-- where they find none, the boxes number one for each task
module _ (P : Plan) (boxes : List ℕ) where
  pub first-sized : input_fault P boxes ≡ None → length boxes ≡ 6 * task_count P
  unfolding input_fault one_for_each_task
  first-sized e = eqb-true _ _ (and_right _ _ (and_right _ _ (and_left _ _ (unless-none _ 31 0 (neither _ _ e).0))))

-- the slices of a log that are of one length leave 31 to the plan's memory
steps-sized : (a : Bool) (kinds tasks hours : List ℕ) → length tasks ≡ length kinds → length hours ≡ length kinds
    → (a and one_for_each_step kinds tasks hours) ≡ a
unfolding one_for_each_step
steps-sized a kinds tasks hours t h = go a (and_both _ _ (eq-eqb (length tasks) (length kinds) t) (eq-eqb (length hours) (length kinds) h))
  where
    go : (a : Bool) {b : Bool} → b ≡ true → (a and b) ≡ a
    go true e = e
    go false e = refl

-- the tests are then those of the plan and the boxes alone; of letters
same-fault : (P : Plan) (boxes kinds tasks hours : List ℕ) → length tasks ≡ length kinds → length hours ≡ length kinds
    → entry_fault P boxes kinds tasks hours ≡ input_fault P boxes
unfolding entry_fault input_fault
same-fault P boxes kinds tasks hours t h =
    ap (λ (b : Bool). unless b 31 0 or_else plan_fault P boxes) (steps-sized (is_right_size P boxes) kinds tasks hours t h)

-- and in memory
module _ (P : PackedPlan) (boxes : List ℕ) where
  pub packed-same-fault : (kinds tasks hours : List ℕ) → length tasks ≡ length kinds → length hours ≡ length kinds
      → packed_entry_fault P boxes kinds tasks hours ≡ packed_input_fault P boxes
  unfolding packed_entry_fault packed_input_fault
  packed-same-fault kinds tasks hours t h =
      ap (λ (b : Bool). memory_fault b P boxes) (steps-sized (is_right_size (unpacked P) boxes) kinds tasks hours t h)

  -- where they find none of a log, they find none of the plan
  entry-input : (kinds tasks hours : List ℕ) → packed_entry_fault P boxes kinds tasks hours ≡ None → packed_input_fault P boxes ≡ None
  unfolding packed_entry_fault packed_input_fault memory_fault
  entry-input kinds tasks hours e =
      let faults = neither _ _ e in
      go_on _ 31 0 _ (and_left _ _ (unless-none _ 31 0 faults.0)) ∙ faults.1

  -- nor of its letters
  pub input-letters : packed_input_fault P boxes ≡ None → input_fault (unpacked P) boxes ≡ None
  unfolding packed_input_fault input_fault
  input-letters e = letters-none _ P boxes e

  pub packed-sized : packed_input_fault P boxes ≡ None → length boxes ≡ 6 * task_count (unpacked P)
  packed-sized e = first-sized (unpacked P) boxes (input-letters e)

-- ---- the log checker

-- a record that follows one which said impossible is refused by 13, and only such a one
After-impossible : LogEnd → Type 0
After-impossible e = (k : ℕ) → e.refusal ≡ Some (fault 13 k) → e.impossible ≡ true

other-number : {C : Type 0} (f g : Fault) → (f.number ≡ g.number → ⊥) → Some f ≡ Some g → C
other-number f g ne e = absurd (ne (let z : f ≡ g = cc in ap (λ (h : Fault). h.number) z))

refused-13 : (P : Plan) (k : ℕ) (boxes : List ℕ) (log : List Step) → After-impossible (replay_from P k false boxes log)
unfolding After-impossible replay_by
refused-13 P k boxes [] = λ n e. None≢Some e
refused-13 P k boxes (x ∷ xs) =
    judgement-all After-impossible (judge P boxes x) _ _ _ _
    (λ e n q. other-number _ _ (λ z. omega arith) q)
    (λ e n q. other-number _ _ (λ z. omega arith) q)
    (λ e. last xs)
    (λ left e. refused-13 P (k + 1) left xs)
  where
    last : (ys : List Step) → After-impossible (replay_from P (k + 1) true boxes ys)
    last [] = λ n q. refl
    last (y ∷ ys) = λ n q. refl

answer-none : {A : Type 0} (o : Option Fault) (a b : A) → answer_unless o a ≡ answered b → (o ≡ None) × (a ≡ b)
unfolding answer_unless
answer-none None a b e = (refl, cc)
answer-none (Some f) a b e = refused≢answered e

answer-some : {A : Type 0} (o : Option Fault) (a : A) (f : Fault) → answer_unless o a ≡ refused f → o ≡ Some f
unfolding answer_unless
answer-some None a f e = refused≢answered (sym e)
answer-some (Some g) a f e = cc

module _ (P : Plan) (boxes : List ℕ) (found : Option Fault) (log : List Step) where
  refused-holds : (f : Fault) → found ≡ Some f → not-13 f → CheckedHolds P boxes found log (refused f) boxes
  unfolding not-13
  refused-holds f e other =
      record {
        exactly = λ q. None≢Some (sym q ∙ e);
        counted = λ a q. refused≢answered q;
        keeps = λ σ F. F.inside;
        no_schedule = λ steps q. refused≢answered q;
        no_schedule_at = λ k q. absurd (other (let z : f ≡ fault 13 k = cc in ap (λ (g : Fault). g.number) z));
      }

  abbrev end : LogEnd
  end = replay P boxes log

  pub replayed-holds : length boxes ≡ 6 * task_count P → CheckedHolds P boxes found log (check_answer end) end.boxes
  unfolding check_answer After-impossible
  replayed-holds size =
      record {
        exactly = λ q. (
          λ a. accepted-admitted P boxes log (answer-none end.refusal _ _ a.1).0,
          λ a. let e = admitted-accepted P boxes log a in (record { steps = end.steps; impossible = end.impossible }, unfold answer_unless in (rw e)),
        );
        counted = λ a q.
            let (accepted, is) = answer-none end.refusal _ _ q in
            ap (λ (b : Accepted). b.steps) (sym is) ∙ accepted-steps P boxes log accepted;
        keeps = λ σ F. (replay-keeps P boxes log size σ F).inside;
        no_schedule = λ steps e σ F.
            no-schedule σ F (ap (λ (a : Accepted). a.impossible) (answer-none end.refusal _ _ e).1);
        no_schedule_at = λ k e σ F.
            no-schedule σ F (unfold replay in (refused-13 P 0 boxes log k (answer-some end.refusal _ _ e)));
      }
    where
      no-schedule : (σ : ℕ → Triple) → Feasible P boxes σ → end.impossible ≡ true → ⊥
      no-schedule σ F e = false≢true (sym (replay-possible P boxes log size σ F) ∙ e)

  -- the log's end, or at once a refusal that changes nothing
  abbrev tested : LogEnd
  tested = on_option found end (λ f. log_end 0 false boxes (Some f))

  pub tested-holds : (found ≡ None → length boxes ≡ 6 * task_count P) → ((f : Fault) → found ≡ Some f → not-13 f)
      → CheckedHolds P boxes found log (check_answer tested) tested.boxes
  tested-holds size other =
      option-all (λ (e : LogEnd). CheckedHolds P boxes found log (check_answer e) e.boxes) found _ _
      (λ e. replayed-holds (size e))
      (λ f e. unfold check_answer answer_unless in (refused-holds f e (other f e)))

module _ (P : PackedPlan) (boxes kinds tasks hours : List ℕ) where
  -- in memory too it is the log's end, or at once a refusal
  pub check-log-is : check_log_packed P boxes kinds tasks hours
      ≡ on_option (packed_entry_fault P boxes kinds tasks hours) (replay (unpacked P) boxes (steps_in kinds tasks hours))
      (λ f. log_end 0 false boxes (Some f))
  unfolding check_log_packed packed_entry_fault check_log entry_fault
  check-log-is = over-tested _ P boxes _ _ _ refl

  pub check-holds : CheckedHolds (unpacked P) boxes (packed_entry_fault P boxes kinds tasks hours) (steps_in kinds tasks hours)
      (check_answer (check_log_packed P boxes kinds tasks hours))
      (check_log_packed P boxes kinds tasks hours).boxes
  unfolding packed_entry_fault
  check-holds =
      rw check-log-is
      (tested-holds (unpacked P) boxes _ _ (λ e. packed-sized P boxes (entry-input P boxes kinds tasks hours e)) (λ f e. memory-fault _ P boxes f e))

-- ---- the filter

steps-shift : (a b c : ℕ) (ks ts hs : List ℕ) (k n : ℕ) → steps_from (a ∷ ks) (b ∷ ts) (c ∷ hs) (k + 1) n ≡ steps_from ks ts hs k n
unfolding steps_from step_at
steps-shift a b c ks ts hs k zero = refl
steps-shift a b c ks ts hs k (suc n) = rw (steps-shift a b c ks ts hs (k + 1) n, add-one k)

-- the steps in the cells that a log was written to
pub steps-written : (log : List Step) (ks ts hs : List ℕ)
    → steps_from (map (λ x. x.kind) log ++ ks) (map (λ x. x.task) log ++ ts) (map (λ x. x.hour) log ++ hs) 0 (length log) ≡ log
unfolding steps_from step_at
steps-written [] ks ts hs = refl
steps-written (x ∷ xs) ks ts hs = ap (λ (l : List Step). x ∷ l) (steps-shift _ _ _ _ _ _ 0 (length xs) ∙ steps-written xs ks ts hs)

pub refused≢ending : {C : Type 0} (f : Fault) (e : Ending) (n : ℕ) → refused_by f ≡ ending_answer e n → C
unfolding ending_answer
refused≢ending f settled n q = absurd (let z : ◌≡◌ {A = ℕ} 0 1 = cc in omega arith)
refused≢ending f impossible n q = absurd (let z : ◌≡◌ {A = ℕ} 0 1 = cc in omega arith)
refused≢ending f no_room n q = absurd (let z : ◌≡◌ {A = ℕ} 0 1 = cc in omega arith)

pub same-ending : (d e : Ending) (m n : ℕ) → ending_answer d m ≡ ending_answer e n → (d ≡ e) × (m ≡ n)
unfolding ending_answer
same-ending settled settled m n q = (refl, cc)
same-ending settled impossible m n q = absurd (let z : ◌≡◌ {A = ℕ} 0 1 = cc in omega arith)
same-ending settled no_room m n q = absurd (let z : ◌≡◌ {A = ℕ} 0 1 = cc in omega arith)
same-ending impossible settled m n q = absurd (let z : ◌≡◌ {A = ℕ} 0 1 = cc in omega arith)
same-ending impossible impossible m n q = (refl, cc)
same-ending impossible no_room m n q = absurd (let z : ◌≡◌ {A = ℕ} 0 1 = cc in omega arith)
same-ending no_room settled m n q = absurd (let z : ◌≡◌ {A = ℕ} 0 1 = cc in omega arith)
same-ending no_room impossible m n q = absurd (let z : ◌≡◌ {A = ℕ} 0 1 = cc in omega arith)
same-ending no_room no_room m n q = (refl, cc)

module _ (P : Plan) (boxes : List ℕ) (check : List Step → LogEnd) (room : ℕ) (first : ℕ → List Step) where
  pub no-run-holds : (f : Fault) → FilterHolds P boxes check room (refused_by f) boxes first
  no-run-holds f =
      record {
        own = λ e n q. refused≢ending f e n q;
        fits = λ e n q. refused≢ending f e n q;
        short = λ e n q. refused≢ending f e n q;
        settles = λ n q. refused≢ending f settled n (unfold ending_answer in q);
        keeps = λ σ F. F.inside;
        no_schedule = λ n q. refused≢ending f impossible n (unfold ending_answer in q);
      }

  abbrev r : Run
  r = run P boxes room

  pub run_holds : length boxes ≡ 6 * task_count P → ((log : List Step) → check log ≡ replay P boxes log) → first (count r) ≡ r.log
      → FilterHolds P boxes check room (ending_answer r.ending (count r)) r.boxes first
  unfolding ending_answer
  run_holds size replays is-log =
      record {
        own = λ e n q.
            let s = same-ending r.ending e (count r) n q in
            rw (← s.0, ← s.1) (replays _ ∙ ap (replay P boxes) is-log ∙ run-replays P boxes room);
        fits = λ e n q. rw (← (same-ending r.ending e (count r) n q).1) (run_fits (next P) boxes room);
        short = λ e n q. rw (← (same-ending r.ending e (count r) n q).1) (run_short P boxes room size);
        settles = λ n q. next-none P r.boxes filter_order filter-complete (run-rests (next P) boxes room (same-ending r.ending settled (count r) n q).0);
        keeps = λ σ F. subst (λ (l : LogEnd). (i : ℕ) → i < task_count P → in_bounds (bounds_at l.boxes i) (σ i) ≡ true) (run-replays P boxes room)
            (replay-keeps P boxes r.log size σ F).inside;
        no_schedule = λ n q σ F.
            false≢true
            (sym (replay-possible P boxes r.log size σ F)
            ∙ ap (λ (l : LogEnd). l.impossible) (run-replays P boxes room)
            ∙ said (same-ending r.ending impossible (count r) n q).0);
      }
    where
      said : {e : Ending} → e ≡ impossible → said_impossible e ≡ true
      said e = unfold said_impossible in (rw e)

-- ---- a log that is given as a list of records

-- the three slices hold just these
pub records-in : (log : List Step) → steps_in (map (λ x. x.kind) log) (map (λ x. x.task) log) (map (λ x. x.hour) log) ≡ log
unfolding steps_in
records-in log =
    ap (steps_from (map (λ x. x.kind) log) (map (λ x. x.task) log) (map (λ x. x.hour) log) 0) (length-map log (λ x. x.kind))
    ∙ (λ i. steps_from (sym (append-nil (map (λ x. x.kind) log)) i) (sym (append-nil (map (λ x. x.task) log)) i)
    (sym (append-nil (map (λ x. x.hour) log)) i) 0 (length log))
    ∙ steps-written log [] [] []

-- and any three slices of one length are those of a list of records
pub slices-of : (kinds tasks hours : List ℕ) → length tasks ≡ length kinds → length hours ≡ length kinds
    → let log = steps_in kinds tasks hours in
    (map (λ x. x.kind) log ≡ kinds) × (map (λ x. x.task) log ≡ tasks) × (map (λ x. x.hour) log ≡ hours)
unfolding steps_in steps_from step_at
slices-of [] [] [] t h = (refl, refl, refl)
slices-of [] (b ∷ ts) hs t h = absurd (omega arith)
slices-of [] [] (c ∷ hs) t h = absurd (omega arith)
slices-of (a ∷ ks) [] hs t h = absurd (omega arith)
slices-of (a ∷ ks) (b ∷ ts) [] t h = absurd (omega arith)
slices-of (a ∷ ks) (b ∷ ts) (c ∷ hs) t h =
    let u : length ts ≡ length ks = omega arith in
    let i : length hs ≡ length ks = omega arith in
    let rest = slices-of ks ts hs u i in
    rw (steps-shift a b c ks ts hs 0 (length ks))
    (ap (λ (l : List ℕ). a ∷ l) rest.0, ap (λ (l : List ℕ). b ∷ l) rest.1, ap (λ (l : List ℕ). c ∷ l) rest.2)

module _ (P : Plan) (boxes : List ℕ) where
  -- they are of one length
  pub records-pass : input_fault P boxes ≡ None
      → (log : List Step) → entry_fault P boxes (map (λ x. x.kind) log) (map (λ x. x.task) log) (map (λ x. x.hour) log) ≡ None
  records-pass e log =
      let same = sym (length-map log (λ x. x.kind)) in
      same-fault P boxes _ _ _ (length-map log (λ x. x.task) ∙ same) (length-map log (λ x. x.hour) ∙ same) ∙ e

  pub records-replay : input_fault P boxes ≡ None → (log : List Step) → check_records P boxes log ≡ replay P boxes log
  unfolding check_records check_log on_option
  records-replay e log = rw (records-pass e log, records-in log)

module _ (P : PackedPlan) (boxes : List ℕ) (e : packed_input_fault P boxes ≡ None) where
  pub packed-records-pass : (log : List Step)
      → packed_entry_fault P boxes (map (λ x. x.kind) log) (map (λ x. x.task) log) (map (λ x. x.hour) log) ≡ None
  packed-records-pass log =
      let same = sym (length-map log (λ x. x.kind)) in
      packed-same-fault P boxes _ _ _ (length-map log (λ x. x.task) ∙ same) (length-map log (λ x. x.hour) ∙ same) ∙ e

  pub packed-records-replay : (log : List Step) → check_records_packed P boxes log ≡ replay (unpacked P) boxes log
  unfolding check_records_packed on_option
  packed-records-replay log = check-log-is P boxes _ _ _ ∙ rw (packed-records-pass log, records-in log) refl

module _ (P : PackedPlan) (boxes kinds tasks hours : List ℕ) where
  pub filter-is : filter_packed P boxes kinds tasks hours
      ≡ on_option (packed_entry_fault P boxes kinds tasks hours)
      (logged (run (unpacked P) boxes (length kinds)) kinds tasks hours)
      (λ f. filter_end (refused_by f) boxes kinds tasks hours)
  unfolding filter_packed packed_entry_fault filter_plan entry_fault
  filter-is = over-tested _ P boxes _ _ _ refl

  abbrev Holds : FilterEnd → Type 0
  Holds l = FilterHolds (unpacked P) boxes (check_records_packed P boxes) (length kinds) l.answer l.boxes (steps_from l.kinds l.tasks l.hours 0)

  pub filter-holds : Holds (filter_packed P boxes kinds tasks hours)
  unfolding logged written
  filter-holds =
      subst Holds (sym filter-is)
      (option-all Holds (packed_entry_fault P boxes kinds tasks hours) _ _
      (λ e. let passes = entry-input P boxes kinds tasks hours e in
      run_holds (unpacked P) boxes _ (length kinds) _ (packed-sized P boxes passes) (packed-records-replay P boxes passes)
      (steps-written (run (unpacked P) boxes (length kinds)).log _ _ _))
      (λ f e. no-run-holds (unpacked P) boxes _ (length kinds) _ f))
