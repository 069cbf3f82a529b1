-- The schedule checker accepts exactly the feasible schedules, with the makespan, and answers over packed calendars as over their letters. Assumes
-- nothing.
use mathlib.Core.Path.{◌≡◌, refl, sym, ap, ◌∙◌}
use mathlib.Core.Bool.{Bool}
use Rattle.std.specs.Prelude.{Option, None, Some}
use mathlib.Core.List.{List}
use Prim.Native.Nat.{ℕ}
use native.Mathlib.Omega.{arith}
use Rattle.units.specs.Choice.{◌and◌, ◌or_else◌, on_option}
use Rattle.units.proofs.Choices.{else-none, else-through, neither}
use Rattle.plan.specs.Plan.{Plan, task_count}
use Rattle.plan.specs.declared.Fault.{Fault}
use Rattle.plan.specs.Refusals.{unless, Answer, refused, answered, answer_unless}
use Rattle.plan.specs.Faults.{is_right_size, plan_fault}
use Rattle.plan.specs.Over.{PackedPlan, unpacked, memory_fault, packed_of, SameOverLetters}
use Rattle.plan.proofs.Refusals.{go_on, unless-none}
use Rattle.schedule.specs.Schedule.{triple_at, Feasible, makespan}
use Rattle.schedule.specs.Entry.{is_sized, is_right_memory, schedule_fault, check_fault, check_schedule, check_packed}
use Rattle.schedule.specs.Inner.Memory.{packed_check_fault}
use Rattle.schedule.specs.Decision.{Decides}
use Rattle.plan.proofs.Over.{over-tested, same-over}
use Rattle.schedule.proofs.Readiness.{InputPasses}
use Rattle.schedule.proofs.Feasibility.{faultless-feasible, feasible-faultless}

-- an answer means that there is no fault
answered-faultless : {A : Type 0} (o : Option Fault) (a m : A) → answer_unless o a ≡ answered m → (o ≡ None) × (m ≡ a)
unfolding answer_unless
answered-faultless None a m e = (refl, cc)
answered-faultless (Some f) a m e = absurd (let z : ◌≡◌ {A = ℕ} 0 1 = cc in omega arith)

faultless-answered : {A : Type 0} (o : Option Fault) (a m : A) → o ≡ None → m ≡ a → answer_unless o a ≡ answered m
unfolding answer_unless
faultless-answered o a m e q = rw (e, q)

-- of two faults the first refuses
by-first : {A : Type 0} (o p : Option Fault) (a : A) → answer_unless (o or_else p) a ≡ on_option o (answer_unless p a) refused
unfolding answer_unless ◌or_else◌ on_option
by-first None p a = refl
by-first (Some f) p a = refl

-- over letters: past the plan's tests those of the schedule decide
by-letters : (Q : Plan) (boxes schedule : List ℕ) (sized : Bool) → sized ≡ (is_right_size Q boxes and is_sized (task_count Q) schedule)
    → check_schedule Q boxes schedule
    ≡ on_option (unless sized 31 0 or_else plan_fault Q boxes)
    (answer_unless (schedule_fault Q boxes (triple_at schedule)) (makespan Q (triple_at schedule)))
    refused
unfolding check_schedule check_fault
by-letters Q boxes schedule sized e =
    let tests = schedule_fault Q boxes (triple_at schedule) in
    rw e
    (ap (λ o. answer_unless o (makespan Q (triple_at schedule))) (sym (else-through _ (plan_fault Q boxes) tests))
    ∙ by-first _ tests (makespan Q (triple_at schedule)))

-- what is answered over packed calendars is what is answered over their letters
pub same-schedule : (P : PackedPlan) (boxes schedule : List ℕ) {answer : Answer ℕ} → answer ≡ check_packed P boxes schedule
    → SameOverLetters P answer (λ Q. check_schedule Q boxes schedule)
unfolding check_packed packed_of
same-schedule P boxes schedule e Q lettered is =
    e
    ∙ ap (λ (p : PackedPlan). check_packed p boxes schedule) is
    ∙ same-over Q lettered _ boxes refused (λ R. check_schedule R boxes schedule) _ (by-letters Q boxes schedule _ refl)

module _ (P : PackedPlan) (boxes schedule : List ℕ) where
  abbrev Q : Plan
  Q = unpacked P

  abbrev sized : Bool
  sized = is_right_memory P boxes schedule

  -- what it means that there is no fault
  pub record Faultless : Type 0 where
    pub input : InputPasses P boxes schedule
    pub feasible : Feasible Q boxes (triple_at schedule)

  pub faultless : packed_check_fault P boxes schedule ≡ None → Faultless
  unfolding packed_check_fault memory_fault
  faultless e =
      let (plan, tests) = neither _ _ e in
      let (one, passes) = neither _ _ plan in
      record { input = record { size = unless-none _ 31 0 one; passes = passes }; feasible = faultless-feasible Q boxes _ tests }

  no-fault : Faultless → packed_check_fault P boxes schedule ≡ None
  unfolding packed_check_fault memory_fault
  no-fault f = else-none _ _ (go_on _ 31 0 _ f.input.size ∙ f.input.passes) ∙ feasible-faultless Q boxes _ f.feasible

  -- ---- the answer, by what the tests find

  check-is : check_packed P boxes schedule ≡ answer_unless (packed_check_fault P boxes schedule) (makespan Q (triple_at schedule))
  unfolding check_packed packed_check_fault
  check-is =
      over-tested sized P boxes refused _ _ (by-letters Q boxes schedule sized refl)
      ∙ sym (by-first (memory_fault sized P boxes) (schedule_fault Q boxes (triple_at schedule)) (makespan Q (triple_at schedule)))

  pub accepts : packed_check_fault P boxes schedule ≡ None → check_packed P boxes schedule ≡ answered (makespan Q (triple_at schedule))
  accepts e = check-is ∙ faultless-answered _ _ _ e refl

  pub refuses : (f : Fault) → packed_check_fault P boxes schedule ≡ Some f → check_packed P boxes schedule ≡ refused f
  unfolding answer_unless
  refuses f e = check-is ∙ rw e refl

  decides : Decides P boxes schedule (check_packed P boxes schedule)
  decides =
      record {
        exactly =
            λ size passes m. (
              λ e. let q = answered-faultless _ _ m (sym check-is ∙ e) in ((faultless q.0).feasible, q.1),
              λ f. check-is ∙ faultless-answered _ _ m (no-fault (record { input = record { size = size; passes = passes }; feasible = f.0 })) f.1,
            );
        accepted = λ m e. let f = faultless (answered-faultless _ _ m (sym check-is ∙ e)).0 in (f.input.size, f.input.passes);
      }

  pub decides-as : (answer : Answer ℕ) → answer ≡ check_packed P boxes schedule → Decides P boxes schedule answer
  decides-as answer e = rw e decides
