-- Laws of the log checker's loop: the end of a log from a step on, what holds at each turn, and what each case of a step makes of it. Assumes
-- nothing.
use Rattle.std.specs.Prelude.{Option}
use Rattle.calendar.specs.declared.Window.{Window}
use mathlib.Core.Path.{◌≡◌, refl, sym, ap, ◌∙◌}
use mathlib.Core.Bool.{Bool, true, false}
use Rattle.std.specs.Prelude.{None, Some}
use mathlib.Core.List.{List, [], ◌∷◌}
use Prim.Native.Nat.{ℕ, suc, ◌+◌, ◌-◌, ◌≤◌, ◌<◌}
use native.Mathlib.Nat.{add-zero}
use native.Mathlib.Omega.{arith}
use lib.ListN.{length, get_or, set}
use Rattle.units.specs.Limits.{most_tasks}
use Rattle.units.specs.declared.Bounds.{Bounds}
use Rattle.plan.specs.Plan.{Plan, task_count}
use Rattle.plan.specs.Boxes.{with_bounds}
use Rattle.plan.specs.declared.Fault.{Fault}
use Rattle.plan.specs.Refusals.{fault, Answer, refused, answered, answer_unless}
use Rattle.plan.specs.Passed.{Passed}
use Rattle.plan.proofs.Boxes.{length-with}
use Rattle.steps.specs.declared.Judged.{Judged}
use Rattle.steps.specs.declared.Judged.TheVariants.{Unknown, NotAdmitted, Impossible, Moved}
use Rattle.steps.specs.Load.{fit_at}
use Rattle.steps.specs.Steps.{judge, unknown, not_admitted, moved, on_judgement}
use Rattle.steps.specs.Steps as judged
use Rattle.steps.specs.Log.{LogEnd, log_end, replay_by, replay_from}
use Rattle.steps.specs.declared.Accepted.{Accepted}
use Rattle.steps.specs.Entry.{step_at, steps_from, steps_in, one_for_each_step, check_answer}
use Rattle.steps.proofs.Entry.{one_each}
use Rattle.turns.specs.Inner.Kept.{Keeping, judge_by}
use Rattle.turns.proofs.Keeping.{judges-unknown, judges-not, judges-impossible, judges-moved, moved-there}
use Rattle.propagation.specs.Inner.Fitting.{Fitting}
use Rattle.propagation.proofs.Keeping.{may-move, keeps-moved}

-- ---- the end of a log from a step on

module _ (kinds tasks hours : List ℕ) (k : ℕ) where
  steps_next : k < length kinds
      → steps_from kinds tasks hours k (length kinds - k)
      ≡ step_at kinds tasks hours k ∷ steps_from kinds tasks hours (k + 1) (length kinds - (k + 1))
  unfolding steps_from
  steps_next l =
      let e : length kinds - k ≡ suc (length kinds - (k + 1)) = omega arith in
      rw e

  steps-done : length kinds ≤ k → steps_from kinds tasks hours k (length kinds - k) ≡ []
  unfolding steps_from
  steps-done l =
      let e : length kinds - k ≡ 0 = omega arith in
      rw e

-- the end of a log whose first step has the number n, from its step k on
unfoldable pub end_from : Plan → ℕ → List ℕ → List ℕ → List ℕ → ℕ → Bool → List ℕ → LogEnd
end_from P n kinds tasks hours k said boxes = replay_from P (n + k) said boxes (steps_from kinds tasks hours k (length kinds - k))

pub end-opens : (P : Plan) (n : ℕ) (kinds tasks hours : List ℕ) (said : Bool) (boxes : List ℕ)
    → end_from P n kinds tasks hours 0 said boxes ≡ replay_from P n said boxes (steps_in kinds tasks hours)
unfolding end_from steps_in
end-opens P n kinds tasks hours said boxes =
    let e : length kinds - 0 ≡ length kinds = omega arith in
    rw (add-zero n, e)

module _ (P : Plan) (n : ℕ) (kinds tasks hours : List ℕ) (k : ℕ) (boxes : List ℕ) where
  pub end-done : (said : Bool) → length kinds ≤ k → end_from P n kinds tasks hours k said boxes ≡ log_end (n + k) said boxes None
  unfolding end_from replay_by
  end-done said l = rw (steps-done kinds tasks hours k l)

  module _ (l : k < length kinds) where
    next-number : n + k + 1 ≡ n + (k + 1)
    next-number = omega arith

    pub end-13 : end_from P n kinds tasks hours k true boxes ≡ log_end (n + k) true boxes (Some (fault 13 (n + k)))
    unfolding end_from replay_by
    end-13 = rw (steps_next kinds tasks hours k l)

    pub end-11 : judge P boxes (step_at kinds tasks hours k) ≡ unknown
        → end_from P n kinds tasks hours k false boxes ≡ log_end (n + k) false boxes (Some (fault 11 (n + k)))
    unfolding end_from replay_by on_judgement
    end-11 e = rw (steps_next kinds tasks hours k l, e)

    pub end-12 : judge P boxes (step_at kinds tasks hours k) ≡ not_admitted
        → end_from P n kinds tasks hours k false boxes ≡ log_end (n + k) false boxes (Some (fault 12 (n + k)))
    unfolding end_from replay_by on_judgement
    end-12 e = rw (steps_next kinds tasks hours k l, e)

    pub end-stops : judge P boxes (step_at kinds tasks hours k) ≡ judged.impossible
        → end_from P n kinds tasks hours k false boxes ≡ end_from P n kinds tasks hours (k + 1) true boxes
    unfolding end_from replay_by on_judgement
    end-stops e = rw (steps_next kinds tasks hours k l, e, next-number)

    pub end-moves : (left : List ℕ) → judge P boxes (step_at kinds tasks hours k) ≡ moved left
        → end_from P n kinds tasks hours k false boxes ≡ end_from P n kinds tasks hours (k + 1) false left
    unfolding end_from replay_by on_judgement
    end-moves left e = rw (steps_next kinds tasks hours k l, e, next-number)

-- what an end answers
pub answers-refused : (e : LogEnd) {k : ℕ} {said : Bool} {boxes : List ℕ} {f : Fault} → e ≡ log_end k said boxes (Some f)
    → refused f ≡ check_answer e
unfolding check_answer answer_unless
answers-refused e q = rw q

pub answers-accepted : (e : LogEnd) {k : ℕ} {said : Bool} {boxes : List ℕ} → e ≡ log_end k said boxes None
    → answered (record { steps = k; impossible = said }) ≡ check_answer e
unfolding check_answer answer_unless
answers-accepted e q = rw q

-- ---- each turn

-- What holds at each turn of the log checker: the end from here is the log's end.
pub record Replaying (P : Plan) (n : ℕ) (said₀ : Bool) (opening kinds tasks hours : List ℕ) (k : ℕ) (said : Bool) (boxes : List ℕ)
    (fits : List (Option Window)) :
    Type 0 where
  pub keeps : Keeping P boxes fits
  pub same : length boxes ≡ length opening
  pub ends : end_from P n kinds tasks hours k said boxes ≡ replay_from P n said₀ opening (steps_in kinds tasks hours)
  pub each_task : length tasks ≡ length kinds
  pub each_hour : length hours ≡ length kinds

-- What the log checker answers and leaves.
abbrev Replayed : Plan → ℕ → Bool → List ℕ → List ℕ → List ℕ → List ℕ → Answer Accepted → List ℕ → Type 0
Replayed P n said₀ opening kinds tasks hours answer left =
    (answer ≡ check_answer (replay_from P n said₀ opening (steps_in kinds tasks hours)))
    × (left ≡ (replay_from P n said₀ opening (steps_in kinds tasks hours)).boxes)

pub replay-opens : {P : Plan} {n : ℕ} {said₀ : Bool} {opening kinds tasks hours : List ℕ} {fits : List (Option Window)} → Passed P opening ×
    (one_for_each_step kinds tasks hours ≡ true)
    → ((i : ℕ) → i < task_count P → get_or fits i None ≡ fit_at P.shifts opening i) → length fits ≡ most_tasks
    → Replaying P n said₀ opening kinds tasks hours 0 said₀ opening fits
replay-opens {P} {n} {said₀} {opening} {kinds} {tasks} {hours} (p, e) q r =
    record {
      keeps = record { passed = p; kept = q; full = r };
      same = refl;
      ends = end-opens P n kinds tasks hours said₀ opening;
      each_task = (one_each kinds tasks hours e).0;
      each_hour = (one_each kinds tasks hours e).1;
    }

module _ {P : Plan} {n : ℕ} {said₀ : Bool} {opening kinds tasks hours : List ℕ} {k : ℕ} {said : Bool} {boxes : List ℕ} {fits : List (Option Window)}
    (at : Replaying P n said₀ opening kinds tasks hours k said boxes fits) where
  pub replay-done : k ≡ length kinds
      → Replayed P n said₀ opening kinds tasks hours (answered (record { steps = n + length kinds; impossible = said })) boxes
  replay-done l =
      let e = sym at.ends ∙ end-done P n kinds tasks hours k boxes said (omega arith) in
      rw (← l) ((answers-accepted _ e, sym (ap (λ (x : LogEnd). x.boxes) e)))

  pub replay-13 : k < length kinds → said ≡ true → Replayed P n said₀ opening kinds tasks hours (refused (fault 13 (n + k))) boxes
  replay-13 l s =
      let e = sym at.ends ∙ ap (λ (b : Bool). end_from P n kinds tasks hours k b boxes) s ∙ end-13 P n kinds tasks hours k boxes l in
      (answers-refused _ e, sym (ap (λ (x : LogEnd). x.boxes) e))

  module _ (l : k < length kinds) (s : said ≡ false) {r : Judged}
      (is : r ≡ judge_by P boxes fits (step_at kinds tasks hours k)) where
    going : end_from P n kinds tasks hours k false boxes ≡ replay_from P n said₀ opening (steps_in kinds tasks hours)
    going = ap (λ (b : Bool). end_from P n kinds tasks hours k b boxes) (sym s) ∙ at.ends

    pub replay-11 : r ≡ Unknown → Replayed P n said₀ opening kinds tasks hours (refused (fault 11 (n + k))) boxes
    replay-11 m =
        let e = sym going ∙ end-11 P n kinds tasks hours k boxes l (judges-unknown P boxes fits at.keeps _ r is m) in
        (answers-refused _ e, sym (ap (λ (x : LogEnd). x.boxes) e))

    pub replay-12 : r ≡ NotAdmitted → Replayed P n said₀ opening kinds tasks hours (refused (fault 12 (n + k))) boxes
    replay-12 m =
        let e = sym going ∙ end-12 P n kinds tasks hours k boxes l (judges-not P boxes fits at.keeps _ r is m) in
        (answers-refused _ e, sym (ap (λ (x : LogEnd). x.boxes) e))

    pub replay-stops : r ≡ Impossible → Replaying P n said₀ opening kinds tasks hours (k + 1) true boxes fits
    replay-stops m =
        record {
          keeps = at.keeps;
          same = at.same;
          ends = sym (end-stops P n kinds tasks hours k boxes l (judges-impossible P boxes fits at.keeps _ r is m)) ∙ going;
          each_task = at.each_task;
          each_hour = at.each_hour;
        }

    module _ {i : ℕ} {b : Bounds} (m : r ≡ Moved i b) where
      moves_so : judge P boxes (step_at kinds tasks hours k) ≡ moved (with_bounds boxes i b)
      moves_so = judges-moved P boxes fits at.keeps _ r is i b m

      there : i < task_count P
      there = moved-there P boxes fits at.keeps.passed.pair i b _ r is m

      pub replay-may-move : (i < most_tasks) × Fitting P.shifts (with_bounds boxes i b) i
      replay-may-move = may-move P boxes fits at.keeps _ i b moves_so there

      pub replay-moves : {boxes' : List ℕ} {fits' : List (Option Window)}
          → (boxes' ≡ with_bounds boxes i b) × (fits' ≡ set fits i (fit_at P.shifts boxes' i))
          → Replaying P n said₀ opening kinds tasks hours (k + 1) said boxes' fits'
      replay-moves {boxes'} {fits'} (e, f) =
          record {
            keeps = keeps-moved P boxes fits at.keeps _ i b moves_so there (e, f);
            same = ap length e ∙ length-with boxes i b ∙ at.same;
            ends =
                ap (λ (b : Bool). end_from P n kinds tasks hours (k + 1) b boxes') s
                ∙ sym (end-moves P n kinds tasks hours k boxes l boxes' (moves_so ∙ ap moved (sym e)))
                ∙ going;
            each_task = at.each_task;
            each_hour = at.each_hour;
          }
