-- Laws of the replay of a log, from anyone (Log): for any judgement of steps what it accepts, what its end keeps, and how long it can be; then for a
-- plan's steps. Assumes nothing.
use mathlib.Core.Path.{◌≡◌, refl, sym, ◌∙◌}
use mathlib.Core.Bool.{true, false}
use Rattle.std.specs.Prelude.{None}
use mathlib.Core.List.{List, [], ◌∷◌}
use Prim.Native.Nat.{ℕ, ◌+◌, ◌*◌, ◌≤◌}
use native.Mathlib.Omega.{arith}
use lib.ListN.{length}
use Rattle.units.proofs.Choices.{None≢Some}
use Rattle.plan.specs.Plan.{Plan, task_count}
use Rattle.calendar.specs.declared.Triple.{Triple}
use Rattle.schedule.specs.Schedule.{Feasible}
use Rattle.steps.specs.declared.Step.{Step}
use Rattle.steps.specs.Steps.{Judgement, impossible, moved, on_judgement, judge}
use Rattle.steps.specs.Log.{LogEnd, replay_by, replay, AdmittedBy, AllAdmitted, no_step, last_step, next_step}
use Rattle.steps.specs.Widths.{widths}
use Rattle.steps.proofs.Judgements.{judgement-all}
use Rattle.steps.proofs.Changes.{judge-change, judge-impossible, change-length, change-keeps, change-widths}

-- ---- for any judgement of steps

module _ (judge_at : List ℕ → Step → Judgement) where
  -- accepted exactly when each step is admitted at its turn and nothing follows one that says impossible
  alone-last : (k : ℕ) (boxes : List ℕ) (x : Step) (xs : List Step) → judge_at boxes x ≡ impossible
      → (replay_by judge_at k true boxes xs).refusal ≡ None → AdmittedBy judge_at boxes (x ∷ xs)
  unfolding replay_by
  alone-last k boxes x [] e q = last_step e
  alone-last k boxes x (y ∷ ys) e q = None≢Some (sym q)

  pub accepted-from : (k : ℕ) (boxes : List ℕ) (log : List Step) → (replay_by judge_at k false boxes log).refusal ≡ None
      → AdmittedBy judge_at boxes log
  unfolding replay_by
  accepted-from k boxes [] = λ q. no_step
  accepted-from k boxes (x ∷ xs) =
      judgement-all (λ (e : LogEnd). e.refusal ≡ None → AdmittedBy judge_at boxes (x ∷ xs)) (judge_at boxes x) _ _ _ _
      (λ e q. None≢Some (sym q))
      (λ e q. None≢Some (sym q))
      (λ e q. alone-last (k + 1) boxes x xs e q)
      (λ left e q. next_step e (accepted-from (k + 1) left xs q))

  -- accepted, with all its steps counted
  pub admitted-from : {boxes : List ℕ} {log : List Step} → AdmittedBy judge_at boxes log → (k : ℕ)
      → ((replay_by judge_at k false boxes log).refusal ≡ None) × ((replay_by judge_at k false boxes log).steps ≡ k + length log)
  unfolding replay_by on_judgement
  admitted-from no_step k = (refl, omega arith)
  admitted-from (last_step e) k = rw e (refl, refl)
  admitted-from (next_step e a) k = let (r, n) = admitted-from a (k + 1) in rw e (r, omega arith)

  module _ (C : List ℕ → Type 0) (move : (boxes left : List ℕ) (x : Step) → C boxes → judge_at boxes x ≡ moved left → C left) where
    -- what every step that moves keeps, and with which none says impossible, holds of the boxes at the log's end, and no step before it said so
    abbrev Kept : LogEnd → Type 0
    Kept e = C e.boxes × (e.impossible ≡ false)

    pub kept_from : ((boxes : List ℕ) (x : Step) → C boxes → judge_at boxes x ≡ impossible → ⊥) → (k : ℕ) (boxes : List ℕ) (log : List Step)
        → C boxes → Kept (replay_by judge_at k false boxes log)
    unfolding replay_by
    kept_from stop k boxes [] c = (c, refl)
    kept_from stop k boxes (x ∷ xs) c =
        judgement-all Kept (judge_at boxes x) _ _ _ _
        (λ e. (c, refl))
        (λ e. (c, refl))
        (λ e. absurd (stop boxes x c e))
        (λ left e. kept_from stop (k + 1) left xs (move boxes left x c e))

    -- a measure that each step which moves lowers bounds the steps but the last
    pub admitted-few : (measure : List ℕ → ℕ)
        → ((boxes left : List ℕ) (x : Step) → C boxes → judge_at boxes x ≡ moved left → measure left + 1 ≤ measure boxes)
        → {boxes : List ℕ} {log : List Step} → AdmittedBy judge_at boxes log → C boxes → length log ≤ 1 + measure boxes
    admitted-few measure less no_step c = omega arith
    admitted-few measure less (last_step e) c = omega arith
    admitted-few measure less (next_step {boxes} {left} {x} e a) c =
        omega (arith, admitted-few measure less a (move boxes left x c e), less boxes left x c e)

-- ---- for a plan's steps, where there is a box for each task

module _ (P : Plan) where
  abbrev Sized : List ℕ → Type 0
  Sized boxes = length boxes ≡ 6 * task_count P

  size-kept : (boxes left : List ℕ) (x : Step) → Sized boxes → judge P boxes x ≡ moved left → Sized left
  size-kept boxes left x sized e = change-length P boxes left (judge-change P boxes sized x left e) ∙ sized

  module _ (boxes : List ℕ) (log : List Step) where
    pub accepted-admitted : (replay P boxes log).refusal ≡ None → AllAdmitted P boxes log
    unfolding replay
    accepted-admitted q = accepted-from (judge P) 0 boxes log q

    pub admitted-accepted : AllAdmitted P boxes log → (replay P boxes log).refusal ≡ None
    unfolding replay
    admitted-accepted a = (admitted-from (judge P) a 0).0

    pub accepted-steps : (replay P boxes log).refusal ≡ None → (replay P boxes log).steps ≡ length log
    unfolding replay
    accepted-steps q = (admitted-from (judge P) (accepted-admitted q) 0).1 ∙ omega arith

    -- a feasible schedule stays feasible, and no step says impossible
    module _ (sized : Sized boxes) (σ : ℕ → Triple) (F : Feasible P boxes σ) where
      keeps : (Sized (replay P boxes log).boxes × Feasible P (replay P boxes log).boxes σ) × ((replay P boxes log).impossible ≡ false)
      unfolding replay
      keeps =
          kept_from (judge P) (λ boxes. Sized boxes × Feasible P boxes σ)
          (λ boxes left x (s, f) e. (size-kept boxes left x s e, change-keeps P boxes left (judge-change P boxes s x left e) s σ f))
          (λ boxes x (s, f) e. judge-impossible P boxes s x e σ f)
          0
          boxes
          log
          (sized, F)

      pub replay-keeps : Feasible P (replay P boxes log).boxes σ
      replay-keeps = keeps.0.1

      pub replay-possible : (replay P boxes log).impossible ≡ false
      replay-possible = keeps.1

  -- each step but the last takes something off the widths
  pub admitted-short : {boxes : List ℕ} {log : List Step} → AllAdmitted P boxes log → Sized boxes → length log ≤ 1 + widths P boxes
  admitted-short a sized =
      admitted-few (judge P) Sized size-kept (widths P) (λ boxes left x s e. change-widths P boxes left (judge-change P boxes s x left e) s) a sized
