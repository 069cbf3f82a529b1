-- The replay of a log (01, "Steps", the paragraphs on the log and its end).
use Rattle.std.specs.Prelude.{Bool, true, false, List, [], ◌∷◌, ◌≡◌, ℕ, ◌+◌}
use Rattle.std.specs.Prelude.{Option, None, Some}
use Rattle.plan.specs.Plan.{Plan}
use Rattle.plan.specs.declared.Fault.{Fault}
use Rattle.plan.specs.Refusals.{fault}
use Rattle.steps.specs.declared.Step.{Step}
use Rattle.steps.specs.Steps.{Judgement, moved, on_judgement, judge}
use Rattle.steps.specs.Steps as judged

-- The log's end: its first record that isn't admitted at its turn or that follows one which said impossible, or past its last step.
pub record LogEnd : Type 0 where
  -- the steps before it, and whether one of them said impossible
  pub steps : ℕ
  pub impossible : Bool
  -- the boxes that they left
  pub boxes : List ℕ
  -- the refusal of the record there, 13, 11 or 12; none where the log ends after its last step, and is accepted
  pub refusal : Option Fault

abbrev pub log_end : ℕ → Bool → List ℕ → Option Fault → LogEnd
log_end steps impossible boxes refusal = record { steps = steps; impossible = impossible; boxes = boxes; refusal = refusal }

-- For any judgement of a step at its turn: the end of a log from step number k on, from the boxes that the step before it left, and whether that
-- one said impossible.
module _ (judge_at : List ℕ → Step → Judgement) where
  unfoldable pub replay_by : ℕ → Bool → List ℕ → List Step → LogEnd
  replay_by k said boxes [] = log_end k said boxes None
  replay_by k true boxes (x ∷ xs) = log_end k true boxes (Some (fault 13 k))
  replay_by k false boxes (x ∷ xs) =
      on_judgement (judge_at boxes x)
      (log_end k false boxes (Some (fault 11 k)))
      (log_end k false boxes (Some (fault 12 k)))
      (replay_by (k + 1) true boxes xs)
      (λ left. replay_by (k + 1) false left xs)

  -- Each step is admitted at its turn and nothing follows one that says impossible: the first step meets the opening boxes, each later one the
  -- boxes that the step before it left (01, "Steps", the paragraph on the opening boxes and the log's end).
  pub data AdmittedBy : List ℕ → List Step → Type 0 where
    no_step : {boxes : List ℕ} → AdmittedBy boxes []
    last_step : {boxes : List ℕ} {x : Step} → judge_at boxes x ≡ judged.impossible → AdmittedBy boxes (x ∷ [])
    next_step : {boxes left : List ℕ} {x : Step} {xs : List Step} → judge_at boxes x ≡ moved left → AdmittedBy left xs → AdmittedBy boxes (x ∷ xs)

-- a plan's steps, judged as 01 says; and from the opening boxes
abbrev pub replay_from : Plan → ℕ → Bool → List ℕ → List Step → LogEnd
replay_from P = replay_by (judge P)

unfoldable pub replay : Plan → List ℕ → List Step → LogEnd
replay P boxes log = replay_from P 0 false boxes log

abbrev pub AllAdmitted : Plan → List ℕ → List Step → Type 0
AllAdmitted P = AdmittedBy (judge P)
