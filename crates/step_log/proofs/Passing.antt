-- A plan that passes the tests passes them again with the boxes that the steps of a log leave. Assumes nothing.
use mathlib.Core.Path.{◌≡◌, ◌∙◌}
use mathlib.Core.Bool.{Bool, true, false}
use Rattle.std.specs.Prelude.{None}
use mathlib.Core.List.{List, [], ◌∷◌}
use Prim.Native.Nat.{ℕ, ◌+◌}
use Rattle.units.proofs.Choices.{else-none, neither}
use Rattle.plan.specs.Plan.{Plan}
use Rattle.plan.specs.Faults.{input_fault}
use Rattle.plan.specs.Over.{PackedPlan, unpacked, packed_plan_fault, memory_fault}
use Rattle.plan.proofs.Passed.{input-passed, input-again}
use Rattle.steps.specs.declared.Step.{Step}
use Rattle.steps.specs.Steps.{judge}
use Rattle.steps.specs.Log.{LogEnd, replay_by, replay_from}
use Rattle.steps.specs.Entry.{packed_input_fault}
use Rattle.steps.proofs.Contracts.{input-letters}
use Rattle.steps.proofs.Judgements.{judgement-all}
use Rattle.steps.proofs.Changes.{judge-change, change-length, change-passes}

-- with the boxes at the end of any log; of letters
module _ (P : Plan) where
  abbrev Passes : LogEnd → Type 0
  Passes e = input_fault P e.boxes ≡ None

  letters-pass : (k : ℕ) (said : Bool) (boxes : List ℕ) (log : List Step) → input_fault P boxes ≡ None → Passes (replay_from P k said boxes log)
  unfolding replay_by
  letters-pass k said boxes [] e = e
  letters-pass k true boxes (x ∷ xs) e = e
  letters-pass k false boxes (x ∷ xs) e =
      judgement-all Passes (judge P boxes x) _ _ _ _
      (λ q. e)
      (λ q. e)
      (λ q. letters-pass (k + 1) true boxes xs e)
      (λ left q.
      let c = judge-change P boxes (input-passed P boxes e).boxes x left q in
      letters-pass (k + 1) false left xs
      (input-again P boxes left (change-passes P boxes left c (input-passed P boxes e)) (change-length P boxes left c) e))

-- and in memory: the bytes are tested without the boxes
module _ (P : PackedPlan) where
  bytes-pass : (boxes others : List ℕ) → packed_input_fault P boxes ≡ None → input_fault (unpacked P) others ≡ None
      → packed_input_fault P others ≡ None
  unfolding packed_input_fault memory_fault packed_plan_fault input_fault
  bytes-pass boxes others e f =
      let (size, plan) = neither _ _ f in
      else-none _ _ size ∙ else-none _ _ (neither _ _ (neither _ _ e).1).0 ∙ plan

  pub replay-passes : (k : ℕ) (said : Bool) (boxes : List ℕ) (log : List Step) → packed_input_fault P boxes ≡ None
      → packed_input_fault P (replay_from (unpacked P) k said boxes log).boxes ≡ None
  replay-passes k said boxes log e = bytes-pass boxes _ e (letters-pass (unpacked P) k said boxes log (input-letters P boxes e))
