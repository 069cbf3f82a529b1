-- Laws of the replay of a log in parts: a log and then another, step numbers from another number on, and how far a log goes. Assumes nothing.
use mathlib.Core.Path.{◌≡◌, refl, sym}
use mathlib.Core.Bool.{Bool, true, false}
use Rattle.std.specs.Prelude.{None, Some}
use mathlib.Core.List.{List, [], ◌∷◌, ◌++◌}
use Prim.Native.Nat.{ℕ, suc, ◌+◌, ◌≤◌}
use native.Mathlib.Omega.{arith}
use lib.ListN.{length}
use Rattle.units.specs.Choice.{on_option}
use Rattle.units.proofs.Choices.{None≢Some}
use Rattle.plan.specs.Plan.{Plan}
use Rattle.plan.specs.declared.Fault.{Fault}
use Rattle.plan.specs.Refusals.{fault}
use Rattle.steps.specs.declared.Step.{Step}
use Rattle.steps.specs.Steps.{judge, Judgement, unknown, not_admitted, impossible, moved, on_judgement}
use Rattle.steps.specs.Log.{LogEnd, log_end, replay_by, replay_from}
use Rattle.steps.proofs.Judgements.{judgement-all}

module _ (P : Plan) where
  -- ---- a log, and then another: the second goes on where the first is accepted

  unfoldable pub gone_on : LogEnd → List Step → LogEnd
  gone_on e ys = on_option e.refusal (replay_from P e.steps e.impossible e.boxes ys) (λ f. e)

  on-each : (ys : List Step) (J : Judgement) (u n i i' : LogEnd) (m m' : List ℕ → LogEnd) → u ≡ gone_on u ys → n ≡ gone_on n ys
      → i' ≡ gone_on i ys
      → ((left : List ℕ) → m' left ≡ gone_on (m left) ys) → on_judgement J u n i' m' ≡ gone_on (on_judgement J u n i m) ys
  unfolding on_judgement
  on-each ys unknown u n i i' m m' p q r s = p
  on-each ys not_admitted u n i i' m m' p q r s = q
  on-each ys impossible u n i i' m m' p q r s = r
  on-each ys (moved left) u n i i' m m' p q r s = s left

  pub replay-append : (k : ℕ) (said : Bool) (boxes : List ℕ) (xs ys : List Step)
      → replay_from P k said boxes (xs ++ ys) ≡ gone_on (replay_from P k said boxes xs) ys
  unfolding replay_by gone_on on_option
  replay-append k said boxes [] ys = refl
  replay-append k true boxes (x ∷ xs) ys = refl
  replay-append k false boxes (x ∷ xs) ys =
      on-each ys (judge P boxes x) _ _ _ _ _ _ refl refl (replay-append (k + 1) true boxes xs ys) (λ left. replay-append (k + 1) false left xs ys)

  module _ (e : LogEnd) (ys : List Step) where
    pub goes_on : e.refusal ≡ None → gone_on e ys ≡ replay_from P e.steps e.impossible e.boxes ys
    unfolding gone_on on_option
    goes_on q = rw q

    pub ends_there : (f : Fault) → e.refusal ≡ Some f → gone_on e ys ≡ e
    unfolding gone_on on_option
    ends_there f q = rw q

  -- ---- how far it goes

  -- an end of n steps from step k on
  pub record Reaches (k n : ℕ) (e : LogEnd) : Type 0 where
    pub most : e.steps ≤ k + n
    pub all : e.refusal ≡ None → e.steps ≡ k + n
    -- a refusal is of the step at the end: 11, 12 or 13
    pub at_end : (f : Fault) → e.refusal ≡ Some f → (11 ≤ f.number) × (f.number ≤ 13) × (f.place ≡ e.steps)

  refused-there : (k n : ℕ) (said : Bool) (boxes : List ℕ) (number : ℕ) → 11 ≤ number → number ≤ 13
      → Reaches k n (log_end k said boxes (Some (fault number k)))
  refused-there k n said boxes number l m =
      record {
        most = omega arith;
        all = λ e. None≢Some (sym e);
        at_end = λ f e. let q : fault number k ≡ f = cc in
            (rw (← q) l, rw (← q) m, rw (← q) refl);
      }

  one-before : (k n : ℕ) (e : LogEnd) → Reaches (k + 1) n e → Reaches k (suc n) e
  one-before k n e r = record { most = omega (arith, r.most); all = λ q. omega (arith, r.all q); at_end = r.at_end }

  pub replay-reaches : (k : ℕ) (said : Bool) (boxes : List ℕ) (xs : List Step) → Reaches k (length xs) (replay_from P k said boxes xs)
  unfolding replay_by
  replay-reaches k said boxes [] = record { most = omega arith; all = λ e. omega arith; at_end = λ f e. None≢Some e }
  replay-reaches k true boxes (x ∷ xs) = refused-there k _ true boxes 13 (omega arith) (omega arith)
  replay-reaches k false boxes (x ∷ xs) =
      judgement-all (Reaches k (length (x ∷ xs))) (judge P boxes x) _ _ _ _
      (λ q. refused-there k _ false boxes 11 (omega arith) (omega arith))
      (λ q. refused-there k _ false boxes 12 (omega arith) (omega arith))
      (λ q. one-before k (length xs) _ (replay-reaches (k + 1) true boxes xs))
      (λ left q. one-before k (length xs) _ (replay-reaches (k + 1) false left xs))
