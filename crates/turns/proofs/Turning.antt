-- Laws of a turn: the step that the code finds and judges is the step that stands next, with what it comes to. Assumes nothing.
use Rattle.std.proofs.lemmas.Option.{same_Some}
use Rattle.calendar.specs.declared.Window.{Window}
use mathlib.Core.Path.{◌≡◌, sym, ap, ap₂, ◌∙◌}
use Rattle.std.specs.Prelude.{Option, None, Some}
use mathlib.Core.List.{List}
use Prim.Native.Nat.{ℕ}
use native.Mathlib.Omega.{arith}
use Rattle.units.specs.Choice.{on_option}
use Rattle.units.proofs.Choices.{option-case, None≢Some}
use Rattle.plan.specs.Plan.{Plan}
use Rattle.plan.specs.Boxes.{with_bounds}
use Rattle.steps.specs.declared.Step.{Step}
use Rattle.steps.specs.declared.Judged.{Judged}
use Rattle.steps.specs.declared.Judged.TheVariants.{Unknown, NotAdmitted, Impossible, Moved}
use Rattle.steps.specs.Steps.{impossible, moved, judge}
use Rattle.steps.specs.Filter.{Admitted, stops, moves, step_of, first_by, filter_order, next}
use Rattle.steps.proofs.Searches.{Rightly, next-rightly}
use Rattle.turns.specs.declared.turn.Turn.{Turn}
use Rattle.turns.specs.Inner.Kept.{Keeping, turn, on_judged, judge_by, admitted_by, judgement_of, admitted_of}
use Rattle.turns.proofs.Keeping.{next-kept, judges}

-- what the code makes of a step that is judged to be admitted: the step that stands next
stops-is : (boxes : List ℕ) (x y : Step) (r : Judged) → judgement_of boxes r ≡ impossible → x ≡ y → admitted_of boxes x r ≡ stops y
unfolding judgement_of admitted_of on_judged
stops-is boxes x y Unknown e s = absurd (let z : ◌≡◌ {A = ℕ} 0 1 = cc in omega arith)
stops-is boxes x y NotAdmitted e s = absurd (let z : ◌≡◌ {A = ℕ} 0 1 = cc in omega arith)
stops-is boxes x y Impossible e s = ap stops s
stops-is boxes x y (Moved i b) e s = absurd (let z : ◌≡◌ {A = ℕ} 0 1 = cc in omega arith)

moves-is : (boxes left : List ℕ) (x y : Step) (r : Judged) → judgement_of boxes r ≡ moved left → x ≡ y → admitted_of boxes x r ≡ moves y left
unfolding judgement_of admitted_of on_judged
moves-is boxes left x y Unknown e s = absurd (let z : ◌≡◌ {A = ℕ} 0 1 = cc in omega arith)
moves-is boxes left x y NotAdmitted e s = absurd (let z : ◌≡◌ {A = ℕ} 0 1 = cc in omega arith)
moves-is boxes left x y Impossible e s = absurd (let z : ◌≡◌ {A = ℕ} 0 1 = cc in omega arith)
moves-is boxes left x y (Moved i b) e s = let z : with_bounds boxes i b ≡ left = cc in ap₂ moves s z

module _ (P : Plan) (boxes : List ℕ) (fits : List (Option Window)) (k : Keeping P boxes fits) (r : Option Step)
    (is :
    r
    ≡ first_by P (admitted_by P boxes fits)
    filter_order) where
  finds : r ≡ on_option (next P boxes) None (λ a. Some (step_of a))
  finds = is ∙ next-kept P boxes fits k filter_order

  pub turn-settles : r ≡ None → None ≡ next P boxes
  turn-settles e = option-case _ _ _ _ (sym finds ∙ e) (λ q b. sym q) (λ a q b. None≢Some (sym b))

  pub turn-found : (x : Step) (j : Judged) → r ≡ Some x → j ≡ judge_by P boxes fits x
      → Some (admitted_of boxes x j) ≡ next P boxes
  unfolding Rightly
  turn-found x j found js =
      option-case _ _ _ _ (sym finds ∙ found) (λ q b. None≢Some b)
      (λ a q b. let s : step_of a ≡ x = cc in ap Some (go a s (next-rightly P boxes filter_order a q)) ∙ sym q)
    where
      go : (a : Admitted) → step_of a ≡ x → Rightly P boxes a → admitted_of boxes x j ≡ a
      go (stops y) s right = stops-is boxes x y j (judges P boxes fits k x j js ∙ ap (judge P boxes) (sym s) ∙ right) (sym s)
      go (moves y left) s right = moves-is boxes left x y j (judges P boxes fits k x j js ∙ ap (judge P boxes) (sym s) ∙ right) (sym s)

-- what a turn comes to
pub judged-of : {x y : Step} {j k : Judged} → Some (turn x j) ≡ Some (turn y k) → j ≡ k
judged-of e = ap (λ (t : Turn). t.judged) (same_Some _ _ e)
