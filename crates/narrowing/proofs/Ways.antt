-- The way of a run: the boxes that it leaves with more room for the log lie inside those that it leaves with less, and on the way of a run that
-- settles no O is admitted (02, W-207). Assumes nothing.
use mathlib.Core.Path.{◌≡◌, refl, sym, ap, ◌∙◌, subst}
use Rattle.std.specs.Prelude.{Option, None, Some}
use mathlib.Core.List.{List}
use Prim.Native.Nat.{ℕ, ◌+◌, ◌*◌, ◌≤◌, ◌<◌}
use native.Mathlib.Nat.{zero-add, suc-add}
use native.Mathlib.Omega.{arith}
use lib.ListN.{length}
use borrow.Author.Tests.{lt-ltb}
use Rattle.std.proofs.lemmas.Option.{same_Some}
use Rattle.units.proofs.Choices.{None≢Some}
use Rattle.plan.specs.Plan.{Plan, room_count, task_count}
use Rattle.calendar.specs.declared.Window.{Window}
use Rattle.steps.specs.declared.Step.{Step}
use Rattle.steps.specs.Load.{fit_at}
use Rattle.steps.specs.Steps.{step, letter_c, letter_o, Kind, kind_c, kind_o, kind_of, is_step, Judgement, unknown, not_admitted, moved, on_judgement, on_fit}
use Rattle.steps.specs.Steps.{judge_c, judge_o, judge_kind, judge}
use Rattle.steps.specs.Steps as judged
use Rattle.steps.specs.Filter.{Admitted, stops, moves, if_admitted, next_by, settled, no_room, Run, after, run_by}
use Rattle.steps.specs.Widths.{widths}
use Rattle.steps.proofs.Judgements.{judgement-all, Moves, Stops, stops_c, stops_o, judged-moved, judged-impossible}
use Rattle.steps.proofs.Changes.{judge-change, change-length, change-widths}
use Rattle.steps.proofs.Searches.{Complete, Rightly, next-rightly, next-none}
use Rattle.steps.proofs.Runs.{run_settled, run-stops, run-moves, run-all, run-rests}
use Rattle.narrowing.specs.Inside.{Inside, AllFit}
use Rattle.narrowing.proofs.Inside.{inside-refl, inside-trans, load-more, moved-inside}

-- ---- what stops at C or at O (Judgements) makes the step say impossible

module _ (P : Plan) (boxes : List ℕ) where
  C-impossible : (i : ℕ) → Stops P boxes i 0 kind_c → judge P boxes (step letter_c i 0) ≡ judged.impossible
  unfolding judge kind_of is_step judge_kind judge_c on_fit
  C-impossible i (stops_c l e) = rw (lt-ltb i (task_count P) l, e) refl

  O-impossible : (room t : ℕ) → Stops P boxes room t kind_o → judge P boxes (step letter_o room t) ≡ judged.impossible
  unfolding judge kind_of is_step judge_kind judge_o
  O-impossible room t (stops_o l m over) = rw (lt-ltb room (room_count P) l, lt-ltb t P.shifts.hours m, lt-ltb _ _ over) refl

  -- a step that says impossible is admitted
  stops-admitted : (x : Step) → judge P boxes x ≡ judged.impossible → if_admitted P boxes x ≡ None → ⊥
  unfolding if_admitted on_judgement
  stops-admitted x e none = None≢Some (sym (rw e at none))

  -- a fact of an O, admitted or not, from the fact of each case: none moves a bound
  overload-all : (room t : ℕ) (C : Option Admitted → Type 0) → C None → (Stops P boxes room t kind_o → C (Some (stops (step letter_o room t))))
      → C (if_admitted P boxes (step letter_o room t))
  unfolding if_admitted kind_of
  overload-all room t C none stopped =
      judgement-all C (judge P boxes (step letter_o room t)) _ _ _ _ (λ e. none) (λ e. none) (λ e. stopped (judged-impossible P boxes _ e))
      (λ left e. never left (judged-moved P boxes _ left e))
    where
      never : (left : List ℕ) → Moves P boxes room t left kind_o → C (Some (moves (step letter_o room t) left))
      never left m = elim m [ ]

  -- an O that is admitted says impossible
  pub overload-stops : (room t : ℕ) (a : Admitted) → if_admitted P boxes (step letter_o room t) ≡ Some a → a ≡ stops (step letter_o room t)
  overload-stops room t a =
      overload-all room t (λ o. o ≡ Some a → a ≡ stops (step letter_o room t)) (λ e. None≢Some e) (λ s e. sym (same_Some _ _ e))

-- ---- where no step is admitted, no O is admitted at larger boxes either

module _ (P : Plan) (small large : List ℕ) (inside : Inside P small large) (none : (x : Step) → if_admitted P small x ≡ None) where
  -- no C is admitted, so each task has a valid triple
  all-fit : AllFit P small
  all-fit = record { window = λ i l. go i l (fit_at P.shifts small i) refl }
    where
      go : (i : ℕ) → i < task_count P → (f : Option Window) → fit_at P.shifts small i ≡ f → (w : Window) × (fit_at P.shifts small i ≡ Some w)
      go i l None e = absurd (stops-admitted P small (step letter_c i 0) (C-impossible P small i (stops_c l e)) (none (step letter_c i 0)))
      go i l (Some w) e = (w, e)

  -- no O is admitted, so no load exceeds its capacity, nor does one at larger boxes
  never-over : {room t : ℕ} → Stops P large room t kind_o → Stops P small room t kind_o
  never-over {room} {t} (stops_o l m over) = stops_o l m (omega (arith, over, load-more P small large inside all-fit room t))

  no-overload : (room t : ℕ) → if_admitted P large (step letter_o room t) ≡ None
  no-overload room t =
      overload-all P large room t (λ o. o ≡ None) refl
      (λ s. absurd (stops-admitted P small (step letter_o room t) (O-impossible P small room t (never-over s)) (none (step letter_o room t))))

-- ---- a run that settles is the same with more room

settled-stays : (next_at : List ℕ → Option Admitted) (boxes : List ℕ) (a b : ℕ) → (run_by next_at boxes a).ending ≡ settled
    → run_by next_at boxes (a + b) ≡ run_by next_at boxes a
unfolding after
settled-stays next_at boxes a b =
    run-all next_at (λ boxes a r. r.ending ≡ settled → run_by next_at boxes (a + b) ≡ r)
    (λ boxes a e q. run_settled next_at boxes (a + b) e)
    (λ boxes q. absurd (let z : ◌≡◌ {A = ℕ} 0 1 = cc in omega arith))
    (λ boxes a x e q. absurd (let z : ◌≡◌ {A = ℕ} 0 1 = cc in omega arith))
    (λ boxes left a x r e h q. rw (suc-add a b, run-moves next_at boxes (a + b) x left e) (ap (after x) (h q)))
    a
    boxes

-- ---- the filter in any order of kinds, where there is a box for each task

module _ (P : Plan) (order : List Kind) where
  abbrev Sized : List ℕ → Type 0
  Sized boxes = length boxes ≡ 6 * task_count P

  abbrev run_in_order : List ℕ → ℕ → Run
  run_in_order = run_by (next_by order P)

  -- a step that moves a bound leaves a box for each task
  moved-sized : (boxes left : List ℕ) (x : Step) → Sized boxes → next_by order P boxes ≡ Some (moves x left) → Sized left
  unfolding Rightly
  moved-sized boxes left x sized e = change-length P boxes left (judge-change P boxes sized x left (next-rightly P boxes order (moves x left) e)) ∙ sized

  next-inside : (boxes left : List ℕ) (x : Step) → Sized boxes → next_by order P boxes ≡ Some (moves x left) → Inside P left boxes
  unfolding Rightly
  next-inside boxes left x sized e = moved-inside P boxes sized x left (next-rightly P boxes order (moves x left) e)

  -- the boxes that a run leaves lie inside those that it met
  run-inside : (room : ℕ) (boxes : List ℕ) → Sized boxes → Inside P (run_in_order boxes room).boxes boxes
  unfolding after
  run-inside =
      run-all (next_by order P) (λ boxes room r. Sized boxes → Inside P r.boxes boxes)
      (λ boxes room e s. inside-refl P boxes)
      (λ boxes s. inside-refl P boxes)
      (λ boxes room x e s. inside-refl P boxes)
      (λ boxes left room x r e h s. inside-trans P (h (moved-sized boxes left x s e)) (next-inside boxes left x s e))

  -- with more room, inside those that it leaves with less
  further-inside : (b a : ℕ) (boxes : List ℕ) → Sized boxes → Inside P (run_in_order boxes (a + b)).boxes (run_in_order boxes a).boxes
  unfolding after
  further-inside b =
      run-all (next_by order P) (λ boxes a r. Sized boxes → Inside P (run_in_order boxes (a + b)).boxes r.boxes)
      (λ boxes a e s. rw (run_settled (next_by order P) boxes (a + b) e) (inside-refl P boxes))
      (λ boxes s. rw (zero-add b) (run-inside b boxes s))
      (λ boxes a x e s. rw (suc-add a b, run-stops (next_by order P) boxes (a + b) x e) (inside-refl P boxes))
      (λ boxes left a x r e h s. rw (suc-add a b, run-moves (next_by order P) boxes (a + b) x left e) (h (moved-sized boxes left x s e)))

  -- O is never admitted on the way of a run that settles: if it settles with some room m, no O is admitted at the boxes that it leaves with any room n
  pub no-overload-on-the-way : Complete order → (boxes : List ℕ) → Sized boxes → (m : ℕ) → (run_in_order boxes m).ending ≡ settled
      → (n room t : ℕ) → if_admitted P (run_in_order boxes n).boxes (step letter_o room t) ≡ None
  no-overload-on-the-way all boxes sized m q n =
      no-overload P (run_in_order boxes m).boxes (run_in_order boxes n).boxes
      (subst (λ (r : Run). Inside P r.boxes (run_in_order boxes n).boxes)
      (ap (run_in_order boxes) (omega arith) ∙ settled-stays (next_by order P) boxes m n q)
      (further-inside m n boxes sized))
      (next-none P (run_in_order boxes m).boxes order all (run-rests (next_by order P) boxes m q))

  -- room for one step more than the boxes are wide is enough
  pub room-enough : (room : ℕ) (boxes : List ℕ) → Sized boxes → (run_in_order boxes room).ending ≡ no_room → room ≤ widths P boxes
  unfolding after Rightly
  room-enough =
      run-all (next_by order P) (λ boxes room r. Sized boxes → r.ending ≡ no_room → room ≤ widths P boxes)
      (λ boxes room e s q. absurd (let z : ◌≡◌ {A = ℕ} 0 1 = cc in omega arith))
      (λ boxes s q. omega arith)
      (λ boxes room x e s q. absurd (let z : ◌≡◌ {A = ℕ} 0 1 = cc in omega arith))
      (λ boxes left room x r e h s q.
      omega (
        arith,
        h (moved-sized boxes left x s e) q,
        change-widths P boxes left (judge-change P boxes s x left (next-rightly P boxes order (moves x left) e)) s,
      ))
