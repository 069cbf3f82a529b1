-- Laws of a run (Filter), for any choice of the step that stands next: one turn, the replay of its own log, its count, how it ends, and that it goes
-- on; then for the filter. Assumes nothing.
use mathlib.Core.Path.{◌≡◌, refl, ap, ◌∙◌}
use mathlib.Core.Bool.{false}
use Rattle.std.specs.Prelude.{Option, None, Some}
use mathlib.Core.List.{List, [], ◌∷◌, ◌++◌}
use Prim.Native.Nat.{ℕ, zero, suc, ◌+◌, ◌*◌, ◌≤◌}
use native.Mathlib.Nat.{zero-add, suc-add}
use native.Mathlib.Omega.{arith}
use lib.ListN.{length}
use Rattle.units.specs.Choice.{on_option}
use Rattle.plan.specs.Plan.{Plan, task_count}
use Rattle.steps.specs.declared.Step.{Step}
use Rattle.steps.specs.Steps.{Judgement, moved, on_judgement, judge}
use Rattle.steps.specs.Steps as judged
use Rattle.steps.specs.Log.{LogEnd, log_end, replay_by, replay}
use Rattle.steps.specs.Filter.{Admitted, stops, moves, on_admitted, filter_order, Ending}
use Rattle.steps.specs.Filter.{settled, impossible, no_room, Run, count, ended, after, run_by}
use Rattle.steps.specs.Filter.{run}
use Rattle.steps.specs.Claim.{said_impossible}
use Rattle.steps.specs.Widths.{widths}
use Rattle.steps.proofs.Replays.{accepted-admitted, admitted-short}
use Rattle.steps.proofs.Searches.{Rightly, next-rightly}

-- the steps of a log, and then a run
abbrev pub resumed : List Step → Run → Run
resumed log r = ended r.ending (log ++ r.log) r.boxes

module _ (next_at : List ℕ → Option Admitted) where
  -- ---- one turn

  module _ (boxes : List ℕ) where
    pub run_settled : (room : ℕ) → next_at boxes ≡ None → run_by next_at boxes room ≡ ended settled [] boxes
    unfolding run_by on_option
    run_settled zero e = rw e
    run_settled (suc room) e = rw e

    pub run-full : (a : Admitted) → next_at boxes ≡ Some a → run_by next_at boxes 0 ≡ ended no_room [] boxes
    unfolding run_by on_option
    run-full a e = rw e

    pub run-stops : (room : ℕ) (x : Step) → next_at boxes ≡ Some (stops x) → run_by next_at boxes (suc room) ≡ ended impossible (x ∷ []) boxes
    unfolding run_by on_option on_admitted
    run-stops room x e = rw e

    pub run-moves : (room : ℕ) (x : Step) (left : List ℕ) → next_at boxes ≡ Some (moves x left)
        → run_by next_at boxes (suc room) ≡ after x (run_by next_at left room)
    unfolding run_by on_option on_admitted
    run-moves room x left e = rw e

  -- a fact of every run, from the fact of each turn
  module _ (C : List ℕ → ℕ → Run → Type 0)
      (rest : (boxes : List ℕ) (room : ℕ) → next_at boxes ≡ None → C boxes room (ended settled [] boxes))
      (full : (boxes : List ℕ) → C boxes 0 (ended no_room [] boxes))
      (stop : (boxes : List ℕ) (room : ℕ) (x : Step) → next_at boxes ≡ Some (stops x) → C boxes (suc room) (ended impossible (x ∷ []) boxes))
      (move : (boxes left : List ℕ) (room : ℕ) (x : Step) (r : Run) → next_at boxes ≡ Some (moves x left) → C left room r
      → C boxes (suc room) (after x r)) where
    pub run-all : (room : ℕ) (boxes : List ℕ) → C boxes room (run_by next_at boxes room)
    run-all zero boxes = go (next_at boxes) refl
      where
        go : (o : Option Admitted) → next_at boxes ≡ o → C boxes 0 (run_by next_at boxes 0)
        go None e = rw (run_settled boxes 0 e) (rest boxes 0 e)
        go (Some a) e = rw (run-full boxes a e) (full boxes)
    run-all (suc room) boxes = go (λ left. run-all room left) (next_at boxes) refl
      where
        go : ((left : List ℕ) → C left room (run_by next_at left room)) → (o : Option Admitted) → next_at boxes ≡ o
            → C boxes (suc room) (run_by next_at boxes (suc room))
        go below None e = rw (run_settled boxes (suc room) e) (rest boxes (suc room) e)
        go below (Some (stops x)) e = rw (run-stops boxes room x e) (stop boxes room x e)
        go below (Some (moves x left)) e = rw (run-moves boxes room x left e) (move boxes left room x (run_by next_at left room) e (below left))

  module _ (boxes : List ℕ) (room : ℕ) where
    pub run_fits : count (run_by next_at boxes room) ≤ room
    unfolding after
    run_fits =
        run-all (λ boxes room r. count r ≤ room)
        (λ boxes room e. omega arith)
        (λ boxes. omega arith)
        (λ boxes room x e. omega arith)
        (λ boxes left room x r e h. omega arith)
        room
        boxes

    pub run-rests : (run_by next_at boxes room).ending ≡ settled → next_at (run_by next_at boxes room).boxes ≡ None
    unfolding after
    run-rests =
        run-all (λ boxes room r. r.ending ≡ settled → next_at r.boxes ≡ None)
        (λ boxes room e q. e)
        (λ boxes q. absurd (let z : ◌≡◌ {A = ℕ} 0 1 = cc in omega arith))
        (λ boxes room x e q. absurd (let z : ◌≡◌ {A = ℕ} 0 1 = cc in omega arith))
        (λ boxes left room x r e h q. h q)
        room
        boxes

  -- a run that stopped for room, called again on its boxes, goes on as if there had been more
  pub run-resumes : (boxes : List ℕ) (a b : ℕ) → (run_by next_at boxes a).ending ≡ no_room
      → run_by next_at boxes (a + b) ≡ resumed (run_by next_at boxes a).log (run_by next_at (run_by next_at boxes a).boxes b)
  unfolding after
  run-resumes boxes a b =
      run-all (λ boxes a r. r.ending ≡ no_room → run_by next_at boxes (a + b) ≡ resumed r.log (run_by next_at r.boxes b))
      (λ boxes a e q. absurd (let z : ◌≡◌ {A = ℕ} 0 1 = cc in omega arith))
      (λ boxes q. ap (run_by next_at boxes) (zero-add b))
      (λ boxes a x e q. absurd (let z : ◌≡◌ {A = ℕ} 0 1 = cc in omega arith))
      (λ boxes left a x r e h q. rw (suc-add a b, run-moves boxes (a + b) x left e) (ap (after x) (h q)))
      a
      boxes

-- ---- its own log replays, where the step that stands next is judged as it says

-- as steps k, k + 1, ..
pub Replays : (List ℕ → Step → Judgement) → List ℕ → ℕ → Run → Type 0
Replays judge_at boxes room r =
    (k : ℕ) → replay_by judge_at k false boxes r.log ≡ log_end (k + count r) (said_impossible r.ending) r.boxes None

module _ (judge_at : List ℕ → Step → Judgement) where
  no_step_lem : (boxes : List ℕ) (room : ℕ) (end : Ending) → said_impossible end ≡ false → Replays judge_at boxes room (ended end [] boxes)
  unfolding Replays replay_by
  no_step_lem boxes room end q k = let z : k ≡ k + 0 = omega arith in cc

  one-step : (boxes : List ℕ) (room : ℕ) (x : Step) → judge_at boxes x ≡ judged.impossible
      → Replays judge_at boxes room (ended impossible (x ∷ []) boxes)
  unfolding Replays replay_by on_judgement said_impossible
  one-step boxes room x e k = rw e

  more-steps : (boxes left : List ℕ) (room : ℕ) (x : Step) (r : Run) → judge_at boxes x ≡ moved left → Replays judge_at left room r
      → Replays judge_at boxes (suc room) (after x r)
  unfolding Replays replay_by on_judgement after
  more-steps boxes left room x r e h k =
      rw e (h (k + 1) ∙ ap (λ (n : ℕ). log_end n (said_impossible r.ending) r.boxes None) (omega arith))

  module _ (next_at : List ℕ → Option Admitted)
      (stopping : (boxes : List ℕ) (x : Step) → next_at boxes ≡ Some (stops x) → judge_at boxes x ≡ judged.impossible)
      (moving : (boxes left : List ℕ) (x : Step) → next_at boxes ≡ Some (moves x left) → judge_at boxes x ≡ moved left) where
    pub replays-from : (room : ℕ) (boxes : List ℕ) → Replays judge_at boxes room (run_by next_at boxes room)
    unfolding said_impossible
    replays-from =
        run-all next_at (Replays judge_at)
        (λ boxes room e. no_step_lem boxes room settled refl)
        (λ boxes. no_step_lem boxes 0 no_room refl)
        (λ boxes room x e. one-step boxes (suc room) x (stopping boxes x e))
        (λ boxes left room x r e h. more-steps boxes left room x r (moving boxes left x e) h)

-- ---- for the filter

module _ (P : Plan) (boxes : List ℕ) (room : ℕ) where
  pub run-replays : replay P boxes (run P boxes room).log
      ≡ log_end (count (run P boxes room)) (said_impossible (run P boxes room).ending) (run P boxes room).boxes None
  unfolding Replays replay Rightly
  run-replays =
      replays-from (judge P) _
      (λ boxes x. next-rightly P boxes filter_order (stops x))
      (λ boxes left x. next-rightly P boxes filter_order (moves x left))
      room
      boxes
      0
      ∙ ap (λ (n : ℕ). log_end n (said_impossible (run P boxes room).ending) (run P boxes room).boxes None) (omega arith)

  pub run_short : length boxes ≡ 6 * task_count P → count (run P boxes room) ≤ 1 + widths P boxes
  run_short sized = admitted-short P (accepted-admitted P boxes (run P boxes room).log (ap (λ (e : LogEnd). e.refusal) run-replays)) sized
