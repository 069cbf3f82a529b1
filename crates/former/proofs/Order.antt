-- O before C changes a run only in that it may end impossible by an O, after no more steps, and a plan that settles keeps log, count and boxes (02,
-- W-207). Assumes nothing.
use mathlib.Core.Path.{◌≡◌, refl, sym, ap, ◌∙◌, subst}
use mathlib.Core.Logic.{◌⊎◌, inl, inr}
use Rattle.std.specs.Prelude.{Option, None, Some}
use mathlib.Core.List.{List, [], ◌∷◌}
use Prim.Native.Nat.{ℕ, zero, suc, ◌*◌, ◌≤◌, ◌<◌}
use native.Mathlib.Omega.{arith}
use lib.ListN.{length}
use Rattle.units.specs.Choice.{◌or_else◌}
use Rattle.units.proofs.Choices.{else-none, else-some, first-at, first-all-none}
use Rattle.plan.specs.Plan.{Plan, room_count, task_count}
use Rattle.steps.specs.declared.Step.{Step}
use Rattle.steps.specs.Steps.{step, letter_o, Kind, kind_c, kind_o}
use Rattle.steps.specs.Filter.{Admitted, stops, moves, if_admitted, first_of_kind, first_by, filter_order, next_by, next}
use Rattle.steps.specs.Filter.{Ending, settled, impossible, no_room, Run, count, ended, after, run_by, run}
use Rattle.steps.specs.Widths.{widths}
use Rattle.steps.proofs.Searches.{In, Complete, here, there, filter-complete}
use Rattle.steps.proofs.Runs.{run_settled, run-full, run-stops, run-moves}
use Rattle.narrowing.proofs.Ways.{overload-stops, no-overload-on-the-way, room-enough}
use Rattle.former.specs.Order.{former_order, former_run, EndsByOverload, OverloadFirst}

-- two kinds at the head of an order change places
swapped : {k a b : Kind} {ks : List Kind} → In k (a ∷ b ∷ ks) → In k (b ∷ a ∷ ks)
swapped here = there here
swapped (there here) = here
swapped (there (there p)) = there (there p)

former-complete : Complete former_order
unfolding former_order filter_order
former-complete k known = swapped (filter-complete k known)

-- ---- two choices of the step that stands next

module _ (f g : List ℕ → Option Admitted) where
  -- a relation of each run to itself, kept by one step more before both, holds of the two runs where both choose alike at these boxes and it holds of
  -- the rest
  module _ (R : Run → Run → Type 0) (same : (r : Run) → R r r) (more : (x : Step) (r s : Run) → R r s → R (after x r) (after x s)) (boxes : List ℕ)
      (agree : f boxes ≡ g boxes) where
    full-turn : R (run_by f boxes 0) (run_by g boxes 0)
    unfolding run_by
    full-turn = rw agree (same _)

    next-turn : (room : ℕ)
        → ((x : Step) (left : List ℕ) → g boxes ≡ Some (moves x left) → R (run_by f left room) (run_by g left room))
        → R (run_by f boxes (suc room)) (run_by g boxes (suc room))
    next-turn room rest = go (g boxes) refl
      where
        go : (o : Option Admitted) → g boxes ≡ o → R (run_by f boxes (suc room)) (run_by g boxes (suc room))
        go None e = rw (run_settled f boxes (suc room) (agree ∙ e), run_settled g boxes (suc room) e) (same _)
        go (Some (stops x)) e = rw (run-stops f boxes room x (agree ∙ e), run-stops g boxes room x e) (same _)
        go (Some (moves x left)) e =
            rw (run-moves f boxes room x left (agree ∙ e), run-moves g boxes room x left e) (more x (run_by f left room) (run_by g left room) (rest x left e))

  -- where they agree at all boxes on the way of g's run, the two runs are equal
  run-alike : (room : ℕ) (boxes : List ℕ) → ((n : ℕ) → f (run_by g boxes n).boxes ≡ g (run_by g boxes n).boxes)
      → run_by f boxes room ≡ run_by g boxes room
  unfolding run_by after
  run-alike zero boxes agree = full-turn ◌≡◌ (λ r. refl) (λ x r s e. ap (after x) e) boxes (agree 0)
  run-alike (suc room) boxes agree =
      next-turn ◌≡◌ (λ r. refl) (λ x r s e. ap (after x) e) boxes (agree 0) room
      (λ x left e. run-alike room left (λ n. subst (λ (r : Run). f r.boxes ≡ g r.boxes) (run-moves g boxes n x left e) (agree (suc n))))

-- ---- one turn

abbrev former_at : Plan → List ℕ → Option Admitted
former_at P = next_by former_order P

-- the O of a room and an hour, which says impossible
abbrev overload_at : ℕ → ℕ → Admitted
overload_at room t = stops (step letter_o room t)

module _ (P : Plan) (boxes : List ℕ) where
  abbrev First : Kind → Option Admitted
  First = first_of_kind P (if_admitted P boxes)

  -- where no O is admitted, the same step stands next
  same-next : First kind_o ≡ None → next P boxes ≡ former_at P boxes
  unfolding next_by first_by filter_order former_order
  same-next e = else-none _ _ e ∙ sym (ap (◌or_else◌ (First kind_c)) (else-none _ _ e))

  none-first : ((room t : ℕ) → if_admitted P boxes (step letter_o room t) ≡ None) → next P boxes ≡ former_at P boxes
  unfolding first_of_kind
  none-first none = same-next (first-all-none _ (room_count P) (λ room l. first-all-none _ P.shifts.hours (λ t m. none room t)))

  -- the same step stands next; or an O does, which says impossible, where some step stands next in the former order too
  data Turn : Type 0 where
    alike : next P boxes ≡ former_at P boxes → Turn
    overload : (room t : ℕ) → next P boxes ≡ Some (overload_at room t) → (a : Admitted) → former_at P boxes ≡ Some a → Turn

  -- the former order's step is the first C, or that O
  former-found : (c : Option Admitted) (a : Admitted) → First kind_c ≡ c → First kind_o ≡ Some a → (b : Admitted) × (former_at P boxes ≡ Some b)
  unfolding next_by first_by former_order
  former-found None a q e = (a, else-none _ _ q ∙ else-some _ _ a e)
  former-found (Some c) a q e = (c, else-some _ _ c q)

  now-found : (room t : ℕ) (a : Admitted) → First kind_o ≡ Some a → a ≡ overload_at room t → next P boxes ≡ Some (overload_at room t)
  unfolding next_by first_by filter_order
  now-found room t a e q = else-some _ _ a e ∙ ap Some q

  overload-found : (a : Admitted) → First kind_o ≡ Some a → Turn
  unfolding first_of_kind
  overload-found a e =
      let (room, l, f) = first-at _ (room_count P) a e in
      let (t, m, g) = first-at _ P.shifts.hours a f in
      let (b, q) = former-found (First kind_c) a refl e in
      overload room t (now-found room t a e (overload-stops P boxes room t a g)) b q

  turn : Turn
  turn = go (First kind_o) refl
    where
      go : (o : Option Admitted) → First kind_o ≡ o → Turn
      go None e = alike (same-next e)
      go (Some a) e = overload-found a e

-- ---- the two runs

abbrev Either : Run → Run → Type 0
Either now former = (now ≡ former) ⊎ EndsByOverload now former

-- a step more before both
either-after : (x : Step) (now former : Run) → Either now former → Either (after x now) (after x former)
unfolding after
either-after x now former (inl e) = inl (ap (after x) e)
either-after x now former (inr s) =
    inr
    (record {
      ends = s.ends;
      first = x ∷ s.first;
      room = s.room;
      hour = s.hour;
      log = ap (◌∷◌ x) s.log;
      rest = s.rest;
      former_log = ap (◌∷◌ x) s.former_log;
      counted = omega (arith, s.counted);
    })

-- an O alone, beside a run that has a step
overload-alone : (room hour : ℕ) (boxes : List ℕ) (former : Run) → 1 ≤ count former
    → EndsByOverload (ended impossible (step letter_o room hour ∷ []) boxes) former
overload-alone room hour boxes former l =
    record { ends = refl; first = []; room = room; hour = hour; log = refl; rest = former.log; former_log = refl; counted = l }

some-step : (next_at : List ℕ → Option Admitted) (boxes : List ℕ) (room : ℕ) (a : Admitted) → next_at boxes ≡ Some a
    → 1 ≤ count (run_by next_at boxes (suc room))
unfolding after
some-step next_at boxes room (stops x) e = rw (run-stops next_at boxes room x e) (omega arith)
some-step next_at boxes room (moves x left) e = rw (run-moves next_at boxes room x left e) (omega arith)

module _ (P : Plan) where
  either : (room : ℕ) (boxes : List ℕ) → Either (run P boxes room) (former_run P boxes room)
  either zero boxes = go (turn P boxes)
    where
      go : Turn P boxes → Either (run P boxes 0) (former_run P boxes 0)
      go (alike e) = full-turn (next P) (former_at P) Either (λ r. inl refl) either-after boxes e
      go (overload r t e a f) = inl (run-full (next P) boxes _ e ∙ sym (run-full (former_at P) boxes a f))
  either (suc room) boxes = go (either room) (turn P boxes)
    where
      go : ((left : List ℕ) → Either (run P left room) (former_run P left room)) → Turn P boxes
          → Either (run P boxes (suc room)) (former_run P boxes (suc room))
      go below (alike e) = next-turn (next P) (former_at P) Either (λ r. inl refl) either-after boxes e room (λ x left q. below left)
      go below (overload r t e a f) =
          inr (rw (run-stops (next P) boxes room _ e) (overload-alone r t boxes (former_run P boxes (suc room)) (some-step (former_at P) boxes room a f)))

  module _ (boxes : List ℕ) (sized : length boxes ≡ 6 * task_count P) where
    settles : (room m : ℕ) → (former_run P boxes m).ending ≡ settled → run P boxes room ≡ former_run P boxes room
    settles room m q =
        run-alike (next P) (former_at P) room boxes
        (λ n. none-first P (former_run P boxes n).boxes (no-overload-on-the-way P former_order former-complete boxes sized m q n))

    pub overload-first : (room : ℕ) → OverloadFirst P boxes room
    overload-first room =
        record {
          either = either room boxes;
          settles = settles room;
          differs = λ other m l. go other m l (former_run P boxes m).ending refl;
        }
      where
        go : (run P boxes room ≡ former_run P boxes room → ⊥) → (m : ℕ) → widths P boxes < m → (e : Ending)
            → (former_run P boxes m).ending ≡ e → (former_run P boxes m).ending ≡ impossible
        go other m l settled q = absurd (other (settles room m q))
        go other m l impossible q = q
        go other m l no_room q = absurd (omega (arith, l, room-enough P former_order m boxes sized q))
