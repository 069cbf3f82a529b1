-- Laws of boxes inside boxes: inclusion, the calendar rule, load and excess on smaller boxes, and that a step that moves a bound leaves smaller boxes.
-- Assumes nothing.
use Rattle.std.specs.Prelude.{Option, None, Some}
use mathlib.Core.Path.{◌≡◌, refl, sym, ◌∙◌}
use mathlib.Core.Bool.{Bool, true, false, not}
use mathlib.Core.List.{List}
use Prim.Native.Nat.{ℕ, ◌+◌, ◌*◌, ◌≤◌, ◌<◌}
use native.Mathlib.Omega.{arith}
use lib.Dec.{leb, eqb}
use lib.ListN.{length}
use borrow.Author.Tests.{leb-true, ltb-true, le-leb, lt-ltb, eqb-true, eqb-false}
use Rattle.units.specs.Limits.{with_earliest, with_latest}
use Rattle.units.specs.declared.Bounds.{Bounds}
use Rattle.units.proofs.Choices.{and_both, and_left, and_right, None≢Some, some_at, some-hit}
use Rattle.units.proofs.Extremes.{Attained}
use Rattle.plan.specs.Plan.{Plan, room_count, task_count, capacity_of, height_of, heights_where}
use Rattle.plan.specs.Boxes.{bounds_at, with_bounds}
use Rattle.plan.proofs.Boxes.{bounds-same, bounds-other}
use Rattle.calendar.specs.declared.Triple.{Triple}
use Rattle.calendar.specs.declared.Window.{Window}
use Rattle.calendar.specs.Triples.{valid_triples}
use Rattle.calendar.specs.Rule.{rule_of, lst, ect}
use Rattle.calendar.proofs.Triples.{InBounds, Held, Narrower, only-valid, never-valid, valid-never, rule-held, rule-tight, rule-narrower}
use Rattle.steps.specs.declared.Step.{Step}
use Rattle.steps.specs.Load.{fit_at, must_run, load, others_load, room_excess, excess}
use Rattle.steps.specs.Steps.{Kind, moved, judge}
use Rattle.steps.proofs.Loads.{where-le, fit-there}
use Rattle.steps.proofs.Judgements.{Moves, moves_c, moves_l, moves_u, moves_f, moves_b, judged-moved}
use Rattle.narrowing.specs.Inside.{BoundsInside, Inside, AllFit}

-- ---- inclusion of one task's boxes

bounds-refl : (a : Bounds) → BoundsInside a a
bounds-refl a =
    record { earliest = omega arith; latest = omega arith; shortest = omega arith; longest = omega arith; fewest = omega arith; most = omega arith }

bounds-trans : {a b c : Bounds} → BoundsInside a b → BoundsInside b c → BoundsInside a c
bounds-trans s t =
    record { earliest = omega arith; latest = omega arith; shortest = omega arith; longest = omega arith; fewest = omega arith; most = omega arith }

-- a triple of the smaller box lies in the larger
in-larger : {a b : Bounds} {x : Triple} → BoundsInside a b → InBounds a x → InBounds b x
in-larger s h =
    record { earliest = omega arith; latest = omega arith; shortest = omega arith; longest = omega arith; fewest = omega arith; most = omega arith }

-- narrower bounds are inside
narrower-inside : {a b : Bounds} → Narrower a b → BoundsInside a b
narrower-inside n =
    record { earliest = n.earliest; latest = n.latest; shortest = n.shortest; longest = n.longest; fewest = n.fewest; most = n.most }

-- and so are those with a later lower S, and those with an earlier upper S
module _ (b : Bounds) (t : ℕ) where
  later-inside : b.earliest.0 ≤ t → BoundsInside (with_earliest b t) b
  unfolding with_earliest
  later-inside l =
      record { earliest = l; latest = omega arith; shortest = omega arith; longest = omega arith; fewest = omega arith; most = omega arith }

  earlier-inside : t ≤ b.latest.0 → BoundsInside (with_latest b t) b
  unfolding with_latest
  earlier-inside l =
      record { earliest = omega arith; latest = l; shortest = omega arith; longest = omega arith; fewest = omega arith; most = omega arith }

-- ---- inclusion of all tasks' boxes

module _ (P : Plan) where
  pub inside-refl : (a : List ℕ) → Inside P a a
  inside-refl a = record { at = λ i l. bounds-refl (bounds_at a i) }

  pub inside-trans : {a b c : List ℕ} → Inside P a b → Inside P b c → Inside P a c
  inside-trans s t = record { at = λ i l. bounds-trans (s.at i l) (t.at i l) }

-- ---- the calendar rule on a smaller box

-- the window of fewer triples: its bounds inside the other's, its ect no earlier
pub record Tighter (small large : Window) : Type 0 where
  pub bounds : BoundsInside small.bounds large.bounds
  pub ect : ect large ≤ ect small

module _ (cal : List ℕ) (p : ℕ) (a b : Bounds) (inside : BoundsInside a b) where
  -- no valid triple in the larger box, none in the smaller
  pub rule-never : rule_of cal p b ≡ None → rule_of cal p a ≡ None
  rule-never e = valid-never cal p a (λ t h v. never-valid cal p b e t (in-larger inside h) v)

  module _ (w : Window) (q : rule_of cal p b ≡ Some w) where
    -- a valid triple of the smaller box is bounded by the window of the larger
    held : {key : Triple → ℕ} {k : ℕ} (c : Attained key (valid_triples cal p a) k) → Held w c.witness
    held c = let (h, valid) = only-valid cal p a c.witness c.member in rule-held cal p b w q c.witness (in-larger inside h) valid

    tighter : (v : Window) → rule_of cal p a ≡ Some v → Tighter v w
    tighter v e =
        let t = rule-tight cal p a v e in
        record {
          bounds =
              record {
                earliest = omega (arith, held t.earliest, t.earliest.value);
                latest = omega (arith, held t.latest, t.latest.value);
                shortest = omega (arith, held t.shortest, t.shortest.value);
                longest = omega (arith, held t.longest, t.longest.value);
                fewest = omega (arith, held t.fewest, t.fewest.value);
                most = omega (arith, held t.most, t.most.value);
              };
          ect = omega (arith, held t.ect, t.ect.value);
        }

  -- where the smaller box has a valid triple, so has the larger, and the smaller one's window is the tighter
  pub rule-tighter : (v : Window) → rule_of cal p a ≡ Some v → (w : Window) × (rule_of cal p b ≡ Some w) × Tighter v w
  rule-tighter v e = go (rule_of cal p b) refl
    where
      go : (f : Option Window) → rule_of cal p b ≡ f → (w : Window) × (rule_of cal p b ≡ Some w) × Tighter v w
      go None q = None≢Some (sym (rule-never q) ∙ e)
      go (Some w) q = (w, q, tighter w q v e)

-- a task that must run in an hour by the window of the larger box must run then by the tighter one too
must-tighter : (v w : Window) (t : ℕ) → Tighter v w → must_run (Some w) t ≡ true → must_run (Some v) t ≡ true
unfolding must_run
must-tighter v w t k e =
    let from : lst w ≤ t = leb-true _ _ (and_left _ _ e) in
    let to : t < ect w = ltb-true _ _ (and_right (leb (lst w) t) _ e) in
    and_both _ _ (le-leb (lst v) t (omega arith)) (lt-ltb t (ect v) (omega arith))

-- ---- load and excess on smaller boxes, where each task still has a valid triple

module _ (P : Plan) (small large : List ℕ) (inside : Inside P small large) where
  pub fit-tighter : (i : ℕ) → i < task_count P → (v : Window) → fit_at P.shifts small i ≡ Some v
      → (w : Window) × (fit_at P.shifts large i ≡ Some w) × Tighter v w
  unfolding fit_at
  fit-tighter i l v e = rule-tighter _ _ (bounds_at small i) (bounds_at large i) (inside.at i l) v e

  module _ (fit : AllFit P small) where
    must-more : (t j : ℕ) → j < task_count P → must_run (fit_at P.shifts large j) t ≡ true → must_run (fit_at P.shifts small j) t ≡ true
    must-more t j l e =
        let (v, a) = fit.window j l in
        let (w, b, k) = fit-tighter j l v a in
        rw a (must-tighter v w t k (rw b at e))

    pub load-more : (room t : ℕ) → load P room large t ≤ load P room small t
    unfolding load heights_where
    load-more room t = where-le (height_of P room) (task_count P) _ _ (must-more t)

    pub others-more : (room i t : ℕ) → others_load P room large i t ≤ others_load P room small i t
    unfolding others_load heights_where
    others-more room i t =
        where-le (height_of P room) (task_count P) _ _
        (λ j l e. and_both _ _ (and_left (not (eqb j i)) _ e) (must-more t j l (and_right (not (eqb j i)) _ e)))

    room-more : (room i t : ℕ) → room_excess P room large i t ≡ true → room_excess P room small i t ≡ true
    unfolding room_excess
    room-more room i t e =
        let over : capacity_of P room < height_of P room i + others_load P room large i t = ltb-true _ _ e in
        lt-ltb (capacity_of P room) (height_of P room i + others_load P room small i t) (omega (arith, others-more room i t))

    pub excess-more : (i t : ℕ) → excess P large i t ≡ true → excess P small i t ≡ true
    unfolding excess
    excess-more i t e =
        let (room, there, over) = some_at _ _ e in
        some-hit _ (room_count P) room there (room-more room i t over)

-- ---- where there is a box for each task, one of them becomes smaller

module _ (P : Plan) (boxes : List ℕ) (sized : length boxes ≡ 6 * task_count P) where
  -- the boxes lie inside those before
  with-smaller : (i : ℕ) (b : Bounds) → i < task_count P → BoundsInside b (bounds_at boxes i) → Inside P (with_bounds boxes i b) boxes
  with-smaller i b there s = record { at = λ j l. go j (eqb j i) refl }
    where
      here : bounds_at (with_bounds boxes i b) i ≡ b
      here = bounds-same boxes i b (omega arith)

      go : (j : ℕ) (q : Bool) → eqb j i ≡ q → BoundsInside (bounds_at (with_bounds boxes i b) j) (bounds_at boxes j)
      go j true e = let q : j ≡ i = eqb-true _ _ e in rw (q, here) s
      go j false e = rw (bounds-other boxes i j b (eqb-false _ _ e)) (bounds-refl (bounds_at boxes j))

  -- so with a later lower S of a task that has a valid triple, and with an earlier upper S
  later-start : (i t : ℕ) {w : Window} → fit_at P.shifts boxes i ≡ Some w → (bounds_at boxes i).earliest.0 ≤ t
      → Inside P (with_bounds boxes i (with_earliest (bounds_at boxes i) t)) boxes
  later-start i t {w} q l = with-smaller i _ (fit-there P boxes sized i w q) (later-inside _ t l)

  earlier-start : (i t : ℕ) {w : Window} → fit_at P.shifts boxes i ≡ Some w → t ≤ (bounds_at boxes i).latest.0
      → Inside P (with_bounds boxes i (with_latest (bounds_at boxes i) t)) boxes
  earlier-start i t {w} q l = with-smaller i _ (fit-there P boxes sized i w q) (earlier-inside _ t l)

  -- and each step that moves a bound leaves such boxes
  moves-inside : (i t : ℕ) (left : List ℕ) (k : Kind) → Moves P boxes i t left k → Inside P left boxes
  moves-inside i t left k (moves_c w l q differ e) =
      rw e (with-smaller i w.bounds l (narrower-inside (unfold fit_at in (rule-narrower _ _ (bounds_at boxes i) w q))))
  moves-inside i t left k (moves_l w c ends from to e) = rw e (later-start i _ c.fit (omega arith))
  moves-inside i t left k (moves_u w c starts from to e) = rw e (earlier-start i _ c.fit (omega arith))
  moves-inside i t left k (moves_f w v p from to e) = rw e (later-start _ _ p.later (omega arith))
  moves-inside i t left k (moves_b w v p from to e) = rw e (earlier-start _ _ p.earlier (omega arith))

  pub moved-inside : (x : Step) (left : List ℕ) → judge P boxes x ≡ moved left → Inside P left boxes
  moved-inside x left e = moves-inside x.task x.hour left _ (judged-moved P boxes x left e)
