-- What a step that moves a bound does, whatever its kind, and that a step says impossible only where no schedule is feasible. Assumes nothing.
use mathlib.Core.Path.{◌≡◌, refl, ap, ◌∙◌}
use mathlib.Core.Logic.{◌≢◌}
use mathlib.Core.Bool.{Bool, true, false, false≢true}
use mathlib.Core.List.{List}
use Prim.Native.Nat.{ℕ, ◌+◌, ◌-◌, ◌*◌, ◌≤◌, ◌<◌}
use native.Mathlib.Omega.{arith}
use lib.Dec.{leb, ltb, eqb}
use lib.ListN.{length}
use borrow.Author.Tests.{leb-true, leb-false, ltb-true, ltb-false, le-leb, lt-ltb, eqb-true, eqb-false, eq-eqb}
use Rattle.units.specs.declared.Hour.{Hour}
use Rattle.units.specs.declared.Bounds.{Bounds}
use Rattle.units.proofs.Choices.{and_both}
use Rattle.units.specs.Limits.{Boxed, with_earliest, with_latest}
use Rattle.units.proofs.Summing.{sum-gap}
use Rattle.plan.specs.Plan.{Plan, task_count, work_time_of, pair_of}
use Rattle.plan.specs.Boxes.{bounds_at, with_bounds}
use Rattle.plan.specs.Passed.{PassedTask, Passed}
use Rattle.plan.proofs.Boxes.{length-with, bounds-same, bounds-other}
use Rattle.calendar.specs.declared.Triple.{Triple}
use Rattle.calendar.specs.declared.Window.{Window}
use Rattle.calendar.specs.Triples.{start_of, end_of, in_bounds}
use Rattle.calendar.specs.Rule.{lst, ect}
use Rattle.calendar.proofs.Triples.{InBounds, in_bounds_lem, bounds-in, Narrower, never-valid, rule-narrower}
use Rattle.schedule.specs.Schedule.{runs, Feasible}
use Rattle.steps.specs.declared.Step.{Step}
use Rattle.steps.specs.Load.{fit_at}
use Rattle.steps.specs.Steps.{Kind, same_bounds, impossible, moved, judge}
use Rattle.steps.specs.Widths.{width, widths}
use Rattle.steps.proofs.Loads.{fit-there, fit-held, kept-pair, load-runs, others-run}
use Rattle.steps.proofs.Judgements.{Crowded, Paired, Moves, moves_c, moves_l, moves_u, moves_f, moves_b, Stops}
use Rattle.steps.proofs.Judgements.{stops_c, stops_o, stops_l, stops_u, stops_f, stops_b, judged-moved, judged-impossible}

-- one task's box becomes a narrower one, a box still, and no feasible schedule is lost
pub record Change (P : Plan) (boxes left : List ℕ) : Type 0 where
  pub task : ℕ
  pub bounds : Bounds
  pub there : task < task_count P
  pub leaves : left ≡ with_bounds boxes task bounds
  pub narrower : width bounds + 1 ≤ width (bounds_at boxes task)
  pub boxed : {h p : ℕ} → Boxed h p (bounds_at boxes task) → Boxed h p bounds
  pub keeps : (σ : ℕ → Triple) → Feasible P boxes σ → InBounds bounds (σ task)

-- bounds inside others, and not the same, are narrower
less-wide : (a b : Bounds) → same_bounds a b ≡ false → Narrower a b → width a + 1 ≤ width b
unfolding width
less-wide a b e n = go (ltb (width a) (width b)) refl
  where
    go : (t : Bool) → ltb (width a) (width b) ≡ t → width a + 1 ≤ width b
    go true q = omega (arith, ltb-true (width a) (width b) q)
    go false q =
        let l : width b ≤ width a = ltb-false (width a) (width b) q in
        let same : same_bounds a b ≡ true = unfold same_bounds in
        (and_both _ _ (eq-eqb a.earliest.0 b.earliest.0 (omega arith))
        (and_both _ _ (eq-eqb a.latest.0 b.latest.0 (omega arith))
        (and_both _ _ (eq-eqb a.shortest.0 b.shortest.0 (omega arith))
        (and_both _ _ (eq-eqb a.longest.0 b.longest.0 (omega arith))
        (and_both _ _ (eq-eqb a.fewest.0 b.fewest.0 (omega arith)) (eq-eqb a.most.0 b.most.0 (omega arith))))))) in
        absurd (false≢true (cc))

-- and, inside a box, they are a box
narrower-boxed : {h p : ℕ} {a b : Bounds} → Narrower a b → Boxed h p b → Boxed h p a
narrower-boxed n x =
    record {
      starts = n.starts;
      latest = omega arith;
      shortest = omega arith;
      lengths = n.lengths;
      longest = omega arith;
      overtimes = n.overtimes;
      most = omega arith;
    }

-- so is a box with other starts, in order and before H
starts-boxed : {h p : ℕ} (b : Bounds) (from to : Hour) → Boxed h p b → from.0 ≤ to.0 → to.0 < h
    → Boxed h p (record { earliest = from; latest = to; shortest = b.shortest; longest = b.longest; fewest = b.fewest; most = b.most })
starts-boxed b from to x order before =
    record {
      starts = order;
      latest = before;
      shortest = x.shortest;
      lengths = x.lengths;
      longest = x.longest;
      overtimes = x.overtimes;
      most = x.most;
    }

module _ (P : Plan) (boxes : List ℕ) (σ : ℕ → Triple) (F : Feasible P boxes σ) where
  -- the triple of a task lies in its box
  inside : (i : ℕ) → i < task_count P → InBounds (bounds_at boxes i) (σ i)
  inside i l = in_bounds_lem _ _ (F.inside i l)

  module _ (i t : ℕ) (w : Window) (c : Crowded P boxes i t w) where
    -- a task that no capacity is left for in an hour, in some room, does not run then
    crowded-out : start_of (σ i) ≤ t → t < end_of (σ i) → ⊥
    unfolding runs
    crowded-out a b =
        omega (
          arith,
          others-run P boxes σ F c.room i t c.task (and_both _ _ (le-leb _ _ a) (lt-ltb _ _ b)),
          F.capacity c.room c.there t c.hour,
          c.excess,
        )

    -- so, if it can't end by then, it starts later
    starts-later : t < ect w → t < start_of (σ i)
    starts-later a = go (leb (start_of (σ i)) t) refl
      where
        go : (b : Bool) → leb (start_of (σ i)) t ≡ b → t < start_of (σ i)
        go true e = absurd (crowded-out (leb-true _ _ e) (omega (arith, (fit-held P boxes σ F i c.task w c.fit).ect)))
        go false e = leb-false _ _ e

    -- and, if it can't start after then, it ends by then
    ends-before : lst w ≤ t → end_of (σ i) ≤ t
    ends-before a = go (ltb t (end_of (σ i))) refl
      where
        go : (b : Bool) → ltb t (end_of (σ i)) ≡ b → end_of (σ i) ≤ t
        go true e = absurd (crowded-out (omega (arith, (fit-held P boxes σ F i c.task w c.fit).inside.latest)) (ltb-true _ _ e))
        go false e = ltb-false _ _ e

-- where there is a box for each task
module _ (P : Plan) (boxes : List ℕ) (sized : length boxes ≡ 6 * task_count P) (i t : ℕ) where
  -- what a feasible schedule's triples of pair i keep to: the earlier's ends no sooner than its ect, the later's starts no later than its lst, and
  -- the former's end is at most the latter's start
  record PairHeld (w v : Window) (σ : ℕ → Triple) : Type 0 where
    earlier : InBounds (bounds_at boxes (pair_of P i).earlier) (σ (pair_of P i).earlier)
    later : InBounds (bounds_at boxes (pair_of P i).later) (σ (pair_of P i).later)
    ends : ect w ≤ end_of (σ (pair_of P i).earlier)
    starts : start_of (σ (pair_of P i).later) ≤ lst v
    in_turn : end_of (σ (pair_of P i).earlier) ≤ start_of (σ (pair_of P i).later)

  first-there : {w v : Window} → Paired P boxes i w v → (pair_of P i).earlier < task_count P
  first-there p = fit-there P boxes sized _ _ p.earlier

  second-there : {w v : Window} → Paired P boxes i w v → (pair_of P i).later < task_count P
  second-there p = fit-there P boxes sized _ _ p.later

  pair-held : (w v : Window) → Paired P boxes i w v → (σ : ℕ → Triple) → Feasible P boxes σ → PairHeld w v σ
  pair-held w v p σ F =
      record {
        earlier = inside P boxes σ F _ (first-there p);
        later = inside P boxes σ F _ (second-there p);
        ends = (fit-held P boxes σ F _ (first-there p) w p.earlier).ect;
        starts = (fit-held P boxes σ F _ (second-there p) v p.later).inside.latest;
        in_turn = kept-pair P boxes σ F i p.pair;
      }

  moves-change : (left : List ℕ) (k : Kind) → Moves P boxes i t left k → Change P boxes left
  unfolding width with_earliest with_latest
  moves-change left k (moves_c w l q differ e) =
      let narrow : Narrower w.bounds (bounds_at boxes i) = unfold fit_at in (rule-narrower _ _ (bounds_at boxes i) w q) in
      record {
        task = i;
        bounds = w.bounds;
        there = l;
        leaves = e;
        narrower = less-wide w.bounds (bounds_at boxes i) differ narrow;
        boxed = λ x. narrower-boxed narrow x;
        keeps = λ σ F. (fit-held P boxes σ F i l w q).inside;
      }
  moves-change left k (moves_l w c ends from to e) =
      record {
        task = i;
        bounds = with_earliest (bounds_at boxes i) (t + 1);
        there = c.task;
        leaves = e;
        narrower = omega arith;
        boxed = λ x. starts-boxed _ _ _ x (omega arith) (omega arith);
        keeps = λ σ F.
            let h = inside P boxes σ F i c.task in
            record {
              earliest = omega (arith, starts-later P boxes σ F i t w c ends);
              latest = h.latest;
              shortest = h.shortest;
              longest = h.longest;
              fewest = h.fewest;
              most = h.most;
            };
      }
  moves-change left k (moves_u w c starts from to e) =
      record {
        task = i;
        bounds = with_latest (bounds_at boxes i) (t - (bounds_at boxes i).shortest.0);
        there = c.task;
        leaves = e;
        narrower = omega arith;
        boxed = λ x. starts-boxed _ _ _ x (omega arith) (omega arith);
        keeps = λ σ F.
            let h = inside P boxes σ F i c.task in
            record {
              earliest = h.earliest;
              latest = omega (arith, ends-before P boxes σ F i t w c starts);
              shortest = h.shortest;
              longest = h.longest;
              fewest = h.fewest;
              most = h.most;
            };
      }
  moves-change left k (moves_f w v p from to e) =
      record {
        task = (pair_of P i).later;
        bounds = with_earliest (bounds_at boxes (pair_of P i).later) (ect w);
        there = second-there p;
        leaves = e;
        narrower = omega arith;
        boxed = λ x. starts-boxed _ _ _ x (omega arith) (omega arith);
        keeps = λ σ F.
            let h = pair-held w v p σ F in
            record {
              earliest = omega (arith, h.ends, h.in_turn);
              latest = h.later.latest;
              shortest = h.later.shortest;
              longest = h.later.longest;
              fewest = h.later.fewest;
              most = h.later.most;
            };
      }
  moves-change left k (moves_b w v p from to e) =
      record {
        task = (pair_of P i).earlier;
        bounds = with_latest (bounds_at boxes (pair_of P i).earlier) (lst v - (bounds_at boxes (pair_of P i).earlier).shortest.0);
        there = first-there p;
        leaves = e;
        narrower = omega arith;
        boxed = λ x. starts-boxed _ _ _ x (omega arith) (omega arith);
        keeps = λ σ F.
            let h = pair-held w v p σ F in
            record {
              earliest = h.earlier.earliest;
              latest = omega (arith, h.in_turn, h.starts, h.earlier.shortest);
              shortest = h.earlier.shortest;
              longest = h.earlier.longest;
              fewest = h.earlier.fewest;
              most = h.earlier.most;
            };
      }

  stops-none : (k : Kind) → Stops P boxes i t k → (σ : ℕ → Triple) → Feasible P boxes σ → ⊥
  stops-none k (stops_c l q) σ F = unfold fit_at in (never-valid _ _ (bounds_at boxes i) q (σ i) (inside P boxes σ F i l) (F.fits i l))
  stops-none k (stops_o l m over) σ F = omega (arith, load-runs P boxes σ F i t, F.capacity i l t m)
  stops-none k (stops_l w c ends last) σ F = omega (arith, starts-later P boxes σ F i t w c ends, inside P boxes σ F i c.task)
  stops-none k (stops_u w c starts first) σ F = omega (arith, ends-before P boxes σ F i t w c starts, inside P boxes σ F i c.task)
  stops-none k (stops_f w v p last) σ F = let h = pair-held w v p σ F in omega (arith, h.ends, h.in_turn, h.later.latest, last)
  stops-none k (stops_b w v p first) σ F =
      let h = pair-held w v p σ F in omega (arith, h.starts, h.in_turn, h.earlier.earliest, h.earlier.shortest, first)

module _ (P : Plan) (boxes : List ℕ) (sized : length boxes ≡ 6 * task_count P) (x : Step) where
  pub judge-change : (left : List ℕ) → judge P boxes x ≡ moved left → Change P boxes left
  judge-change left e = moves-change P boxes sized x.task x.hour left _ (judged-moved P boxes x left e)

  pub judge-impossible : judge P boxes x ≡ impossible → (σ : ℕ → Triple) → Feasible P boxes σ → ⊥
  judge-impossible e = stops-none P boxes sized x.task x.hour _ (judged-impossible P boxes x e)

-- ---- what a change keeps

module _ (P : Plan) (boxes left : List ℕ) (c : Change P boxes left) where
  else_same : (j : ℕ) → j ≢ c.task → bounds_at left j ≡ bounds_at boxes j
  else_same j ne = ap (λ (l : List ℕ). bounds_at l j) c.leaves ∙ bounds-other boxes c.task j c.bounds ne

  pub change-length : length left ≡ length boxes
  change-length = ap length c.leaves ∙ length-with boxes c.task c.bounds

  module _ (sized : length boxes ≡ 6 * task_count P) where
    is-there : bounds_at left c.task ≡ c.bounds
    is-there = ap (λ (l : List ℕ). bounds_at l c.task) c.leaves ∙ bounds-same boxes c.task c.bounds (omega (arith, c.there))

    -- a feasible schedule stays feasible
    pub change-keeps : (σ : ℕ → Triple) → Feasible P boxes σ → Feasible P left σ
    change-keeps σ F = record { inside = λ j l. go j l (eqb j c.task) refl; fits = F.fits; capacity = F.capacity; pairs = F.pairs }
      where
        go : (j : ℕ) → j < task_count P → (b : Bool) → eqb j c.task ≡ b → in_bounds (bounds_at left j) (σ j) ≡ true
        go j l true e = let q : j ≡ c.task = eqb-true _ _ e in rw (q, is-there) (bounds-in _ _ (c.keeps σ F))
        go j l false e = rw (else_same j (eqb-false _ _ e)) (F.inside j l)

    -- the widths fall
    pub change-widths : widths P left + 1 ≤ widths P boxes
    unfolding widths
    change-widths =
        sum-gap _ _ (task_count P) c.task 1 c.there (λ j l ne. rw (else_same j ne) (omega arith)) (rw is-there c.narrower)

-- a plan that passes the tests passes them with the boxes that are left
pub change-passes : (P : Plan) (boxes left : List ℕ) → Change P boxes left → Passed P boxes → Passed P left
change-passes P boxes left c passed =
    record {
      some_hours = passed.some_hours;
      hours = passed.hours;
      some_calendar = passed.some_calendar;
      calendars = passed.calendars;
      whole = passed.whole;
      symbols = passed.symbols;
      tasks = passed.tasks;
      some_room = passed.some_room;
      rooms = passed.rooms;
      capacity = passed.capacity;
      work_times = passed.work_times;
      heights = passed.heights;
      boxes = change-length P boxes left c ∙ passed.boxes;
      few_pairs = passed.few_pairs;
      pairs = passed.pairs;
      task = λ j l. go j l (eqb j c.task) refl;
      pair = passed.pair;
    }
  where
    with-box : (j : ℕ) → j < task_count P → Boxed P.shifts.hours (work_time_of P.shifts j) (bounds_at left j) → PassedTask P left j
    with-box j l box =
        let task = passed.task j l in
        record {
          number = task.number;
          calendar = task.calendar;
          calendar_length = task.calendar_length;
          some_work = task.some_work;
          work_time = task.work_time;
          height = task.height;
          box = box;
        }

    go : (j : ℕ) → j < task_count P → (b : Bool) → eqb j c.task ≡ b → PassedTask P left j
    go j l true e =
        let q : j ≡ c.task = eqb-true _ _ e in
        with-box j l (rw (q, is-there P boxes left c passed.boxes) (c.boxed (passed.task c.task c.there).box))
    go j l false e = with-box j l (rw (else_same P boxes left c j (eqb-false _ _ e)) (passed.task j l).box)
