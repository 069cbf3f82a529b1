-- What each test of a step decides, over the answers that are kept. Assumes nothing.
use Rattle.std.specs.Prelude.{Option, None, Some, MatchOption}
use Rattle.std.specs.Prelude.{if◌then◌else◌}
use mathlib.Core.Path.{◌≡◌, refl, sym, ap, ◌∙◌}
use mathlib.Core.Bool.{Bool, true, false}
use mathlib.Core.List.{List}
use Prim.Native.Nat.{ℕ, ◌+◌, ◌-◌, ◌≤◌, ◌<◌}
use native.Mathlib.Omega.{arith}
use lib.Dec.{leb, ltb}
use lib.ListN.{get_or}
use borrow.Author.Tests.{ltb-true, lt-ltb, le-ltb, le-leb, lt-leb, leb-true, leb-false}
use Rattle.units.specs.Choice.{some_if, on_option}
use Rattle.units.specs.Limits.{hour, height, with_earliest, with_latest}
use Rattle.units.specs.declared.Hour.{Hour}
use Rattle.units.specs.declared.Height.{Height}
use Rattle.units.specs.declared.Bounds.{Bounds}
use Rattle.units.proofs.Choices.{and_both, and_left, and_right, if-true, if-false, if_none, if_some, not_left, not_right}
use Rattle.units.specs.declared.Pair.{Pair}
use Rattle.plan.specs.Plan.{Plan, room_count, task_count, pair_count, capacity_of, heights_of, height_of, pair_of}
use Rattle.plan.specs.Boxes.{bounds_at}
use Rattle.calendar.specs.declared.Window.{Window}
use Rattle.calendar.specs.Rule.{lst, ect}
use Rattle.steps.specs.declared.Step.{Step}
use Rattle.steps.specs.declared.Judged.{Judged}
use Rattle.steps.specs.declared.Judged.TheVariants.{Unknown, NotAdmitted, Impossible, Moved}
use Rattle.steps.specs.Load.{must_run}
use Rattle.steps.specs.Steps.{Kind, kind_c, kind_o, kind_l, kind_u, kind_f, kind_b, unknown_kind, kind_of, is_step, on_fit, same_bounds}
use Rattle.turns.specs.Inner.Finding.{first_hour, end_hour}
use Rattle.turns.specs.Inner.Kept.{load_of, exceeds, excess_in, excess_by, calendar_by, lower_by, upper_by, forward_by, backward_by, move_by, bound_by, pair_by}
use Rattle.turns.specs.Inner.Kept.{judge_kind_by, judge_by}

-- ---- the excess

module _ (w : Window) (height load capacity t : ℕ) where
  pub exceeds-in : must_run (Some w) t ≡ true → exceeds w height load capacity t ≡ ltb capacity load
  unfolding exceeds
  exceeds-in e = ap (ltb capacity) (if-true _ _ _ e)

  pub exceeds-out : must_run (Some w) t ≡ false → exceeds w height load capacity t ≡ ltb capacity (height + load)
  unfolding exceeds
  exceeds-out e = ap (ltb capacity) (if-false _ _ _ e)

-- in a room, from what the code has found there
module _ (P : Plan) (fits : List (Option Window)) (w : Window) (i t room : ℕ) where
  pub room-excess : {load : ℕ} {own : Height} {r : Bool} → own ≡ height (height_of P room i)
      → load ≡ load_of fits (heights_of P room) t
      → r ≡ exceeds w own.0 load (capacity_of P room) t
      → r ≡ excess_in P fits w i t room
  unfolding excess_in
  room-excess is-height is-load q = rw (is-height, is-load) at q

-- ---- a task with no valid triple, and one with a window

module _ {A : Type 0} (fit : Option Window) (a : A) (f : Window → A) where
  pub on-never : fit ≡ None → on_fit fit a f ≡ a
  unfolding on_fit
  on-never e = rw e

  pub on-within : (w : Window) → fit ≡ Some w → on_fit fit a f ≡ f w
  unfolding on_fit
  on-within w e = rw e

-- ---- C

module _ (fit : Option Window) (i : ℕ) (b : Bounds) where
  pub calendar-stops : fit ≡ None → calendar_by fit i b ≡ Impossible
  unfolding calendar_by
  calendar-stops e = on-never _ _ _ e

  pub calendar-same : (w : Window) → fit ≡ Some w → same_bounds w.bounds b ≡ true → calendar_by fit i b ≡ NotAdmitted
  unfolding calendar_by
  calendar-same w e q = on-within _ _ _ w e ∙ if-true _ _ _ q

  pub calendar-moves : (w : Window) → fit ≡ Some w → same_bounds w.bounds b ≡ false → calendar_by fit i b ≡ Moved i w.bounds
  unfolding calendar_by
  calendar-moves w e q = on-within _ _ _ w e ∙ if-false _ _ _ q

-- ---- L and U

-- a number is below the next one
below-next : (n t : ℕ) → ltb n (t + 1) ≡ leb n t
below-next n t = go (leb n t) refl
  where
    go : (b : Bool) → leb n t ≡ b → ltb n (t + 1) ≡ leb n t
    go true e = let l : n ≤ t = leb-true n t e in lt-ltb n (t + 1) (omega arith) ∙ sym e
    go false e = let l : t < n = leb-false n t e in le-ltb n (t + 1) (omega arith) ∙ sym e

module _ (w : Window) (i : ℕ) (b : Bounds) (t : ℕ) where
  -- before the first hour in which the step can be admitted, from the end of these on, and without the excess
  pub move-before : (lower excess : Bool) → t < first_hour lower w b → move_by lower w i b excess t ≡ NotAdmitted
  unfolding first_hour move_by lower_by upper_by
  move-before true excess l = if-false _ _ _ (not_right _ _ (not_left _ _ (lt-leb _ _ l)))
  move-before false excess l = if-false _ _ _ (not_left _ _ (lt-leb _ _ l))

  pub move-after : (lower excess : Bool) → end_hour lower w b ≤ t → move_by lower w i b excess t ≡ NotAdmitted
  unfolding end_hour move_by lower_by upper_by
  move-after true excess l = if-false _ _ _ (not_left _ _ (le-ltb _ _ l))
  move-after false excess l = if-false _ _ _ (not_right _ _ (not_left _ _ (le-ltb _ _ l)))

  pub move-none : (lower excess : Bool) → excess ≡ false → move_by lower w i b excess t ≡ NotAdmitted
  unfolding move_by lower_by upper_by
  move-none true excess e = if-false _ _ _ (not_right _ _ (not_right _ _ e))
  move-none false excess e = if-false _ _ _ (not_right _ _ (not_right _ _ e))

  -- else it is admitted
  module _ (lower excess : Bool) (from : first_hour lower w b ≤ t) (below : t < end_hour lower w b) (e : excess ≡ true) where
    pub move-lower : lower ≡ true
        → move_by lower w i b excess t ≡ (if ltb b.latest.0 (t + 1) then Impossible else Moved i (with_earliest b (t + 1)))
    unfolding first_hour end_hour move_by lower_by
    move-lower l =
        rw (l, below-next b.latest.0 t) (if-true _ _ _ (and_both _ _ (lt-ltb _ _ (rw l at below)) (and_both _ _ (le-leb _ _ (rw l at from)) e)))

    pub move-upper : lower ≡ false
        → move_by lower w i b excess t
        ≡ (if ltb t (b.earliest.0 + b.shortest.0) then Impossible else Moved i (with_latest b (t - b.shortest.0)))
    unfolding first_hour end_hour move_by upper_by
    move-upper l = rw l (if-true _ _ _ (and_both _ _ (le-leb _ _ (rw l at from)) (and_both _ _ (lt-ltb _ _ (rw l at below)) e)))

module _ (i : ℕ) (b : Bounds) (t : ℕ) where
  -- where there are such bounds, and where there are none
  pub moved-either : {r end : Judged} (made : Option Bounds) → r ≡ on_option made Impossible (Moved i) → (made ≡ None → Impossible ≡ end)
      → ((v : Bounds) → made ≡ Some v → Moved i v ≡ end) → r ≡ end
  unfolding on_option
  moved-either None q none some = q ∙ none refl
  moved-either (Some v) q none some = q ∙ some v refl

  -- the box with the hour as its lower S, as its constructor makes it
  module _ (made : Option Bounds) (is : made ≡ some_if (leb t b.latest.0) (with_earliest b t)) where
    pub lower-stops : made ≡ None → Impossible ≡ (if ltb b.latest.0 t then Impossible else Moved i (with_earliest b t))
    lower-stops e = sym (if-true _ _ _ (lt-ltb b.latest.0 t (leb-false _ _ (if_none _ _ (sym is ∙ e)))))

    pub lower-moves : (v : Bounds) → made ≡ Some v → Moved i v ≡ (if ltb b.latest.0 t then Impossible else Moved i (with_earliest b t))
    lower-moves v e =
        let moved = if_some _ _ _ (sym is ∙ e) in
        sym (if-false _ _ _ (le-ltb b.latest.0 t (leb-true t b.latest.0 moved.0)) ∙ ap (Moved i) moved.1)

  stops : t < b.earliest.0 + b.shortest.0
      → Impossible ≡ (if ltb t (b.earliest.0 + b.shortest.0) then Impossible else Moved i (with_latest b (t - b.shortest.0)))
  stops h = sym (if-true _ _ _ (lt-ltb _ _ h))

  -- the hour minus the lower E, and the box with it as its upper S, as their constructors make them
  module _ (earlier : Option Hour) (is-earlier : earlier ≡ some_if (leb b.shortest.0 t) (hour (t - b.shortest.0))) where
    pub upper-negative : earlier ≡ None
        → Impossible ≡ (if ltb t (b.earliest.0 + b.shortest.0) then Impossible else Moved i (with_latest b (t - b.shortest.0)))
    upper-negative e = stops (omega (arith, leb-false b.shortest.0 t (if_none _ _ (sym is-earlier ∙ e))))

    module _ (latest : Hour) (there : earlier ≡ Some latest) (made : Option Bounds)
        (is : made ≡ some_if (leb b.earliest.0 latest.0) (with_latest b latest.0)) where
      from_start : (leb b.shortest.0 t ≡ true) × (hour (t - b.shortest.0) ≡ latest)
      from_start = if_some _ _ _ (sym is-earlier ∙ there)

      shorter : b.shortest.0 ≤ t
      shorter = leb-true b.shortest.0 t from_start.0

      at-latest : made ≡ some_if (leb b.earliest.0 (t - b.shortest.0)) (with_latest b (t - b.shortest.0))
      at-latest = rw (sym from_start.1) at is

      pub upper-stops : made ≡ None
          → Impossible ≡ (if ltb t (b.earliest.0 + b.shortest.0) then Impossible else Moved i (with_latest b (t - b.shortest.0)))
      upper-stops e = stops (omega (arith, leb-false b.earliest.0 (t - b.shortest.0) (if_none _ _ (sym at-latest ∙ e)), shorter))

      pub upper-moves : (v : Bounds) → made ≡ Some v
          → Moved i v ≡ (if ltb t (b.earliest.0 + b.shortest.0) then Impossible else Moved i (with_latest b (t - b.shortest.0)))
      upper-moves v e =
          let moved = if_some _ _ _ (sym at-latest ∙ e) in
          let above : b.earliest.0 ≤ t - b.shortest.0 = leb-true b.earliest.0 (t - b.shortest.0) moved.0 in
          sym (if-false _ _ _ (le-ltb t (b.earliest.0 + b.shortest.0) (omega (arith, shorter))) ∙ ap (Moved i) moved.1)

  -- from both
  pub upper-either : {r : Judged} (earlier : Option Hour) (made : Option Bounds)
      → earlier ≡ some_if (leb b.shortest.0 t) (hour (t - b.shortest.0))
      → MatchOption earlier (made ≡ None) (λ h. made ≡ some_if (leb b.earliest.0 h.0) (with_latest b h.0))
      → r ≡ on_option made Impossible (Moved i)
      → r ≡ (if ltb t (b.earliest.0 + b.shortest.0) then Impossible else Moved i (with_latest b (t - b.shortest.0)))
  unfolding on_option
  upper-either None made is found q = rw found at q ∙ upper-negative None is refl
  upper-either (Some h) made is found q =
      moved-either made q (upper-stops (Some h) is h refl made found) (upper-moves (Some h) is h refl made found)

-- L or U, from what the code has found of the task
module _ (P : Plan) (boxes : List ℕ) (fits : List (Option Window)) (i t : ℕ) (r : Judged) (lower : Bool) where
  pub bound-never : get_or fits i None ≡ None → r ≡ NotAdmitted → r ≡ bound_by P boxes fits lower i t
  unfolding bound_by
  bound-never e q = q ∙ sym (on-never _ _ _ e)

  pub bound-within : (w : Window) (b : Bounds) → get_or fits i None ≡ Some w → b ≡ bounds_at boxes i
      → r ≡ move_by lower w i b (excess_by P fits w i t) t
      → r ≡ bound_by P boxes fits lower i t
  unfolding bound_by
  bound-within w b told is-box q = rw is-box at q ∙ sym (on-within _ _ _ w told)

-- ---- F and B, from what the code has found of the pair's tasks

module _ (P : Plan) (boxes : List ℕ) (fits : List (Option Window)) (x : Pair) where
  pub first-never : (lower : Bool) → get_or fits x.earlier None ≡ None → NotAdmitted ≡ pair_by P boxes fits lower x
  unfolding pair_by
  first-never true e = sym (on-never _ _ _ e)
  first-never false e = sym (on-never _ _ _ e)

  module _ (w : Window) (first : get_or fits x.earlier None ≡ Some w) where
    pub second-never : (lower : Bool) → get_or fits x.later None ≡ None → NotAdmitted ≡ pair_by P boxes fits lower x
    unfolding pair_by
    second-never true e = sym (on-within _ _ _ w first ∙ on-never _ _ _ e)
    second-never false e = sym (on-within _ _ _ w first ∙ on-never _ _ _ e)

    module _ (v : Window) (second : get_or fits x.later None ≡ Some v) (b : Bounds) (lower : Bool) where
      pub pair-forward : lower ≡ true → b ≡ bounds_at boxes x.later → {r : Judged} → r ≡ forward_by w x.later b
          → r ≡ pair_by P boxes fits lower x
      unfolding pair_by
      pair-forward l is q = rw is at q ∙ sym (rw l (on-within _ _ _ w first ∙ on-within _ _ _ v second))

      pub pair-backward : lower ≡ false → b ≡ bounds_at boxes x.earlier → {r : Judged} → r ≡ backward_by v x.earlier b
          → r ≡ pair_by P boxes fits lower x
      unfolding pair_by
      pair-backward l is q = rw is at q ∙ sym (rw l (on-within _ _ _ w first ∙ on-within _ _ _ v second))

-- of task i with the bounds b, where the pair's other task has the window w
module _ (w : Window) (i : ℕ) (b : Bounds) where
  pub forward-none : ect w ≤ b.earliest.0 → NotAdmitted ≡ forward_by w i b
  unfolding forward_by
  forward-none l = sym (if-false _ _ _ (le-ltb _ _ l))

  pub forward-moves : b.earliest.0 < ect w → forward_by w i b ≡ (if ltb b.latest.0 (ect w) then Impossible else Moved i (with_earliest b (ect w)))
  unfolding forward_by
  forward-moves l = if-true _ _ _ (lt-ltb _ _ l)

  pub backward-none : b.latest.0 + b.shortest.0 ≤ lst w → NotAdmitted ≡ backward_by w i b
  unfolding backward_by
  backward-none l = sym (if-false _ _ _ (le-ltb _ _ l))

  pub backward-moves : lst w < b.latest.0 + b.shortest.0
      → backward_by w i b
      ≡ (if ltb (lst w) (b.earliest.0 + b.shortest.0) then Impossible else Moved i (with_latest b (lst w - b.shortest.0)))
  unfolding backward_by
  backward-moves l = if-true _ _ _ (lt-ltb _ _ l)

-- ---- by the kind

-- what exists where 11 does not apply
module _ (P : Plan) (i t : ℕ) (k : Kind) (is : is_step P k i t ≡ true) where
  pub there-C : k ≡ kind_c → i < task_count P
  unfolding is_step
  there-C q = ltb-true _ _ (and_left _ _ (rw q at is))

  pub there-O : k ≡ kind_o → (i < room_count P) × (t < P.shifts.hours)
  unfolding is_step
  there-O q = let e = rw q at is in (ltb-true _ _ (and_left _ _ e), ltb-true _ _ (and_right (ltb i (room_count P)) _ e))

  pub there-L : k ≡ kind_l → (i < task_count P) × (t < P.shifts.hours)
  unfolding is_step
  there-L q = let e = rw q at is in (ltb-true _ _ (and_left _ _ e), ltb-true _ _ (and_right (ltb i (task_count P)) _ e))

  pub there-U : k ≡ kind_u → (i < task_count P) × (t < P.shifts.hours)
  unfolding is_step
  there-U q = let e = rw q at is in (ltb-true _ _ (and_left _ _ e), ltb-true _ _ (and_right (ltb i (task_count P)) _ e))

  pub there-F : k ≡ kind_f → i < pair_count P
  unfolding is_step
  there-F q = ltb-true _ _ (and_left _ _ (rw q at is))

  pub there-B : k ≡ kind_b → i < pair_count P
  unfolding is_step
  there-B q = ltb-true _ _ (and_left _ _ (rw q at is))

module _ (P : Plan) (boxes : List ℕ) (fits : List (Option Window)) (x : Step) (k : Kind) (named : k ≡ kind_of x.kind) where
  pub by-none : is_step P k x.task x.hour ≡ false → judge_by P boxes fits x ≡ Unknown
  unfolding judge_by
  by-none e = if-false _ _ _ (ap (λ (l : Kind). is_step P l x.task x.hour) (sym named) ∙ e)

  pub by-nameless : k ≡ unknown_kind → Unknown ≡ judge_by P boxes fits x
  unfolding is_step
  by-nameless e = sym (by-none (rw e))

  pub by-absent : {r : Bool} → r ≡ is_step P k x.task x.hour → r ≡ false
      → Unknown ≡ judge_by P boxes fits x
  by-absent q e = sym (by-none (sym q ∙ e))

  module _ (is : is_step P k x.task x.hour ≡ true) (r : Judged) where
    by-kind : r ≡ judge_kind_by P boxes fits k x.task x.hour → r ≡ judge_by P boxes fits x
    unfolding judge_by
    by-kind q =
        q
        ∙ ap (λ (l : Kind). judge_kind_by P boxes fits l x.task x.hour) named
        ∙ sym (if-true _ _ _ (ap (λ (l : Kind). is_step P l x.task x.hour) (sym named) ∙ is))

    pub by-C : (b : Bounds) → k ≡ kind_c → b ≡ bounds_at boxes x.task → r ≡ calendar_by (get_or fits x.task None) x.task b
        → r ≡ judge_by P boxes fits x
    unfolding judge_kind_by
    by-C b n e q = by-kind (rw e at q ∙ rw n)

    pub by-O : (load : ℕ) {capacity : Height} {own : List ℕ} → k ≡ kind_o → capacity ≡ height (capacity_of P x.task)
        → own ≡ heights_of P x.task → load ≡ load_of fits own x.hour
        → r ≡ (if ltb capacity.0 load then Impossible else NotAdmitted)
        → r ≡ judge_by P boxes fits x
    unfolding judge_kind_by
    by-O load n limit room e q = by-kind (rw (e, limit, room) at q ∙ rw n)

    pub by-L : k ≡ kind_l → r ≡ bound_by P boxes fits true x.task x.hour
        → r ≡ judge_by P boxes fits x
    unfolding judge_kind_by
    by-L n q = by-kind (q ∙ rw n)

    pub by-U : k ≡ kind_u → r ≡ bound_by P boxes fits false x.task x.hour
        → r ≡ judge_by P boxes fits x
    unfolding judge_kind_by
    by-U n q = by-kind (q ∙ rw n)

    pub by-F : (p : Pair) → k ≡ kind_f → p ≡ pair_of P x.task → r ≡ pair_by P boxes fits true p → r ≡ judge_by P boxes fits x
    unfolding judge_kind_by
    by-F p n e q = by-kind (rw e at q ∙ rw n)

    pub by-B : (p : Pair) → k ≡ kind_b → p ≡ pair_of P x.task → r ≡ pair_by P boxes fits false p → r ≡ judge_by P boxes fits x
    unfolding judge_kind_by
    by-B p n e q = by-kind (rw e at q ∙ rw n)
