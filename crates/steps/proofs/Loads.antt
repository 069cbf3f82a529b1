-- Laws of sums over the tasks that pass a test, and of the load against the heights of a feasible schedule's running tasks. Assumes nothing.
use Rattle.std.specs.Prelude.{Option, None, Some}
use Rattle.std.specs.Prelude.{if◌then◌else◌}
use mathlib.Core.Path.{◌≡◌, refl, sym, ap, ◌∙◌}
use mathlib.Core.Bool.{Bool, true, false, not, false≢true}
use mathlib.Core.List.{List}
use Prim.Native.Nat.{ℕ, ◌+◌, ◌*◌, ◌≤◌, ◌<◌}
use native.Mathlib.Omega.{arith}
use lib.Dec.{ltb, eqb}
use lib.ListN.{length}
use Rattle.std.proofs.lemmas.List.{get_or_past}
use borrow.Author.Tests.{leb-true, ltb-true, ltb-false, le-leb, lt-ltb, eq-eqb}
use Rattle.units.specs.Choice.{◌and◌}
use Rattle.units.specs.Sums.{sum_where}
use Rattle.units.proofs.Choices.{and_both, and_left, and_right, not_left, if-true, if-false, None≢Some}
use Rattle.units.proofs.Summing.{sum-le, sum-gap}
use Rattle.plan.specs.Plan.{Plan, task_count, pair_count, height_of, heights_where, pair_of}
use Rattle.plan.specs.Boxes.{bounds_at}
use Rattle.calendar.specs.declared.Triple.{Triple}
use Rattle.calendar.specs.declared.Window.{Window}
use Rattle.calendar.specs.Triples.{start_of, end_of}
use Rattle.calendar.specs.Rule.{lst, ect}
use Rattle.calendar.proofs.Triples.{in_bounds_lem, Held, rule-held, never-lasts}
use Rattle.schedule.specs.Schedule.{runs, running, in_turn, Feasible}
use Rattle.steps.specs.Load.{fit_at, must_run, load, others_load}

-- ---- for any heights, any number of tasks and any two tests, of which the first holds only where the second does

if-le : (a b : Bool) (k : ℕ) → (a ≡ true → b ≡ true) → (if a then k else 0) ≤ (if b then k else 0)
if-le true true k h = omega arith
if-le true false k h = absurd (false≢true (h refl))
if-le false b k h = omega arith

module _ (heights : ℕ → ℕ) (n : ℕ) (must may : ℕ → Bool) (sure : (j : ℕ) → j < n → must j ≡ true → may j ≡ true) where
  pub where-le : sum_where must heights n ≤ sum_where may heights n
  unfolding sum_where
  where-le = sum-le _ _ n (λ j l. if-le (must j) (may j) (heights j) (sure j l))

  -- one task left out of the first sum, and its height added
  pub where-but : (i : ℕ) → i < n → may i ≡ true → heights i + sum_where (λ j. not (eqb j i) and must j) heights n ≤ sum_where may heights n
  unfolding sum_where
  where-but i l e =
      let gap = sum-gap _ _ n i (heights i) l (λ j m ne. others j m) own in omega arith
    where
      others : (j : ℕ) → j < n → (if not (eqb j i) and must j then heights j else 0) ≤ (if may j then heights j else 0)
      others j m = if-le (not (eqb j i) and must j) (may j) (heights j) (λ q. sure j m (and_right (not (eqb j i)) (must j) q))

      own : (if not (eqb i i) and must i then heights i else 0) + heights i ≤ (if may i then heights i else 0)
      own =
          let left = if-false (not (eqb i i) and must i) (heights i) 0 (not_left (not (eqb i i)) (must i) (ap not (eq-eqb i i refl))) in
          let kept = if-true (may i) (heights i) 0 e in
          omega (arith, left, kept)

-- ---- a task that must run in an hour runs then, in each triple that its window holds

must-run : (f : Option Window) (x : Triple) (t : ℕ) → ((w : Window) → f ≡ Some w → Held w x) → must_run f t ≡ true → runs x t ≡ true
unfolding must_run runs
must-run None x t held e = absurd (false≢true e)
must-run (Some w) x t held e =
    let h = held w refl in
    let l : lst w ≤ t = leb-true _ _ (and_left _ _ e) in
    let u : t < ect w = ltb-true _ _ (and_right _ _ e) in
    and_both _ _ (le-leb (start_of x) t (omega arith)) (lt-ltb t (end_of x) (omega arith))

-- a task with a valid triple is one of the plan's, where there is a box for each task: of any other all bounds are 0, and every triple lasts longer
pub fit-there : (P : Plan) (boxes : List ℕ) → length boxes ≡ 6 * task_count P → (i : ℕ) (w : Window) → fit_at P.shifts boxes i ≡ Some w
    → i < task_count P
unfolding fit_at
fit-there P boxes sized i w e = go (ltb i (task_count P)) refl
  where
    go : (b : Bool) → ltb i (task_count P) ≡ b → i < task_count P
    go true q = ltb-true _ _ q
    go false q =
        let out : task_count P ≤ i = ltb-false _ _ q in
        let none : (bounds_at boxes i).longest.0 ≡ 0 = unfold bounds_at in (get_or_past boxes (6 * i + 3) 0 (omega arith)) in
        None≢Some (sym (never-lasts _ _ (bounds_at boxes i) none) ∙ e)

module _ (P : Plan) (boxes : List ℕ) (σ : ℕ → Triple) (F : Feasible P boxes σ) where
  -- the windows hold the triples of a feasible schedule
  pub fit-held : (i : ℕ) → i < task_count P → (w : Window) → fit_at P.shifts boxes i ≡ Some w → Held w (σ i)
  unfolding fit_at
  fit-held i l w e = rule-held _ _ (bounds_at boxes i) w e (σ i) (in_bounds_lem _ _ (F.inside i l)) (F.fits i l)

  -- a pair of the plan's is kept by a feasible schedule
  pub kept-pair : (k : ℕ) → k < pair_count P → end_of (σ (pair_of P k).earlier) ≤ start_of (σ (pair_of P k).later)
  unfolding in_turn
  kept-pair k l = leb-true _ _ (F.pairs k l)

  running-must : (t j : ℕ) → j < task_count P → must_run (fit_at P.shifts boxes j) t ≡ true → runs (σ j) t ≡ true
  running-must t j l e = must-run (fit_at P.shifts boxes j) (σ j) t (fit-held j l) e

  -- in each room and hour the running tasks' heights are at least the load
  pub load-runs : (room t : ℕ) → load P room boxes t ≤ running P room σ t
  unfolding load running heights_where
  load-runs room t = where-le (height_of P room) (task_count P) _ _ (running-must t)

  -- and, in an hour in which a task runs, at least its height plus the other tasks' load
  pub others-run : (room i t : ℕ) → i < task_count P → runs (σ i) t ≡ true
      → height_of P room i + others_load P room boxes i t ≤ running P room σ t
  unfolding others_load running heights_where
  others-run room i t l e = where-but (height_of P room) (task_count P) _ _ (running-must t) i l e
