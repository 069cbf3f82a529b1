-- Laws of the answers that are kept for all tasks: one is stored, and the others stay. Assumes nothing.
use Rattle.std.specs.Prelude.{None}
use mathlib.Core.Path.{◌≡◌, refl, ap, ◌∙◌}
use mathlib.Core.Logic.{◌≢◌}
use mathlib.Core.List.{List}
use Prim.Native.Nat.{ℕ, ◌+◌, ◌<◌}
use native.Mathlib.Decide.{ℕ_discrete}
use native.Mathlib.Omega.{arith}
use lib.ListN.{length, get_or, set, length-set}
use lib.Seq.{get_or-set_same, get_or-set_other}
use Rattle.units.specs.Limits.{most_tasks, duration}
use Rattle.units.specs.declared.Bounds.{Bounds}
use Rattle.units.specs.declared.Duration.{Duration}
use Rattle.plan.specs.Plan.{Shifts, calendar_of, work_time_of}
use Rattle.plan.specs.Boxes.{bounds_at, with_bounds}
use Rattle.plan.proofs.Boxes.{bounds-other}
use Rattle.steps.specs.Load.{fit_at}
use Rattle.incremental.specs.declared.Kept.{Kept}
use Rattle.incremental.specs.declared.TheConstants.Starts.{NONE}
use Rattle.incremental.specs.Inner.Keeps.{Keeps}
use Rattle.propagation.specs.declared.kept.Answers.{Answers}
use Rattle.propagation.specs.Inner.Fitting.{KeepsAt, Answered}

-- the answer for a task as it was taken from memory
pub keeps-task : (S : Shifts) (boxes : List ℕ) (i : ℕ) {part : List ℕ} {p : Duration} {b : Bounds} {kept : Kept} → part ≡ calendar_of S i
    → p ≡ duration (work_time_of S i) → b ≡ bounds_at boxes i → Keeps part p.0 b kept
    → Keeps (calendar_of S i) (work_time_of S i) (bounds_at boxes i) kept
keeps-task S boxes i e w q k = rw (← e, ← q) (rw w at k)

module _ {S : Shifts} {boxes : List ℕ} {a : Answers} where
  -- the answers are those of the calendar rule
  pub answers-are : {n : ℕ} → Answered S n boxes a → (i : ℕ) → i < n → get_or a.fits i None ≡ fit_at S boxes i
  unfolding fit_at
  answers-are h i l = (h.keeps i l).is

  -- what is kept of task i is stored
  module _ {n : ℕ} (h : Answered S n boxes a) {i : ℕ} (kept : Kept) (there : i < most_tasks) {a' : Answers}
      (stored : (a'.fits ≡ set a.fits i kept.fit) × (a'.starts ≡ set a.starts i kept.starts)) where
    fit-same : get_or a'.fits i None ≡ kept.fit
    fit-same = rw stored.0 (get_or-set_same a.fits i kept.fit None (omega (arith, there, h.fits)))

    start-same : get_or a'.starts i NONE ≡ kept.starts
    start-same = rw stored.1 (get_or-set_same a.starts i kept.starts NONE (omega (arith, there, h.starts)))

    fit-other : (j : ℕ) → j ≢ i → get_or a'.fits j None ≡ get_or a.fits j None
    fit-other j ne = rw stored.0 (get_or-set_other a.fits i j kept.fit None ne)

    start-other : (j : ℕ) → j ≢ i → get_or a'.starts j NONE ≡ get_or a.starts j NONE
    start-other j ne = rw stored.1 (get_or-set_other a.starts i j kept.starts NONE ne)

    stored-answered : (left : List ℕ) (m : ℕ) → Keeps (calendar_of S i) (work_time_of S i) (bounds_at left i) kept
        → ((j : ℕ) → j < m → j ≢ i → (j < n) × (bounds_at left j ≡ bounds_at boxes j)) → Answered S m left a'
    stored-answered left m is others =
        record {
          fits = ap length stored.0 ∙ length-set a.fits i kept.fit ∙ h.fits;
          starts = ap length stored.1 ∙ length-set a.starts i kept.starts ∙ h.starts;
          keeps = λ j l. go j l (ℕ_discrete j i);
        }
      where
        go : (j : ℕ) → j < m → Dec (j ≡ i) → KeepsAt S left a' j
        go j l (yes q) = rw (q, fit-same, start-same) is
        go j l (no ne) = let (before, same) = others j l ne in rw (fit-other j ne, start-other j ne, same) (h.keeps j before)

    -- in its turn, while the boxes stay
    pub next-answered : i ≡ n → Keeps (calendar_of S i) (work_time_of S i) (bounds_at boxes i) kept → Answered S (n + 1) boxes a'
    next-answered q is = stored-answered boxes (n + 1) is (λ j l ne. (omega arith, refl))

    -- for other bounds
    pub moved-answered : (left : List ℕ) (b : Bounds) → left ≡ with_bounds boxes i b
        → Keeps (calendar_of S i) (work_time_of S i) (bounds_at left i) kept → Answered S n left a'
    moved-answered left b e is = stored-answered left n is (λ j l ne. (l, ap (λ (x : List ℕ). bounds_at x j) e ∙ bounds-other boxes i j b ne))
