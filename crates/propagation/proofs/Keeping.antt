-- What passes the tests is small enough for a turn, and the answers kept stay right when a box changes. Assumes nothing.
use Rattle.std.specs.Prelude.{Option, None}
use Rattle.calendar.specs.declared.Window.{Window}
use mathlib.Core.Path.{◌≡◌, refl, sym, ◌∙◌}
use mathlib.Core.Logic.{◌≢◌}
use mathlib.Core.Bool.{Bool, true, false}
use mathlib.Core.List.{List}
use Prim.Native.Nat.{ℕ, ◌≤◌, ◌<◌}
use native.Mathlib.Decide.{ℕ_discrete}
use native.Mathlib.Omega.{arith}
use lib.Dec.{ltb}
use lib.ListN.{get_or, set, length-set, get_or-eq_default}
use lib.Seq.{get_or-set_same, get_or-set_other}
use borrow.Author.Tests.{ltb-true, ltb-false}
use Rattle.units.specs.Limits.{most_tasks, most_height}
use Rattle.units.specs.declared.Bounds.{Bounds}
use Rattle.plan.specs.Plan.{Plan, room_count, task_count, heights_of, height_of}
use Rattle.plan.specs.Boxes.{with_bounds}
use Rattle.plan.specs.Passed.{Passed}
use Rattle.plan.proofs.Boxes.{bounds-other}
use Rattle.plan.proofs.Passed.{room-heights}
use Rattle.steps.specs.declared.Step.{Step}
use Rattle.steps.specs.Load.{fit_at}
use Rattle.steps.specs.Steps.{moved, judge}
use Rattle.steps.proofs.Changes.{judge-change, change-passes}
use Rattle.turns.specs.Inner.Ready.{RoomReady, Ready, PairsReady}
use Rattle.turns.specs.Inner.Kept.{Keeping}
use Rattle.propagation.specs.Inner.Fitting.{Fitting}
use Rattle.propagation.proofs.Fits.{fitting}

-- ---- what passes the tests is small enough, before and after a step

module _ (P : Plan) (boxes : List ℕ) (passed : Passed P boxes) where
  small : (r : ℕ) → r < room_count P → (i : ℕ) (b : Bool) → ltb i (task_count P) ≡ b → get_or (heights_of P r) i 0 ≤ most_height
  unfolding height_of
  small r l i true e = (passed.task i (ltb-true _ _ e)).height r l
  small r l i false e =
      let past = ltb-false i (task_count P) e in
      omega (arith, get_or-eq_default (heights_of P r) 0 {n = i} (omega (arith, room-heights P boxes passed r l)))

  room-ready : (r : ℕ) → r < room_count P → RoomReady (heights_of P r)
  room-ready r l =
      record { few = omega (arith, passed.tasks, room-heights P boxes passed r l); small = λ i. small r l i (ltb i (task_count P)) refl }

  pub ready : Ready (room_count P) (task_count P) P.heights boxes
  unfolding heights_of
  ready =
      record {
        rooms_ready = record { few_rooms = passed.rooms; few_tasks = passed.tasks; each = passed.heights; room = room-ready };
        sized = passed.boxes;
        latest = λ i l. let b = (passed.task i l).box in omega (arith, passed.hours);
        shortest = λ i l. let b = (passed.task i l).box in omega (arith, passed.hours);
      }

  pub pairs_ready : PairsReady P
  pairs_ready = record { few = passed.few_pairs; pair = passed.pair }

-- ---- a box is stored, and its task's answer worked out anew

module _ (P : Plan) (boxes : List ℕ) (fits : List (Option Window)) (k : Keeping P boxes fits) where
  fit-other : (i j : ℕ) (b : Bounds) → j ≢ i → fit_at P.shifts (with_bounds boxes i b) j ≡ fit_at P.shifts boxes j
  unfolding fit_at
  fit-other i j b ne = rw (bounds-other boxes i j b ne)

  module _ (x : Step) (i : ℕ) (b : Bounds) (moves_so : judge P boxes x ≡ moved (with_bounds boxes i b)) (there : i < task_count P) where
    passes-moved : Passed P (with_bounds boxes i b)
    passes-moved = change-passes P boxes (with_bounds boxes i b) (judge-change P boxes k.passed.boxes x (with_bounds boxes i b) moves_so) k.passed

    -- what `move_bounds` asks
    pub may-move : (i < most_tasks) × Fitting P.shifts (with_bounds boxes i b) i
    may-move = (omega (arith, there, k.passed.tasks), fitting P _ passes-moved i there)

    pub keeps-moved : {left : List ℕ} {fits' : List (Option Window)} → (left ≡ with_bounds boxes i b) × (fits' ≡ set fits i (fit_at P.shifts left i))
        → Keeping P left fits'
    keeps-moved {left} {fits'} (e, f) =
        rw (f, e)
        record {
          passed = passes-moved;
          kept = λ j l. go j l (ℕ_discrete j i);
          full = length-set fits i _ ∙ k.full;
        }
      where
        new : (Option Window)
        new = fit_at P.shifts (with_bounds boxes i b) i

        go : (j : ℕ) → j < task_count P → Dec (j ≡ i) → get_or (set fits i new) j None ≡ fit_at P.shifts (with_bounds boxes i b) j
        go j l (yes q) = rw q (get_or-set_same fits i new None (omega (arith, there, k.full, k.passed.tasks)))
        go j l (no q) = get_or-set_other fits i j new None q ∙ k.kept j l ∙ sym (fit-other i j b q)
