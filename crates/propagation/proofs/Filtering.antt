-- Laws of the filter's loop: the steps taken, logged in the first cells, what holds at each turn, and what each case of a turn makes of it; and of
-- the memory that it is given for the loads. Assumes nothing.
use Rattle.std.specs.Prelude.{Option}
use Rattle.calendar.specs.declared.Window.{Window}
use mathlib.Core.Path.{◌≡◌, refl, sym, ap, ◌∙◌}
use mathlib.Core.Bool.{true}
use Rattle.std.specs.Prelude.{None, Some}
use mathlib.Core.List.{List, [], ◌∷◌, ◌++◌, map, append_assoc, append-nil, map-append}
use Prim.Native.Nat.{ℕ, zero, suc, ◌+◌, ◌-◌, ◌≤◌, ◌<◌}
use native.Mathlib.Omega.{arith}
use lib.ListN.{length, get_or, set, take, drop, replicate, length-replicate, length-set, length-map, length-append}
use lib.Seq.{drop-cons, set_at, get_or-take, length-take-le}
use Rattle.std.proofs.lemmas.List.{set-set, set-get_or}
use Rattle.units.specs.Cells.{written}
use Rattle.units.specs.Limits.{most_tasks}
use Rattle.units.specs.declared.Bounds.{Bounds}
use Rattle.plan.specs.Plan.{Plan, task_count}
use Rattle.plan.specs.Boxes.{with_bounds}
use Rattle.plan.specs.Refusals.{fault}
use Rattle.plan.specs.Passed.{Passed}
use Rattle.plan.proofs.Boxes.{length-with}
use Rattle.steps.specs.declared.Step.{Step}
use Rattle.steps.specs.declared.Judged.{Judged}
use Rattle.steps.specs.declared.Judged.TheVariants.{Unknown, NotAdmitted, Impossible, Moved}
use Rattle.steps.specs.Load.{fit_at}
use Rattle.steps.specs.Steps.{judge, moved}
use Rattle.steps.specs.Filter.{Admitted, stops, moves, filter_order, next, Ending, settled, impossible, no_room, Run, ended, after, run}
use Rattle.steps.specs.Entry.{settled_after, impossible_after, no_room_for, ending_answer, one_for_each_step, FilterEnd, filter_end}
use Rattle.steps.specs.Inner.From.{logged_from}
use Rattle.steps.proofs.Searches.{Rightly, next-rightly}
use Rattle.steps.proofs.Runs.{run_settled, run-full, run-stops, run-moves, resumed}
use Rattle.steps.proofs.Entry.{one_each}
use Rattle.turns.specs.declared.turn.Turn.{Turn}
use Rattle.turns.specs.Inner.Kept.{Keeping, on_judged, admitted_of, turn, turn_of}
use Rattle.propagation.specs.Inner.Fitting.{Fitting}
use Rattle.propagation.proofs.Keeping.{may-move, keeps-moved}

-- ---- the steps taken

-- The first cells of the log lent hold the steps.
pub record Logs (kinds₀ tasks₀ hours₀ : List ℕ) (steps : List Step) (count : ℕ) (ks ts hs : List ℕ) : Type 0 where
  pub number : length steps ≡ count
  pub kinds : ks ≡ written (map (λ x. x.kind) steps) kinds₀
  pub tasks : ts ≡ written (map (λ x. x.task) steps) tasks₀
  pub hours : hs ≡ written (map (λ x. x.hour) steps) hours₀

-- What the filter has done by a turn: the steps taken, logged in the first cells, and the run that goes on from here.
pub record Taken (P : Plan) (opening kinds₀ tasks₀ hours₀ : List ℕ) (count : ℕ) (boxes kinds tasks hours : List ℕ) : Type 0 where
  pub steps : List Step
  pub room : count ≤ length kinds₀
  pub goes_on : run P opening (length kinds₀) ≡ resumed steps (run P boxes (length kinds₀ - count))
  pub logs : Logs kinds₀ tasks₀ hours₀ steps count kinds tasks hours

none-taken : (P : Plan) (boxes kinds tasks hours : List ℕ) → Taken P boxes kinds tasks hours 0 boxes kinds tasks hours
unfolding written
none-taken P boxes kinds tasks hours =
    record {
      steps = [];
      room = omega arith;
      goes_on = let e : length kinds - 0 ≡ length kinds = omega arith in rw e;
      logs = record { number = refl; kinds = refl; tasks = refl; hours = refl };
    }

-- what is left once so many steps were taken before, and then a run
abbrev Ends : Plan → ℕ → List ℕ → List ℕ → List ℕ → List ℕ → FilterEnd → Type 0
Ends P n opening kinds₀ tasks₀ hours₀ e = e ≡ logged_from n (run P opening (length kinds₀)) kinds₀ tasks₀ hours₀

-- a run with a given end leaves the memory so
ends_with : {r : Run} {kinds₀ tasks₀ hours₀ kinds tasks hours : List ℕ} {count : ℕ} (n : ℕ) (e : Ending) (steps : List Step) (boxes : List ℕ)
    → r ≡ ended e steps boxes → Logs kinds₀ tasks₀ hours₀ steps count kinds tasks hours
    → filter_end (ending_answer e (n + count)) boxes kinds tasks hours ≡ logged_from n r kinds₀ tasks₀ hours₀
unfolding logged_from
ends_with n e steps boxes is l = rw (is, l.kinds, l.tasks, l.hours, l.number)

-- a step more in one slice of the log
write-next : (f : Step → ℕ) (steps : List Step) (x : Step) (cells : List ℕ) (n : ℕ) → length steps ≡ n → n < length cells
    → set (written (map f steps) cells) n (f x) ≡ written (map f (steps ++ (x ∷ []))) cells
unfolding written
write-next f steps x cells n e l =
    let long : length (map f steps) ≡ n = length-map steps f ∙ e in
    let more : length (map f (steps ++ (x ∷ []))) ≡ suc n = length-map (steps ++ (x ∷ [])) f ∙ length-append steps (x ∷ []) ∙ (omega arith) in
    ap (λ (k : ℕ). set (map f steps ++ drop k cells) n (f x)) long
    ∙ ap (λ (c : List ℕ). set (map f steps ++ c) n (f x)) (drop-cons cells n 0 l)
    ∙ set_at (map f steps) (get_or cells n 0) (drop (suc n) cells) (f x) n long
    ∙ sym (append_assoc (map f steps) (f x ∷ []) (drop (suc n) cells))
    ∙ ap (λ (c : List ℕ). c ++ drop (suc n) cells) (sym (map-append f steps (x ∷ [])))
    ∙ ap (λ (k : ℕ). map f (steps ++ (x ∷ [])) ++ drop k cells) (sym more)

module _ (P : Plan) (opening kinds₀ tasks₀ hours₀ : List ℕ) (count : ℕ) (boxes kinds tasks hours : List ℕ)
    (t : Taken P opening kinds₀ tasks₀ hours₀ count boxes kinds tasks hours) where
  -- the log after one step more
  one_more : (x : Step) → count < length kinds₀ → length tasks₀ ≡ length kinds₀ → length hours₀ ≡ length kinds₀
      → Logs kinds₀ tasks₀ hours₀ (t.steps ++ (x ∷ [])) (count + 1) (set kinds count x.kind) (set tasks count x.task) (set hours count x.hour)
  one_more x l a b =
      record {
        number = length-append t.steps (x ∷ []) ∙ (omega (arith, t.logs.number));
        kinds = ap (λ (c : List ℕ). set c count x.kind) t.logs.kinds ∙ write-next (λ y. y.kind) t.steps x kinds₀ count t.logs.number l;
        tasks = ap (λ (c : List ℕ). set c count x.task) t.logs.tasks ∙ write-next (λ y. y.task) t.steps x tasks₀ count t.logs.number
            (omega arith);
        hours = ap (λ (c : List ℕ). set c count x.hour) t.logs.hours ∙ write-next (λ y. y.hour) t.steps x hours₀ count t.logs.number
            (omega arith);
      }

  some_room : count < length kinds₀ → length kinds₀ - count ≡ suc (length kinds₀ - (count + 1))
  some_room l = omega arith

  -- a step that moves is taken
  step-taken : (x : Step) (left : List ℕ) → next P boxes ≡ Some (moves x left) → count < length kinds₀ → length tasks₀ ≡ length kinds₀
      → length hours₀ ≡ length kinds₀
      → Taken P opening kinds₀ tasks₀ hours₀ (count + 1) left (set kinds count x.kind) (set tasks count x.task) (set hours count x.hour)
  unfolding after
  step-taken x left e l a b =
      let room = length kinds₀ - (count + 1) in
      record {
        steps = t.steps ++ (x ∷ []);
        room = omega arith;
        goes_on = t.goes_on
            ∙ ap (λ (k : ℕ). resumed t.steps (run P boxes k)) (some_room l)
            ∙ ap (resumed t.steps) (run-moves (next P) boxes room x left e)
            ∙ ap (λ (log : List Step). ended (run P left room).ending log (run P left room).boxes)
            (sym (append_assoc t.steps (x ∷ []) (run P left room).log));
        logs = one_more x l a b;
      }

  -- how a run ends, where so many steps were taken before it
  module _ (n : ℕ) where
    ends-settled : next P boxes ≡ None → Ends P n opening kinds₀ tasks₀ hours₀ (filter_end (settled_after (n + count)) boxes kinds tasks hours)
    unfolding ending_answer
    ends-settled e =
        ends_with n settled t.steps boxes
        (t.goes_on ∙ ap (resumed t.steps) (run_settled (next P) boxes _ e) ∙ ap (λ (log : List Step). ended settled log boxes) (append-nil t.steps))
        t.logs

    ends-full : (a : Admitted) → next P boxes ≡ Some a → length kinds₀ ≤ count
        → Ends P n opening kinds₀ tasks₀ hours₀ (filter_end (no_room_for (fault 32 0) (n + count)) boxes kinds tasks hours)
    unfolding ending_answer
    ends-full a e l =
        let z : length kinds₀ - count ≡ 0 = omega arith in
        ends_with n no_room t.steps boxes
        (t.goes_on
        ∙ ap (λ (k : ℕ). resumed t.steps (run P boxes k)) z
        ∙ ap (resumed t.steps) (run-full (next P) boxes a e)
        ∙ ap (λ (log : List Step). ended no_room log boxes) (append-nil t.steps))
        t.logs

    ends-stopped : (x : Step) → next P boxes ≡ Some (stops x) → count < length kinds₀ → length tasks₀ ≡ length kinds₀
        → length hours₀ ≡ length kinds₀
        → Ends P n opening kinds₀ tasks₀ hours₀
        (filter_end (impossible_after (n + (count + 1))) boxes (set kinds count x.kind) (set tasks count x.task) (set hours count x.hour))
    unfolding ending_answer
    ends-stopped x e l a b =
        ends_with n impossible (t.steps ++ (x ∷ [])) boxes
        (t.goes_on ∙ ap (λ (k : ℕ). resumed t.steps (run P boxes k)) (some_room l) ∙ ap (resumed t.steps) (run-stops (next P) boxes _ x e))
        (one_more x l a b)

-- ---- each turn

pub record Filtering (P : Plan) (opening kinds₀ tasks₀ hours₀ : List ℕ) (count : ℕ) (boxes kinds tasks hours : List ℕ) (fits : List (Option Window))
    : Type 0 where
  pub keeps : Keeping P boxes fits
  pub taken : Taken P opening kinds₀ tasks₀ hours₀ count boxes kinds tasks hours
  pub same_boxes : length boxes ≡ length opening
  pub same_kinds : length kinds ≡ length kinds₀
  pub same_tasks : length tasks ≡ length tasks₀
  pub same_hours : length hours ≡ length hours₀
  pub each_task : length tasks₀ ≡ length kinds₀
  pub each_hour : length hours₀ ≡ length kinds₀

pub filter-opens : {P : Plan} {boxes kinds tasks hours : List ℕ} {fits : List (Option Window)}
    → Passed P boxes × (one_for_each_step kinds tasks hours ≡ true)
    → ((i : ℕ) → i < task_count P → get_or fits i None ≡ fit_at P.shifts boxes i) → length fits ≡ most_tasks
    → Filtering P boxes kinds tasks hours 0 boxes kinds tasks hours fits
filter-opens {P} {boxes} {kinds} {tasks} {hours} (p, e) q r =
    record {
      keeps = record { passed = p; kept = q; full = r };
      taken = none-taken P boxes kinds tasks hours;
      same_boxes = refl;
      same_kinds = refl;
      same_tasks = refl;
      same_hours = refl;
      each_task = (one_each kinds tasks hours e).0;
      each_hour = (one_each kinds tasks hours e).1;
    }

-- an admitted step that moves no bound says impossible
admitted-stops : (boxes : List ℕ) (x : Step) (j : Judged) → ((i : ℕ) (b : Bounds) → j ≡ Moved i b → ⊥) → admitted_of boxes x j ≡ stops x
unfolding admitted_of on_judged
admitted-stops boxes x Unknown still = refl
admitted-stops boxes x NotAdmitted still = refl
admitted-stops boxes x Impossible still = refl
admitted-stops boxes x (Moved i b) still = absurd (still i b refl)

admitted-moves : (boxes : List ℕ) (x : Step) {j : Judged} {i : ℕ} {b : Bounds} → j ≡ Moved i b
    → admitted_of boxes x j ≡ moves x (with_bounds boxes i b)
unfolding admitted_of on_judged
admitted-moves boxes x e = rw e

module _ {P : Plan} {opening kinds₀ tasks₀ hours₀ : List ℕ} {count : ℕ} {boxes kinds tasks hours : List ℕ} {fits : List (Option Window)}
    (at : Filtering P opening kinds₀ tasks₀ hours₀ count boxes kinds tasks hours fits) {r : Option Turn}
    (answers : Keeping P boxes fits → turn_of boxes r ≡ next P boxes) (n : ℕ) where
  pub settles : r ≡ None → Ends P n opening kinds₀ tasks₀ hours₀ (filter_end (settled_after (n + count)) boxes kinds tasks hours)
  settles e = ends-settled P opening kinds₀ tasks₀ hours₀ count boxes kinds tasks hours at.taken n (sym (answers at.keeps) ∙ ap (turn_of boxes) e)

  module _ {x : Step} {j : Judged} (found : r ≡ Some (turn x j)) where
    next-is : next P boxes ≡ Some (admitted_of boxes x j)
    next-is = sym (answers at.keeps) ∙ ap (turn_of boxes) found

    pub fills : length kinds ≤ count
        → Ends P n opening kinds₀ tasks₀ hours₀ (filter_end (no_room_for (fault 32 0) (n + count)) boxes kinds tasks hours)
    fills l = ends-full P opening kinds₀ tasks₀ hours₀ count boxes kinds tasks hours at.taken n _ next-is (omega (arith, at.same_kinds))

    module _ (l : count < length kinds) where
      pub stops_at : ((i : ℕ) (b : Bounds) → j ≡ Moved i b → ⊥)
          → Ends P n opening kinds₀ tasks₀ hours₀
          (filter_end (impossible_after (n + (count + 1))) boxes (set kinds count x.kind) (set tasks count x.task) (set hours count x.hour))
      stops_at still =
          ends-stopped P opening kinds₀ tasks₀ hours₀ count boxes kinds tasks hours at.taken n x
          (next-is ∙ ap Some (admitted-stops boxes x j still)) (omega (arith, at.same_kinds)) at.each_task at.each_hour

      -- the next turn, on the boxes and the answers once the bounds are moved
      module _ {i : ℕ} {b : Bounds} (m : j ≡ Moved i b) (tells : r ≡ Some (turn x (Moved i b)) → i < task_count P) where
        pub moved_task : i < task_count P
        moved_task = tells (found ∙ ap (λ (k : Judged). Some (turn x k)) m)

        next-moves : next P boxes ≡ Some (moves x (with_bounds boxes i b))
        next-moves = next-is ∙ ap Some (admitted-moves boxes x m)

        moves_so : judge P boxes x ≡ moved (with_bounds boxes i b)
        unfolding Rightly
        moves_so = next-rightly P boxes filter_order (moves x (with_bounds boxes i b)) next-moves

        pub filter-may-move : (i < most_tasks) × Fitting P.shifts (with_bounds boxes i b) i
        filter-may-move = may-move P boxes fits at.keeps x i b moves_so moved_task

        pub goes_on : {boxes' : List ℕ} {fits' : List (Option Window)}
            → (boxes' ≡ with_bounds boxes i b) × (fits' ≡ set fits i (fit_at P.shifts boxes' i))
            → Filtering P opening kinds₀ tasks₀ hours₀ (count + 1) boxes' (set kinds count x.kind) (set tasks count x.task)
            (set hours count x.hour) fits'
        goes_on {boxes'} {fits'} (e, f) =
            record {
              keeps = keeps-moved P boxes fits at.keeps x i b moves_so moved_task (e, f);
              taken =
                  step-taken P opening kinds₀ tasks₀ hours₀ count boxes kinds tasks hours at.taken x boxes'
                  (next-moves ∙ ap (λ (left : List ℕ). Some (moves x left)) (sym e))
                  (omega (arith, at.same_kinds))
                  at.each_task
                  at.each_hour;
              same_boxes = ap length e ∙ length-with boxes i b ∙ at.same_boxes;
              same_kinds = length-set kinds count x.kind ∙ at.same_kinds;
              same_tasks = length-set tasks count x.task ∙ at.same_tasks;
              same_hours = length-set hours count x.hour ∙ at.same_hours;
              each_task = at.each_task;
              each_hour = at.each_hour;
            }

-- the answers before one task's became another
pub put-back : (fits : List (Option Window)) {fits' : List (Option Window)} (i : ℕ) (fit : Option Window) → fits' ≡ set fits i fit
    → set fits' i (get_or fits i None) ≡ fits
put-back fits i fit e =
    ap (λ (others : List (Option Window)). set others i (get_or fits i None)) e ∙ set-set fits i fit (get_or fits i None) ∙ set-get_or fits i None

-- ---- the first numbers of an array of zeros, lent

all-zero : (n k : ℕ) → ◌≡◌ {A = ℕ} (get_or (replicate n 0) k 0) 0
all-zero zero k = refl
all-zero (suc n) zero = refl
all-zero (suc n) (suc k) = all-zero n k

module _ (size count : ℕ) (l : count ≤ size) where
  -- the array that is lent
  abbrev pub zeros : List ℕ
  zeros = replicate size 0

  pub lent_length : count ≡ length (take count zeros)
  lent_length = sym (length-take-le count zeros (rw (length-replicate size) l))

  pub lent-zero : (k : ℕ) → k < length (take count zeros) → get_or (take count zeros) k 0 ≡ 0
  lent-zero k m = get_or-take count zeros k 0 (omega (arith, lent_length)) ∙ all-zero size k
