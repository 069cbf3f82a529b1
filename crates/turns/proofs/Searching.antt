-- Laws of the search for the first admitted step, over the answers that are kept: where a step of each kind is admitted, and what the search finds
-- once it has passed over the tasks and the hours in which none is. Assumes nothing.
use Rattle.std.specs.Prelude.{if◌then◌else◌}
use mathlib.Core.Path.{◌≡◌, refl, sym, ap, ◌∙◌}
use mathlib.Core.Bool.{Bool, true, false, not}
use Rattle.std.specs.Prelude.{Option, None, Some}
use mathlib.Core.List.{List, [], ◌∷◌, map}
use Prim.Native.Nat.{ℕ, ◌+◌, ◌≤◌, ◌<◌, min}
use native.Mathlib.Omega.{arith}
use lib.Dec.{leb, ltb}
use lib.ListN.{length, get_or}
use borrow.Author.Tests.{lt-ltb, le-ltb, le-leb, lt-leb}
use Rattle.units.specs.Choice.{◌and◌, some_if, on_option, ◌or_else◌, first_of}
use Rattle.units.specs.declared.Bounds.{Bounds}
use Rattle.units.specs.declared.Pair.{Pair}
use Rattle.units.proofs.Choices.{and_both, not_left, not_right, if-true, if-all, none-if}
use Rattle.units.proofs.Choices.{first-all-none}
use Rattle.plan.specs.Plan.{Plan, room_count, task_count, pair_count, capacity_of, room_part, heights_of, pair_of}
use Rattle.plan.specs.Boxes.{bounds_at}
use Rattle.plan.proofs.Passed.{room-length, room_at}
use Rattle.units.proofs.Choices.{and-rest, first-eq, first_rest, front-first}
use Rattle.calendar.specs.declared.Window.{Window}
use Rattle.calendar.specs.Rule.{lst, ect}
use Rattle.steps.specs.declared.Step.{Step}
use Rattle.steps.specs.declared.StepKind.{StepKind}
use Rattle.steps.specs.declared.StepKind.TheVariants.{Calendar, Overload, Lower, Upper, Forward, Backward}
use Rattle.steps.specs.declared.Judged.{Judged}
use Rattle.steps.specs.declared.Judged.TheVariants.{Unknown, NotAdmitted, Impossible, Moved}
use Rattle.steps.specs.Steps.{step, letter_c, letter_o, Kind, kind_c, kind_o, kind_l, kind_u, kind_f, kind_b, kind_of, kind_in, is_step, on_fit, same_bounds}
use Rattle.steps.specs.Filter.{first_of_kind, first_by, filter_order}
use Rattle.turns.specs.Inner.Kept.{load_of, excess_by, on_judged, calendar_by, lower_by, upper_by, move_by, bound_by, pair_by, judge_kind_by, judge_by}
use Rattle.turns.specs.Inner.Kept.{admitted_by}
use Rattle.turns.specs.Inner.Finding.{admits, letter_of, pair_letter_of, first_hour, end_hour, Loaded, first_calendar, room_overload}
use Rattle.turns.specs.Inner.Finding.{first_overload, first_pair}

-- ---- what is admitted

judged-is : (j : Judged) (x : Step) → on_judged j None None (Some x) (λ i b. Some x) ≡ some_if (admits j) x
unfolding on_judged admits
judged-is Unknown x = refl
judged-is NotAdmitted x = refl
judged-is Impossible x = refl
judged-is (Moved i b) x = refl

-- C, of a task with no valid triple, and of one with a window
pub narrowed : (fit : Option Window) (i : ℕ) (b : Bounds) (r : Bool) → r ≡ on_option fit true (λ w. not (same_bounds w.bounds b))
    → r ≡ admits (calendar_by fit i b)
unfolding admits calendar_by on_judged on_fit on_option
narrowed None i b r h = h
narrowed (Some w) i b r h = h ∙ go (same_bounds w.bounds b)
  where
    go : (same : Bool) → not same ≡ admits (if same then NotAdmitted else Moved i w.bounds)
    go true = unfold admits on_judged in refl
    go false = unfold admits on_judged in refl

-- O, L and U
stops-is : (p : Bool) → admits (if p then Impossible else NotAdmitted) ≡ p
unfolding admits on_judged
stops-is true = refl
stops-is false = refl

moves-is : (p q : Bool) (i : ℕ) (b : Bounds) → admits (if p then (if q then Impossible else Moved i b) else NotAdmitted) ≡ p
unfolding admits on_judged
moves-is true true i b = refl
moves-is true false i b = refl
moves-is false q i b = refl

-- the kind of each letter
is-C : kind_of letter_c ≡ kind_c
unfolding kind_of
is-C = refl

is-O : kind_of letter_o ≡ kind_o
unfolding kind_of
is-O = refl

is-L : kind_of (letter_of true) ≡ kind_l
unfolding kind_of letter_of
is-L = refl

is-U : kind_of (letter_of false) ≡ kind_u
unfolding kind_of letter_of
is-U = refl

is-F : kind_of (pair_letter_of true) ≡ kind_f
unfolding kind_of pair_letter_of
is-F = refl

is-B : kind_of (pair_letter_of false) ≡ kind_b
unfolding kind_of pair_letter_of
is-B = refl

module _ (P : Plan) (boxes : List ℕ) (fits : List (Option Window)) where
  admitted-is : (letter i t : ℕ) (k : Kind) → kind_of letter ≡ k → is_step P k i t ≡ true
      → admitted_by P boxes fits (step letter i t)
      ≡ some_if (admits (judge_kind_by P boxes fits k i t)) (step letter i t)
  unfolding admitted_by judge_by
  admitted-is letter i t k q e = rw (q, if-true _ _ _ e) (judged-is _ _)

  not-admitted : (letter i t : ℕ) (k : Kind) → kind_of letter ≡ k → admits (judge_kind_by P boxes fits k i t) ≡ false
      → admitted_by P boxes fits (step letter i t) ≡ None
  unfolding admitted_by judge_by
  not-admitted letter i t k q e =
      if-all (λ (j : Judged). on_judged j None None (Some (step letter i t)) (λ k b. Some (step letter i t)) ≡ None)
      (is_step P (kind_of letter) i t)
      (judge_kind_by P boxes fits (kind_of letter) i t) Unknown
      (λ known. rw q (judged-is _ _ ∙ none-if _ _ e))
      (λ unknown. unfold on_judged in refl)

  -- ---- C

  pub calendar-is : (i : ℕ) → i < task_count P
      → admitted_by P boxes fits (step letter_c i 0)
      ≡ some_if (admits (calendar_by (get_or fits i None) i (bounds_at boxes i))) (step letter_c i 0)
  unfolding judge_kind_by is_step
  calendar-is i l = admitted-is letter_c i 0 kind_c is-C (and_both _ _ (lt-ltb _ _ l) refl)

  -- ---- F and B

  pub pair-is : (lower : Bool) (k : ℕ) → k < pair_count P
      → admitted_by P boxes fits (step (pair_letter_of lower) k 0)
      ≡ some_if (admits (pair_by P boxes fits lower (pair_of P k))) (step (pair_letter_of lower) k 0)
  unfolding judge_kind_by is_step
  pair-is true k l = admitted-is (pair_letter_of true) k 0 kind_f is-F (and_both _ _ (lt-ltb _ _ l) refl)
  pair-is false k l = admitted-is (pair_letter_of false) k 0 kind_b is-B (and_both _ _ (lt-ltb _ _ l) refl)

  -- ---- O

  pub overload-is : (room t : ℕ) → room < room_count P → t < P.shifts.hours
      → admitted_by P boxes fits (step letter_o room t)
      ≡ some_if (ltb (capacity_of P room) (load_of fits (heights_of P room) t)) (step letter_o room t)
  unfolding judge_kind_by is_step
  overload-is room t l m =
      admitted-is letter_o room t kind_o is-O (and_both _ _ (lt-ltb _ _ l) (lt-ltb _ _ m))
      ∙ ap (λ (p : Bool). some_if p (step letter_o room t)) (stops-is _)

  -- ---- L and U

  module _ (i t : ℕ) where
    -- a task with no valid triple
    pub none_never : (lower : Bool) → get_or fits i None ≡ None
        → admitted_by P boxes fits (step (letter_of lower) i t) ≡ None
    unfolding judge_kind_by bound_by on_fit admits on_judged
    none_never true e = not-admitted (letter_of true) i t kind_l is-L (rw e)
    none_never false e = not-admitted (letter_of false) i t kind_u is-U (rw e)

    module _ (w : Window) (b : Bounds) (e : get_or fits i None ≡ Some w) (f : b ≡ bounds_at boxes i) where
      excess : Bool
      excess = excess_by P fits w i t

      lower-is : admits (judge_kind_by P boxes fits kind_l i t) ≡ (ltb t (ect w) and leb b.earliest.0 t and excess)
      unfolding judge_kind_by bound_by on_fit move_by lower_by excess
      lower-is = rw (e, ← f) (moves-is _ _ _ _)

      upper_is : admits (judge_kind_by P boxes fits kind_u i t)
          ≡ (leb (lst w) t and ltb t (b.latest.0 + b.shortest.0) and excess)
      unfolding judge_kind_by bound_by on_fit move_by upper_by excess
      upper_is = rw (e, ← f) (moves-is _ _ _ _)

      -- before its first hour, from its end on, and between
      pub none_before : (lower : Bool) → t < first_hour lower w b
          → admitted_by P boxes fits (step (letter_of lower) i t) ≡ None
      unfolding first_hour
      none_before true l = not-admitted (letter_of true) i t kind_l is-L (lower-is ∙ not_right _ _ (not_left _ _ (lt-leb b.earliest.0 t l)))
      none_before false l = not-admitted (letter_of false) i t kind_u is-U (upper_is ∙ not_left _ _ (lt-leb (lst w) t l))

      pub none_after : (lower : Bool) → end_hour lower w b ≤ t
          → admitted_by P boxes fits (step (letter_of lower) i t) ≡ None
      unfolding end_hour
      none_after true l = not-admitted (letter_of true) i t kind_l is-L (lower-is ∙ not_left _ _ (le-ltb t (ect w) l))
      none_after false l =
          not-admitted (letter_of false) i t kind_u is-U (upper_is ∙ not_right _ _ (not_left _ _ (le-ltb t (b.latest.0 + b.shortest.0) l)))

      pub excess-is : (lower : Bool) → i < task_count P → t < P.shifts.hours → first_hour lower w b ≤ t → t < end_hour lower w b
          → admitted_by P boxes fits (step (letter_of lower) i t)
          ≡ some_if (excess_by P fits w i t) (step (letter_of lower) i t)
      unfolding first_hour end_hour is_step excess
      excess-is true l m n o =
          admitted-is (letter_of true) i t kind_l is-L (and_both _ _ (lt-ltb _ _ l) (lt-ltb _ _ m))
          ∙ ap (λ (p : Bool). some_if p (step (letter_of true) i t))
          (lower-is ∙ and-rest _ _ (lt-ltb t (ect w) o) ∙ and-rest _ _ (le-leb b.earliest.0 t n))
      excess-is false l m n o =
          admitted-is (letter_of false) i t kind_u is-U (and_both _ _ (lt-ltb _ _ l) (lt-ltb _ _ m))
          ∙ ap (λ (p : Bool). some_if p (step (letter_of false) i t))
          (upper_is ∙ and-rest _ _ (le-leb (lst w) t n) ∙ and-rest _ _ (lt-ltb t (b.latest.0 + b.shortest.0) o))

  -- ---- what the loops find

  module _ (lower : Bool) where
    -- L, or U, of a task in an hour, and the first of a task
    abbrev pub at_hour : ℕ → ℕ → Option Step
    at_hour i t = admitted_by P boxes fits (step (letter_of lower) i t)

    abbrev pub of_task : ℕ → Option Step
    of_task i = first_of (at_hour i) P.shifts.hours

    -- a task with no valid triple
    pub never : (i : ℕ) → get_or fits i None ≡ None → of_task i ≡ None
    never i e = first-all-none (at_hour i) P.shifts.hours (λ t l. none_never i t lower e)

    module _ (i : ℕ) (w : Window) (b : Bounds) (e : get_or fits i None ≡ Some w) (f : b ≡ bounds_at boxes i) where
      -- the hours before the first, and those from the end on
      early : (t : ℕ) → t ≡ first_hour lower w b → first_of (at_hour i) t ≡ None
      early t q = first-all-none (at_hour i) t (λ u l. none_before i u w b e f lower (omega arith))

      pub late : (end clip t : ℕ) → end ≡ end_hour lower w b → clip ≡ min end P.shifts.hours → clip ≤ t → first_of (at_hour i) t ≡ None
          → of_task i ≡ None
      late end clip t q r l n = first_rest (at_hour i) t P.shifts.hours n (λ u k h. none_after i u w b e f lower (omega arith))

      -- an hour between, by the test on its loads
      pub test-hour : (from end clip t : ℕ) (r : Bool) → from ≡ first_hour lower w b → end ≡ end_hour lower w b → clip ≡ min end P.shifts.hours
          → from ≤ t → t < clip
          → i < task_count P → r ≡ excess_by P fits w i t → at_hour i t ≡ some_if r (step (letter_of lower) i t)
      test-hour from end clip t r p q s k l m h = excess-is i t w b e f lower m (omega arith) (omega arith) (omega arith) ∙ rw h

      -- the hours before the first, and those after it that are passed over
      pub passed : (from end clip t : ℕ) → from ≡ first_hour lower w b → end ≡ end_hour lower w b → clip ≡ min end P.shifts.hours
          → i < task_count P → (from ≤ t) × ((u : ℕ) → from ≤ u → u < t → (u < clip) × (excess_by P fits w i u ≡ false))
          → first_of (at_hour i) t ≡ None
      passed from end clip t p q s m h =
          first_rest (at_hour i) from t (early from p)
          (λ u k l. let none = h.1 u k l in test-hour from end clip u false p q s k none.0 m (sym none.1))

-- ---- what the loop over the tasks finds of C

pub calendar-at : (boxes : List ℕ) (fits : List (Option Window)) (i : ℕ) (b : Bounds) (r : Bool) → b ≡ bounds_at boxes i
    → r ≡ admits (calendar_by (get_or fits i None) i b)
    → some_if (admits (calendar_by (get_or fits i None) i (bounds_at boxes i))) (step letter_c i 0) ≡ some_if r (step letter_c i 0)
calendar-at boxes fits i b r f q = rw (q, f)

-- and what the loop over the pairs finds of F, or of B
pub pair-at : (P : Plan) (boxes : List ℕ) (fits : List (Option Window)) (lower : Bool) (k : ℕ) (x : Pair) (j : Judged) (r : Bool) → x ≡ pair_of P k
    → j ≡ pair_by P boxes fits lower x → r ≡ admits j
    → some_if (admits (pair_by P boxes fits lower (pair_of P k))) (step (pair_letter_of lower) k 0) ≡ some_if r (step (pair_letter_of lower) k 0)
pair-at P boxes fits lower k x j r e f q = rw (q, f, e)

-- ---- the first of all, from the searches for each kind

module _ (P : Plan) (boxes : List ℕ) (fits : List (Option Window)) where
  abbrev First : Kind → Option Step
  First = first_of_kind P (admitted_by P boxes fits)

  -- each search finds the first of its kind
  pub calendar-first : first_calendar P boxes fits ≡ First kind_c
  unfolding first_calendar first_of_kind
  calendar-first = first-eq _ _ (task_count P) (λ i l. sym (calendar-is P boxes fits i l))

  pub pair-first : (lower : Bool) → first_pair P boxes fits lower
      ≡ first_of (λ k. admitted_by P boxes fits (step (pair_letter_of lower) k 0)) (pair_count P)
  unfolding first_pair
  pair-first lower = first-eq _ _ (pair_count P) (λ k l. sym (pair-is P boxes fits lower k l))

  module _ (loads : List ℕ) (loaded : Loaded P.shifts.hours (room_count P) (task_count P) loads fits P.heights) where
    room-first : (room : ℕ) → room < room_count P
        → room_overload room (room_part P.shifts.hours loads room) (capacity_of P room)
        ≡ first_of (λ t. admitted_by P boxes fits (step letter_o room t)) P.shifts.hours
    unfolding room_overload heights_of
    room-first room l =
        rw (room-length (room_count P) P.shifts.hours loads loaded.each room l)
        (first-eq _ _ P.shifts.hours
        (λ t m. rw (room_at P.shifts.hours loads room t m ∙ loaded.load room l t m) (sym (overload-is P boxes fits room t l m))))

    pub overload-first : first_overload P loads ≡ First kind_o
    unfolding first_overload first_of_kind
    overload-first = first-eq _ _ (room_count P) room-first

  -- the first step of a kind, by the code's name of it
  abbrev pub of_kind : StepKind → Option Step
  of_kind kind = First (kind_in (Some kind))

  -- and of several, one kind after another
  each-first : (kinds : List StepKind) → first_of (λ n. of_kind (get_or kinds n Calendar)) (length kinds)
      ≡ first_by P (admitted_by P boxes fits) (map (λ k. kind_in (Some k)) kinds)
  unfolding first_by first_of
  each-first [] = refl
  each-first (k ∷ ks) = front-first _ (length ks) ∙ ap (◌or_else◌ (of_kind k)) (each-first ks)

  -- of those in the code's order, which is the filter's
  pub in-order : first_of (λ n. of_kind (get_or (Overload ∷ Calendar ∷ Lower ∷ Upper ∷ Forward ∷ Backward ∷ []) n Calendar)) 6
      ≡ first_by P (admitted_by P boxes fits) filter_order
  unfolding filter_order
  in-order = each-first (Overload ∷ Calendar ∷ Lower ∷ Upper ∷ Forward ∷ Backward ∷ [])
