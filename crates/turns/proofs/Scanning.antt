-- Laws of the scans of a room's loads: what the greatest tells, what the first above a limit does, and the hours in which a task has no excess.
-- Assumes nothing.
use Rattle.std.specs.Prelude.{Option, None, Some}
use Rattle.std.specs.Option.{MatchOption}
use Rattle.std.specs.List.{AllWithin, HoldsAt}
use mathlib.Core.Path.{◌≡◌, refl, sym, ap, ◌∙◌}
use mathlib.Core.Logic.{◌≢◌}
use mathlib.Core.Bool.{Bool, true, false}
use mathlib.Core.List.{List}
use Prim.Native.Nat.{ℕ, zero, suc, ◌+◌, ◌-◌, ◌≤◌, ◌<◌, min, max}
use native.Mathlib.Omega.{arith}
use lib.Dec.{ltb, eqb}
use lib.ListN.{length, get_or, take, drop, length-take, length-drop}
use lib.Seq.{get_or-take, get_or-drop}
use borrow.Author.Tests.{lt-ltb, le-ltb, le-leb, lt-leb, ltb-true, ltb-false, eqb-true, eqb-false}
use Rattle.units.specs.Choice.{some_if, first_of}
use Rattle.units.specs.Sums.{max_to}
use Rattle.units.proofs.Choices.{and_both, not_left, not_right, some-if, none-if, if_none, if_some, else-case}
use Rattle.units.proofs.Choices.{first-none, first-all-none, first-hit}
use Rattle.calendar.specs.declared.Window.{Window}
use Rattle.calendar.specs.Rule.{lst, ect}
use Rattle.steps.specs.Load.{must_run}
use Rattle.turns.specs.Inner.Kept.{exceeds}
use Rattle.turns.proofs.Judging.{exceeds-in, exceeds-out}

-- ---- the greatest

-- no number is above it
max-bounds : (f : ℕ → ℕ) (n j : ℕ) → j < n → f j ≤ max_to f n
unfolding max_to
max-bounds f zero j l = absurd (omega arith)
max-bounds f (suc n) j l = go (λ (m : j < n). max-bounds f n j m) (eqb j n) refl
  where
    go : (j < n → f j ≤ max_to f n) → (b : Bool) → eqb j n ≡ b → f j ≤ max (max_to f n) (f n)
    go below true q = let same : f j ≡ f n = ap f (eqb-true j n q) in omega arith
    go below false q = let ne : j ≢ n = eqb-false j n q in omega (arith, below (omega arith))

-- ---- the first that passes a test

-- the first number of a list that passes, as the library's own says it
module _ (test : ℕ → Bool) (xs : List ℕ) where
  abbrev At : ℕ → Option ℕ
  At i = some_if (test (get_or xs i 0)) i

  none-to : (n : ℕ) → AllWithin (λ x. test x ≡ false) xs 0 n → first_of At n ≡ None
  none-to n h = first-all-none At n (λ i l. none-if _ _ (h i 0 (omega arith) l))

  pub first-position : (r : Option ℕ)
      → MatchOption r (AllWithin (λ x. test x ≡ false) xs 0 (length xs))
      (λ i. (i < length xs) × HoldsAt (λ x. test x ≡ true) xs i × AllWithin (λ x. test x ≡ false) xs 0 i)
      → r ≡ first_of At (length xs)
  first-position None h = sym (none-to _ h)
  first-position (Some i) h = sym (first-hit At i _ _ h.0 (none-to i h.2) (some-if _ _ (h.1 0)))

-- none, where the greatest does not
pub none-above : (xs : List ℕ) (limit most : ℕ) → most ≡ max_to (λ t. get_or xs t 0) (length xs) → most ≤ limit
    → None ≡ first_of (λ t. some_if (ltb limit (get_or xs t 0)) t) (length xs)
none-above xs limit most e l =
    sym
    (first-all-none _ (length xs)
    (λ t m. none-if _ _ (le-ltb limit (get_or xs t 0) (omega (arith, e, max-bounds (λ t. get_or xs t 0) (length xs) t m)))))

module _ (test : ℕ → Bool) where
  -- none passes, and none before the first that does
  none-passes : (n : ℕ) → first_of (λ t. some_if (test t) t) n ≡ None → (t : ℕ) → t < n → test t ≡ false
  none-passes n e t l = if_none _ _ (first-none _ n e t l)

  pub first-passes : (n i : ℕ) → first_of (λ t. some_if (test t) t) n ≡ Some i
      → (i < n) × (test i ≡ true) × ((t : ℕ) → t < i → test t ≡ false)
  unfolding first_of
  first-passes zero i e = absurd (let z : ◌≡◌ {A = ℕ} 0 1 = cc in omega arith)
  first-passes (suc n) i e =
      else-case _ _ _ e
      (λ none last. let (passes, q) = if_some _ _ _ last in
      (omega (arith, q), rw q at passes, λ t l. none-passes n none t (omega (arith, q))))
      (λ a found same. let (l, passes, before) = first-passes n i (found ∙ same) in (omega arith, passes, before))

-- what is made of the number that is found
module _ {A : Type 0} (f : ℕ → A) (test : ℕ → Bool) (n : ℕ) where
  pub made-none : first_of (λ t. some_if (test t) t) n ≡ None → first_of (λ t. some_if (test t) (f t)) n ≡ None
  made-none e = first-all-none _ n (λ t l. none-if _ _ (none-passes test n e t l))

  pub made-of : (i : ℕ) → first_of (λ t. some_if (test t) t) n ≡ Some i → first_of (λ t. some_if (test t) (f t)) n ≡ Some (f i)
  made-of i e =
      let (l, passes, before) = first-passes test n i e in
      first-hit _ i n _ l (first-all-none _ i (λ t m. none-if _ _ (before t m))) (some-if _ _ passes)

-- ---- a stretch of hours

-- Of those from the one to before the other, up to the hour none is above the limit.
abbrev pub Passed : List ℕ → ℕ → ℕ → ℕ → ℕ → Type 0
Passed loads from end limit to = (from ≤ to) × (to ≤ end) × ((t : ℕ) → from ≤ t → t < to → get_or loads t 0 ≤ limit)

module _ (loads : List ℕ) (from end limit : ℕ) where
  abbrev Above : ℕ → Bool
  Above t = ltb limit (get_or (take (end - from) (drop from loads)) t 0)

  within : (t : ℕ) → from ≤ t → t < end → Above (t - from) ≡ false → get_or loads t 0 ≤ limit
  within t l m e =
      let at : from + (t - from) ≡ t = omega arith in
      let number = get_or-take (end - from) (drop from loads) (t - from) 0 (omega arith) ∙ get_or-drop from loads (t - from) 0 in
      omega (arith, ltb-false limit _ e, rw at at number)

  module _ (inside : (from ≤ end) × (end ≤ length loads)) where
    abbrev Long : ℕ
    Long = length (take (end - from) (drop from loads))

    long : Long ≡ end - from
    long = simp (length-take, length-drop) (omega (arith, inside.0, inside.1))

    pub stretch-none : first_of (λ t. some_if (Above t) t) Long ≡ None → Passed loads from end limit end
    stretch-none e = (inside.0, omega arith, λ t m k. within t m k (none-passes Above Long e (t - from) (omega (arith, long))))

    pub stretch-found : (i : ℕ) → first_of (λ t. some_if (Above t) t) Long ≡ Some i → Passed loads from end limit (from + i)
    stretch-found i e =
        let (l, passes, before) = first-passes Above Long i e in
        (omega arith, omega (arith, long, inside.0), λ t m k. within t m (omega (arith, long, l)) (before (t - from) (omega arith)))

-- ---- the hours in which a task has no excess in a room

module _ (w : Window) (height capacity : ℕ) where
  quiet-out : (load t : ℕ) → must_run (Some w) t ≡ false → height + load ≤ capacity → exceeds w height load capacity t ≡ false
  quiet-out load t e l = exceeds-out w height load capacity t e ∙ le-ltb capacity (height + load) l

  quiet-in : (load t : ℕ) → must_run (Some w) t ≡ true → load ≤ capacity → exceeds w height load capacity t ≡ false
  quiet-in load t e l = exceeds-in w height load capacity t e ∙ le-ltb capacity load l

  runs-before : (t : ℕ) → t < lst w → must_run (Some w) t ≡ false
  unfolding must_run
  runs-before t l = not_left _ _ (lt-leb (lst w) t l)

  runs-after : (t : ℕ) → ect w ≤ t → must_run (Some w) t ≡ false
  unfolding must_run
  runs-after t l = not_right _ _ (le-ltb t (ect w) l)

  runs-in : (t : ℕ) → lst w ≤ t → t < ect w → must_run (Some w) t ≡ true
  unfolding must_run
  runs-in t l m = and_both _ _ (le-leb (lst w) t l) (lt-ltb t (ect w) m)

-- in the hours before the compulsory part, then in those of it, then in those after it, as far as the loads are within the limit of each
module _ (loads : List ℕ) (w : Window) (height capacity from end early part late after : ℕ) (fits : height ≤ capacity) (ordered : from ≤ end)
    (is-early : early ≡ min end (lst w)) (is-part : part ≡ max early from)
    (is-late : late ≡ min end (ect w)) (is-after : after ≡ max late part) where
  abbrev pub Quiet : ℕ → Type 0
  Quiet to = (from ≤ to) × (to ≤ end) × ((t : ℕ) → from ≤ t → t < to → exceeds w height (get_or loads t 0) capacity t ≡ false)

  module _ (a : ℕ) (first : Passed loads from part (capacity - height) a) where
    pub quiet-before : Quiet a
    quiet-before = (
      first.0,
      omega (arith, first.1, is-part, is-early, ordered),
      λ t l m.
          let before : t < lst w = omega (arith, first.1, is-part, is-early) in
          quiet-out w height capacity _ t (runs-before w height capacity t before) (omega (arith, first.2 t l m)),
    )

    module _ (all : part ≤ a) (b : ℕ) (second : Passed loads part after capacity b) where
      pub quiet-within : Quiet b
      quiet-within = (
        omega (arith, second.0, is-part),
        omega (arith, second.1, is-after, is-late, is-part, is-early, ordered),
        λ t l m. go t l m (ltb t part) refl,
      )
        where
          go : (t : ℕ) → from ≤ t → t < b → (p : Bool) → ltb t part ≡ p → exceeds w height (get_or loads t 0) capacity t ≡ false
          go t l m true e = quiet-before.2 t l (omega (arith, ltb-true t part e, all))
          go t l m false e =
              let begun = ltb-false t part e in
              let running : t < ect w = omega (arith, second.1, is-after, is-late) in
              quiet-in w height capacity _ t (runs-in w height capacity t (omega (arith, is-part, is-early, running, begun)) running)
              (second.2 t begun m)

      module _ (rest : after ≤ b) (c : ℕ) (third : Passed loads after end (capacity - height) c) where
        pub quiet-after : Quiet c
        quiet-after = (
          omega (arith, third.0, is-part, is-after),
          third.1,
          λ t l m. go t l m (ltb t after) refl,
        )
          where
            go : (t : ℕ) → from ≤ t → t < c → (p : Bool) → ltb t after ≡ p → exceeds w height (get_or loads t 0) capacity t ≡ false
            go t l m true e = quiet-within.2 t l (omega (arith, ltb-true t after e, rest))
            go t l m false e =
                let over = ltb-false t after e in
                let ended : ect w ≤ t = omega (arith, is-after, is-late, third.1) in
                quiet-out w height capacity _ t (runs-after w height capacity t ended) (omega (arith, third.2 t over m))
