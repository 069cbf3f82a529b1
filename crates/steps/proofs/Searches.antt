-- Laws of the search for the first admitted step (Filter: first_of_kind, first_by, next_by), in any order of kinds: what it finds is admitted, and where
-- it finds none in an order that has every kind, no step at all is. Assumes nothing.
use mathlib.Core.Path.{◌≡◌, refl, sym, ap₂, ◌∙◌, subst}
use mathlib.Core.Bool.{Bool, true, false, false≢true}
use Rattle.std.specs.Prelude.{Option, None, Some}
use mathlib.Core.List.{List, [], ◌∷◌}
use Prim.Native.Nat.{ℕ}
use lib.Dec.{ltb, eqb}
use borrow.Author.Tests.{eqb-true, ltb-true}
use Rattle.units.specs.Choice.{on_option, ◌and◌, ◌or_else◌, first_of}
use Rattle.units.proofs.Choices.{and_left, and_right, if-false, if-all, None≢Some, else-case, neither, first-at, first-none, else-on, first_on}
use Rattle.plan.specs.Plan.{Plan, room_count, task_count, pair_count}
use Rattle.steps.specs.declared.Step.{Step}
use Rattle.steps.specs.Steps.{step, letter_c, letter_o, letter_l, letter_u, letter_f, letter_b, Kind, kind_c, kind_o, kind_l}
use Rattle.steps.specs.Steps.{kind_u, kind_f, kind_b, unknown_kind, kind_of, is_step, impossible, moved, on_judgement}
use Rattle.steps.specs.Steps.{judge}
use Rattle.steps.specs.Filter.{Admitted, stops, moves, if_admitted, first_of_kind, first_by, filter_order, next_by}
use Rattle.steps.proofs.Judgements.{judgement-all}

-- ---- for any test of a step

module _ {A : Type 0} (P : Plan) (f : Step → Option A) where
  -- what the search finds, f finds at some step
  kind-found : (k : Kind) (a : A) → first_of_kind P f k ≡ Some a → (x : Step) × (f x ≡ Some a)
  unfolding first_of_kind
  kind-found kind_c a e = let (i, l, h) = first-at _ _ a e in (step letter_c i 0, h)
  kind-found kind_o a e =
      let (r, l, g) = first-at _ _ a e in
      let (t, m, h) = first-at _ _ a g in
      (step letter_o r t, h)
  kind-found kind_l a e =
      let (i, l, g) = first-at _ _ a e in
      let (t, m, h) = first-at _ _ a g in
      (step letter_l i t, h)
  kind-found kind_u a e =
      let (i, l, g) = first-at _ _ a e in
      let (t, m, h) = first-at _ _ a g in
      (step letter_u i t, h)
  kind-found kind_f a e = let (k, l, h) = first-at _ _ a e in (step letter_f k 0, h)
  kind-found kind_b a e = let (k, l, h) = first-at _ _ a e in (step letter_b k 0, h)
  kind-found unknown_kind a e = None≢Some e

  pub first_found : (order : List Kind) (a : A) → first_by P f order ≡ Some a → (x : Step) × (f x ≡ Some a)
  unfolding first_by
  first_found [] a e = None≢Some e
  first_found (k ∷ ks) a e = else-case _ _ _ e (λ q r. first_found ks a r) (λ b q r. kind-found k a (q ∙ r))

-- where each test finds what the other makes of its finding, so do the searches
module _ {A B : Type 0} (P : Plan) (φ : A → B) (g : Step → Option A) (h : Step → Option B)
    (maps : (x : Step) → h x ≡ on_option (g x) None (λ a. Some (φ a))) where
  kind-maps : (k : Kind) → first_of_kind P h k ≡ on_option (first_of_kind P g k) None (λ a. Some (φ a))
  unfolding first_of_kind
  kind-maps kind_c = first_on φ _ _ (task_count P) (λ i. maps (step letter_c i 0))
  kind-maps kind_o = first_on φ _ _ (room_count P) (λ r. first_on φ _ _ P.shifts.hours (λ t. maps (step letter_o r t)))
  kind-maps kind_l = first_on φ _ _ (task_count P) (λ i. first_on φ _ _ P.shifts.hours (λ t. maps (step letter_l i t)))
  kind-maps kind_u = first_on φ _ _ (task_count P) (λ i. first_on φ _ _ P.shifts.hours (λ t. maps (step letter_u i t)))
  kind-maps kind_f = first_on φ _ _ (pair_count P) (λ k. maps (step letter_f k 0))
  kind-maps kind_b = first_on φ _ _ (pair_count P) (λ k. maps (step letter_b k 0))
  kind-maps unknown_kind = unfold on_option in refl

  pub first-maps : (order : List Kind) → first_by P h order ≡ on_option (first_by P g order) None (λ a. Some (φ a))
  unfolding first_by
  first-maps [] = unfold on_option in refl
  first-maps (k ∷ ks) = ap₂ ◌or_else◌ (kind-maps k) (first-maps ks) ∙ sym (else-on φ _ _)

-- ---- orders that have every kind

pub data In (k : Kind) : List Kind → Type 0 where
  here : {ks : List Kind} → In k (k ∷ ks)
  there : {j : Kind} {ks : List Kind} → In k ks → In k (j ∷ ks)

abbrev pub Complete : List Kind → Type 0
Complete order = (k : Kind) → (k ≡ unknown_kind → ⊥) → In k order

pub filter-complete : Complete filter_order
unfolding filter_order
filter-complete kind_c known = there here
filter-complete kind_o known = here
filter-complete kind_l known = there (there here)
filter-complete kind_u known = there (there (there here))
filter-complete kind_f known = there (there (there (there here)))
filter-complete kind_b known = there (there (there (there (there here))))
filter-complete unknown_kind known = absurd (known refl)

-- the letter of each kind
Letter : Kind → ℕ → Type 0
Letter kind_c n = n ≡ letter_c
Letter kind_o n = n ≡ letter_o
Letter kind_l n = n ≡ letter_l
Letter kind_u n = n ≡ letter_u
Letter kind_f n = n ≡ letter_f
Letter kind_b n = n ≡ letter_b
Letter unknown_kind n = Unit {0}

letter : (n : ℕ) → Letter (kind_of n) n
unfolding kind_of Letter
letter n =
    if-all (λ (k : Kind). Letter k n) (eqb n letter_c) _ _ (λ e. eqb-true _ _ e)
    (λ not_c. if-all (λ (k : Kind). Letter k n) (eqb n letter_o) _ _ (λ e. eqb-true _ _ e)
    (λ not_o. if-all (λ (k : Kind). Letter k n) (eqb n letter_l) _ _ (λ e. eqb-true _ _ e)
    (λ not_l. if-all (λ (k : Kind). Letter k n) (eqb n letter_u) _ _ (λ e. eqb-true _ _ e)
    (λ not_u. if-all (λ (k : Kind). Letter k n) (eqb n letter_f) _ _ (λ e. eqb-true _ _ e)
    (λ not_f. if-all (λ (k : Kind). Letter k n) (eqb n letter_b) _ _ (λ e. eqb-true _ _ e) (λ not_b. tt))))))

module _ {A : Type 0} (P : Plan) (f : Step → Option A) where
  -- of a kind whose hour is 0
  none-at : (letter n count i t : ℕ) → first_of (λ k. f (step letter k 0)) count ≡ None → n ≡ letter → ltb i count and eqb t 0 ≡ true
      → f (step n i t) ≡ None
  none-at letter n count i t e q w =
      let z : t ≡ 0 = eqb-true _ _ (and_right _ _ w) in
      rw (q, z) (first-none _ _ e i (ltb-true _ _ (and_left _ _ w)))

  none-of-kind : (k : Kind) → first_of_kind P f k ≡ None → (n i t : ℕ) → Letter k n → is_step P k i t ≡ true → f (step n i t) ≡ None
  unfolding first_of_kind Letter is_step
  none-of-kind kind_c e n i t q w = none-at letter_c n (task_count P) i t e q w
  none-of-kind kind_o e n i t q w = rw q (first-none _ _ (first-none _ _ e i (ltb-true _ _ (and_left _ _ w))) t (ltb-true _ _ (and_right _ _ w)))
  none-of-kind kind_l e n i t q w = rw q (first-none _ _ (first-none _ _ e i (ltb-true _ _ (and_left _ _ w))) t (ltb-true _ _ (and_right _ _ w)))
  none-of-kind kind_u e n i t q w = rw q (first-none _ _ (first-none _ _ e i (ltb-true _ _ (and_left _ _ w))) t (ltb-true _ _ (and_right _ _ w)))
  none-of-kind kind_f e n i t q w = none-at letter_f n (pair_count P) i t e q w
  none-of-kind kind_b e n i t q w = none-at letter_b n (pair_count P) i t e q w
  none-of-kind unknown_kind e n i t q w = absurd (false≢true w)

  none_in : {k : Kind} {order : List Kind} → In k order → first_by P f order ≡ None → first_of_kind P f k ≡ None
  unfolding first_by
  none_in here e = (neither _ _ e).0
  none_in (there p) e = none_in p (neither _ _ e).1

  -- where the search finds none in such an order, f finds none at any step that there is
  pub none_found : {order : List Kind} → Complete order → first_by P f order ≡ None → (x : Step)
      → is_step P (kind_of x.kind) x.task x.hour ≡ true → f x ≡ None
  none_found all e x w =
      none-of-kind (kind_of x.kind) (none_in (all (kind_of x.kind) (known (kind_of x.kind) w)) e) x.kind x.task x.hour (letter x.kind) w
    where
      known : (k : Kind) → is_step P k x.task x.hour ≡ true → k ≡ unknown_kind → ⊥
      known k v q = false≢true (unfold is_step in (rw q at v))

-- ---- the first admitted step

module _ (P : Plan) (boxes : List ℕ) where
  -- the step is judged as it says
  unfoldable pub Rightly : Admitted → Type 0
  Rightly (stops x) = judge P boxes x ≡ impossible
  Rightly (moves x left) = judge P boxes x ≡ moved left

  if-rightly : (x : Step) (a : Admitted) → if_admitted P boxes x ≡ Some a → Rightly a
  unfolding if_admitted Rightly
  if-rightly x a =
      judgement-all (λ (o : Option Admitted). o ≡ Some a → Rightly a) (judge P boxes x) _ _ _ _
      (λ e q. None≢Some q)
      (λ e q. None≢Some q)
      (λ e q. let s : stops x ≡ a = cc in subst Rightly s e)
      (λ left e q. let s : moves x left ≡ a = cc in subst Rightly s e)

  module _ (order : List Kind) where
    pub next-rightly : (a : Admitted) → next_by order P boxes ≡ Some a → Rightly a
    unfolding next_by
    next-rightly a e = let (x, h) = first_found P (if_admitted P boxes) order a e in if-rightly x a h

    pub next-none : Complete order → next_by order P boxes ≡ None → (x : Step) → if_admitted P boxes x ≡ None
    unfolding next_by
    next-none all e x = go (is_step P (kind_of x.kind) x.task x.hour) refl
      where
        go : (b : Bool) → is_step P (kind_of x.kind) x.task x.hour ≡ b → if_admitted P boxes x ≡ None
        go true w = none_found P (if_admitted P boxes) all e x w
        go false w = unfold if_admitted judge on_judgement in (rw (if-false _ _ _ w))
