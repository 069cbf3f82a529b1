-- Laws of ranges and boxes. Assumes nothing.
use mathlib.Core.Path.{◌≡◌, refl, sym, ap₂, ◌∙◌}
use mathlib.Core.Bool.{Bool, true, false}
use Rattle.std.specs.Prelude.{Option}
use Prim.Native.Nat.{ℕ, ◌≤◌, ◌<◌}
use native.Mathlib.Omega.{arith}
use lib.Dec.{leb}
use Rattle.std.specs.Ordering.{is_le}
use Rattle.std.specs.declared.cmp.Ordering.{Ordering}
use borrow.Author.Tests.{le-leb, lt-leb, lt-ltb, leb-true, ltb-true}
use Rattle.units.specs.Choice.{◌and◌, some_if}
use Rattle.units.specs.Limits.{within, is_hour, is_work_time, is_overtime, is_range, is_box, Boxed}
use Rattle.units.specs.Inner.Order.{in_order}
use Rattle.units.specs.declared.Bounds.{Bounds}
use Rattle.units.proofs.Choices.{and_both, and-rest, and_left, and_right, not_left, not_right}

module _ (least most n : ℕ) where
  pub is_within : least ≤ n → n ≤ most → within least most n ≡ true
  unfolding within
  is_within p q = and_both _ _ (le-leb least n p) (le-leb n most q)

  pub too_small : n < least → within least most n ≡ false
  unfolding within
  too_small p = not_left _ _ (lt-leb least n p)

  pub too_large : most < n → within least most n ≡ false
  unfolding within
  too_large p = not_right _ _ (lt-leb n most p)

  -- a number that is large enough is within the limits by the other test
  pub by_most : least ≤ n → within least most n ≡ leb n most
  unfolding within
  by_most p = rw (le-leb least n p)

  pub from-least : within least most n ≡ true → least ≤ n
  unfolding within
  from-least e = leb-true _ _ (and_left _ _ e)

  pub to-most : within least most n ≡ true → n ≤ most
  unfolding within
  to-most e = leb-true _ _ (and_right _ _ e)

module _ (kind : ℕ → Bool) (lower upper : ℕ) where
  pub is-range : kind lower ≡ true → kind upper ≡ true → lower ≤ upper → is_range kind lower upper ≡ true
  unfolding is_range
  is-range p q r = and_both _ _ p (and_both _ _ q (le-leb lower upper r))

  pub lower_in : is_range kind lower upper ≡ true → kind lower ≡ true
  unfolding is_range
  lower_in e = and_left _ _ e

  pub upper_in : is_range kind lower upper ≡ true → kind upper ≡ true
  unfolding is_range
  upper_in e = and_left _ _ (and_right _ _ e)

  pub in_order_lem : is_range kind lower upper ≡ true → lower ≤ upper
  unfolding is_range
  in_order_lem e = leb-true _ _ (and_right _ _ (and_right _ _ e))

-- ---- two bounds as their constructor made them: they are in order exactly when they make a range of their kind

module _ {A : Type 0} (kind : ℕ → Bool) (cmp : A → A → Ordering) (make : ℕ → A) (l u : ℕ) where
  pub made_range : is_le (cmp (make l) (make u)) ≡ leb l u → in_order cmp (some_if (kind l) (make l)) (some_if (kind u) (make u)) ≡ is_range kind l u
  unfolding is_range
  made_range own = go (kind l) (kind u)
    where
      go : (a b : Bool) → in_order cmp (some_if a (make l)) (some_if b (make u)) ≡ (a and b and leb l u)
      go true true = own
      go true false = refl
      go false b = refl

  pub made : {x y : Option A} {r : Bool} → is_le (cmp (make l) (make u)) ≡ leb l u → x ≡ some_if (kind l) (make l) → y ≡ some_if (kind u) (make u)
      → r ≡ in_order cmp x y → r ≡ is_range kind l u
  made own p q e = e ∙ ap₂ (in_order cmp) p q ∙ made_range own

-- ---- boxes

module _ (h p : ℕ) (b : Bounds) where
  abbrev pub starts : Bool
  starts = is_range (is_hour h) b.earliest.0 b.latest.0

  abbrev pub lengths : Bool
  lengths = is_range (is_work_time h) b.shortest.0 b.longest.0

  abbrev pub overtimes : Bool
  overtimes = is_range (is_overtime p) b.fewest.0 b.most.0

  pub is-box : starts ≡ true → lengths ≡ true → overtimes ≡ true → is_box h p b ≡ true
  unfolding is_box
  is-box s e o = and_both _ _ s (and_both _ _ e o)

  pub not-starts : starts ≡ false → is_box h p b ≡ false
  unfolding is_box
  not-starts e = not_left _ _ e

  pub not-lengths : lengths ≡ false → is_box h p b ≡ false
  unfolding is_box
  not-lengths e = not_right _ _ (not_left _ _ e)

  pub by-overtimes : starts ≡ true → lengths ≡ true → overtimes ≡ is_box h p b
  unfolding is_box
  by-overtimes s e = sym (and-rest _ _ s ∙ and-rest _ _ e)

  pub boxed : is_box h p b ≡ true → Boxed h p b
  unfolding is_box
  boxed e =
      let s = and_left _ _ e in
      let l = and_left _ _ (and_right _ _ e) in
      let o = and_right _ _ (and_right _ _ e) in
      record {
        starts = in_order_lem (is_hour h) _ _ s;
        latest = ltb-true _ _ (upper_in (is_hour h) _ _ s);
        shortest = from-least 1 h _ (lower_in (is_work_time h) _ _ l);
        lengths = in_order_lem (is_work_time h) _ _ l;
        longest = to-most 1 h _ (upper_in (is_work_time h) _ _ l);
        overtimes = in_order_lem (is_overtime p) _ _ o;
        most = leb-true _ _ (upper_in (is_overtime p) _ _ o);
      }

  pub is-boxed : Boxed h p b → is_box h p b ≡ true
  is-boxed x =
      is-box
      (is-range (is_hour h) _ _ (lt-ltb _ h (omega (arith, x.starts, x.latest))) (lt-ltb _ _ x.latest) x.starts)
      (is-range (is_work_time h) _ _
      (is_within 1 h _ x.shortest (omega (arith, x.lengths, x.longest)))
      (is_within 1 h _ (omega (arith, x.shortest, x.lengths)) x.longest)
      x.lengths)
      (is-range (is_overtime p) _ _ (le-leb _ p (omega (arith, x.overtimes, x.most))) (le-leb _ _ x.most) x.overtimes)
