-- Laws of hours that are compared: what the code's test tells of their numbers. Assumes nothing.
use Rattle.std.proofs.Common.{rules}
use Rattle.std.specs.Ordering.{is_le, is_lt, is_gt, nat_cmp}
use native.Mathlib.Decide.{dec_le}
use mathlib.Core.Path.{◌≡◌, sym, ◌∙◌}
use mathlib.Core.Bool.{Bool, true, false}
use Prim.Native.Nat.{ℕ, ◌≤◌, ◌<◌}
use lib.Dec.{leb, ltb}
use borrow.Author.Tests.{ltb-true, ltb-false, leb-true, leb-false}

-- what the order of hours, and of durations and heights, says of their numbers
module _ (l u : ℕ) where
  pub le-cmp : is_le (nat_cmp l u) ≡ leb l u
  le-cmp = go (dec_le l u)
    where
      go : Dec (l ≤ u) → is_le (nat_cmp l u) ≡ leb l u
      go (yes h) = search rules
      go (no h) = search rules

  pub gt-cmp : is_gt (nat_cmp l u) ≡ ltb u l
  gt-cmp = go (dec_le l u)
    where
      go : Dec (l ≤ u) → is_gt (nat_cmp l u) ≡ ltb u l
      go (yes h) = search rules
      go (no h) = search rules

  pub lt-cmp : is_lt (nat_cmp l u) ≡ ltb l u
  lt-cmp = go (dec_le u l)
    where
      go : Dec (u ≤ l) → is_lt (nat_cmp l u) ≡ ltb l u
      go (yes h) = search rules
      go (no h) = search rules

module _ (s t : ℕ) {r : Bool} (is : r ≡ ltb s t) where
  pub before : r ≡ true → s < t
  before e = ltb-true s t (sym is ∙ e)

  pub not-before : r ≡ false → t ≤ s
  not-before e = ltb-false s t (sym is ∙ e)

module _ (s t : ℕ) {r : Bool} (is : r ≡ leb s t) where
  pub at-most : r ≡ true → s ≤ t
  at-most e = leb-true s t (sym is ∙ e)

  pub not-at-most : r ≡ false → t < s
  not-at-most e = leb-false s t (sym is ∙ e)
