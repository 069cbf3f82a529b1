-- Laws of a field that is a number or is none, as a loop over its bytes reads it. Assumes nothing.
use mathlib.Core.Path.{◌≡◌}
use mathlib.Core.Bool.{true, false}
use Rattle.std.specs.Prelude.{None, Some}
use mathlib.Core.List.{List, [], ◌∷◌}
use Prim.Native.Nat.{ℕ, ◌+◌, ◌-◌, ◌*◌, ◌≤◌, ◌<◌}
use native.Mathlib.Numerals.{add-one}
use native.Mathlib.Omega.{arith}
use lib.ListN.{length, get_or, drop, drop_of_length-le}
use lib.Seq.{drop-cons}
use lib.Dec.{leb, eqb}
use borrow.Author.Tests.{lt-leb, le-leb, eqb-true, eqb-false}
use Rattle.std.specs.Char.{is_ascii_digit}
use Rattle.text.proofs.Words.{and_is}
use Rattle.units.specs.Limits.{within}
use Rattle.units.proofs.Choices.{not_left, not_right, none-if, some-if, and_both}
use Rattle.text.specs.Numbers.{is_digits, decimal, is_plain, is_number, most_number, number_of}

module _ (l : List ℕ) (i : ℕ) where
  pub digits-next : i < length l → within 48 57 (get_or l i 0) ≡ true → is_digits (drop i l) ≡ is_digits (drop (i + 1) l)
  unfolding is_digits
  digits-next h e = rw (add-one, drop-cons l i 0 h, e)

  pub digits-not : i < length l → within 48 57 (get_or l i 0) ≡ false → is_digits (drop i l) ≡ false
  unfolding is_digits
  digits-not h e = rw (drop-cons l i 0 h) (not_left _ _ e)

  pub digits-end : length l ≤ i → is_digits (drop i l) ≡ true
  unfolding is_digits
  digits-end h = rw (drop_of_length-le l h)

  pub decimal_step : (n : ℕ) → i < length l → decimal n (drop i l) ≡ decimal (n * 10 + (get_or l i 0 - 48)) (drop (i + 1) l)
  unfolding decimal
  decimal_step n h = rw (add-one, drop-cons l i 0 h)

  pub decimal-end : (n : ℕ) → length l ≤ i → decimal n (drop i l) ≡ n
  unfolding decimal
  decimal-end n h = rw (drop_of_length-le l h)

-- a digit, as the library tests it
pub digit_is : (b : ℕ) → within 48 57 b ≡ is_ascii_digit b
unfolding within
digit_is b = and_is (leb 48 b) (leb b 57)

pub empty-is : (l : List ℕ) → eqb (length l) 0 ≡ true → length l < 1
empty-is l e = omega (arith, eqb-true (length l) 0 e)

pub not-empty : (l : List ℕ) → eqb (length l) 0 ≡ false → 1 ≤ length l
not-empty l e = omega (arith, eqb-false (length l) 0 e)

-- more digits make no smaller number
pub decimal-least : (n : ℕ) (bs : List ℕ) → n ≤ decimal n bs
unfolding decimal
decimal-least n [] = omega arith
decimal-least n (b ∷ bs) = omega (arith, decimal-least (n * 10 + (b - 48)) bs)

module _ (bs : List ℕ) where
  pub number-empty : length bs < 1 → number_of bs ≡ None
  unfolding number_of is_number
  number-empty h = none-if _ _ (not_left _ _ (lt-leb 1 (length bs) h))

  pub number_digits : is_digits bs ≡ false → number_of bs ≡ None
  unfolding number_of is_number
  number_digits e = none-if _ _ (not_right _ _ (not_left _ _ e))

  pub number-plain : is_plain bs ≡ false → number_of bs ≡ None
  unfolding number_of is_number
  number-plain e = none-if _ _ (not_right _ _ (not_right _ _ (not_left _ _ e)))

  pub number-large : most_number < decimal 0 bs → number_of bs ≡ None
  unfolding number_of is_number
  number-large h =
      none-if _ _
      (not_right (leb 1 (length bs)) _
      (not_right (is_digits bs) _ (not_right (is_plain bs) _ (lt-leb (decimal 0 bs) most_number h))))

  pub number_is : 1 ≤ length bs → is_digits bs ≡ true → is_plain bs ≡ true → decimal 0 bs ≤ most_number → number_of bs ≡ Some (decimal 0 bs)
  unfolding number_of is_number
  number_is h d p m =
      some-if _ _ (and_both _ _ (le-leb 1 (length bs) h) (and_both _ _ d (and_both _ _ p (le-leb (decimal 0 bs) most_number m))))
