-- The calendars of a plan: their letters, joined, from their bytes, joined. Assumes nothing.
use mathlib.Core.Path.{◌≡◌, refl, sym, ap, ◌∙◌}
use mathlib.Core.Bool.{Bool, true, false}
use mathlib.Core.List.{List}
use Rattle.std.specs.Prelude.{None}
use Prim.Native.Nat.{ℕ, ◌+◌, ◌*◌, ◌/◌, ◌%◌, ◌≤◌, ◌<◌}
use native.Mathlib.Nat.{div-add-mod', mod-lt, mul-mod_left, mul-div_cancel, div-lt_iff_lt-mul, mul-le-mul}
use native.Mathlib.Omega.{arith}
use lib.Dec.{ltb}
use lib.ListN.{length, take, drop}
use borrow.Author.Tests.{eq-eqb, ltb-false, ltb-true}
use Rattle.units.specs.Limits.{most_hours, is_plan_length}
use Rattle.units.proofs.Ranges.{from-least}
use Rattle.units.proofs.Choices.{and_both, and_right, neither, first-none, first-all-none}
use Rattle.plan.specs.HourKinds.{is_symbol}
use Rattle.plan.specs.Faults.{is_calendars, symbol_fault, calendars_fault, packing_fault, packed_fault}
use Rattle.plan.proofs.HourKinds.{symbol-part}
use Rattle.plan.proofs.Refusals.{go_on, unless-true, unless-none}
use Rattle.plan.specs.Packed.{bytes_of, letters_of, letters, part_of, is_packed}
use Rattle.plan.proofs.Bytes.{part-in}
use Rattle.units.proofs.Joined.{joined_length, joined-part}
use Rattle.plan.proofs.Packing.{letters-length, letters-symbols}

-- a place among n of h each belongs to one of the n
pub div-below : (k n h : ℕ) → 1 ≤ h → k < n * h → k / h < n
div-below k n h some l = (div-lt_iff_lt-mul {k = h} {x = k} {y = n} some).1 l

module _ (h : ℕ) (bytes : List ℕ) where
  abbrev count : ℕ
  count = length bytes / bytes_of h

  -- as many letters as calendars have hours
  pub all-length : length (letters h bytes) ≡ count * h
  unfolding letters
  all-length = joined_length (λ k. letters_of h (part_of h bytes k)) h count (λ i l. letters-length h (part_of h bytes i))

  -- the letters of one calendar among those of all
  pub letters-part : (k : ℕ) → k < count → take h (drop (k * h) (letters h bytes)) ≡ letters_of h (part_of h bytes k)
  unfolding letters
  letters-part k l = joined-part (λ k. letters_of h (part_of h bytes k)) h count k (λ i l. letters-length h (part_of h bytes i)) l

  module _ (e : packed_fault h bytes ≡ None) where
    told : (is_plan_length h ≡ true) × (is_calendars (bytes_of h) bytes ≡ true) × ((k : ℕ) → k < count → is_packed h (part_of h bytes k) ≡ true)
    unfolding packed_fault packing_fault
    told =
        let (two, rest) = neither _ _ e in
        let (three, codes) = neither _ _ rest in
        (unless-none _ 2 0 two, unless-none _ 3 0 three, λ k l. unless-none _ 21 k (first-none _ _ codes k l))

    -- 2, 3 and 4 do not apply to the letters
    symbol : (k : ℕ) → k < length (letters h bytes) → is_symbol (letters h bytes) k ≡ true
    symbol k l =
        let (long, whole, codes) = told in
        let some : 1 ≤ h = from-least 1 most_hours _ long in
        let at : k < count * h = omega (arith, l, all-length) in
        let of : k / h < count = div-below k count h some at in
        let in_it : k % h < h = mod-lt k some in
        ap (is_symbol (letters h bytes)) (let e : k ≡ k / h * h + k % h = omega (arith, div-add-mod' k h) in e)
        ∙ sym (symbol-part (letters h bytes) (k / h * h) h (k % h) in_it)
        ∙ ap (λ l. is_symbol l (k % h)) (letters-part (k / h) of)
        ∙ letters-symbols h (part_of h bytes (k / h)) (codes (k / h) of) (k % h) in_it

    calendars : is_calendars h (letters h bytes) ≡ true
    unfolding is_calendars
    calendars =
        let (long, whole, codes) = told in
        let some : 1 ≤ h = from-least 1 most_hours _ long in
        rw all-length (
        and_both _ _ (eq-eqb _ _ (mul-mod_left count h)) (rw (mul-div_cancel count some) (and_right _ _ whole))
        )

    pub letters-pass : calendars_fault h (letters h bytes) ≡ None
    unfolding calendars_fault symbol_fault
    letters-pass =
        let (long, whole, codes) = told in
        go_on _ 2 0 _ long ∙ go_on _ 3 0 _ calendars ∙ first-all-none _ _ (λ k l. unless-true _ 4 k (symbol k l))

module _ (h : ℕ) (bytes : List ℕ) where
  -- as many calendars of letters as of bytes
  pub letters-count : 1 ≤ h → length (letters h bytes) / h ≡ length bytes / bytes_of h
  letters-count some = ap (λ (n : ℕ). n / h) (all-length h bytes) ∙ mul-div_cancel (length bytes / bytes_of h) some

  -- a calendar that lies among the letters is one of them, and its bytes lie among the bytes
  module _ (k : ℕ) (some : 1 ≤ h) (l : k * h + h ≤ length (letters h bytes)) where
    pub calendar-below : k < length bytes / bytes_of h
    calendar-below = go (ltb k n) refl
      where
        n : ℕ
        n = length bytes / bytes_of h

        go : (b : Bool) → ltb k n ≡ b → k < n
        go true q = ltb-true k n q
        go false q =
            let most : n * h ≤ k * h = mul-le-mul (ltb-false k n q) (let e : h ≤ h = omega arith in e) in
            absurd (omega (arith, l, all-length h bytes, most))

    pub calendar-within : k * bytes_of h + bytes_of h ≤ length bytes
    calendar-within = part-in (bytes_of h) (length bytes) k calendar-below
