-- Laws of the parts of a text into which separators were put: of fields, and of numbers as fields. A list is without the separator where its
-- first one stands at the length. Assumes nothing.
use mathlib.Core.Path.{◌≡◌, refl, ap, ◌∙◌}
use mathlib.Core.Bool.{false}
use Rattle.std.specs.Prelude.{Some}
use mathlib.Core.List.{List, [], ◌∷◌, ◌++◌, map, append-nil}
use Prim.Native.Nat.{ℕ, suc, ◌%◌, ◌<◌}
use native.Mathlib.Omega.{arith}
use lib.Dec.{eqb}
use lib.ListN.{length, get_or}
use borrow.Author.Tests.{eq-eqb, ne_eqb}
use Rattle.units.specs.Choice.{on_option}
use Rattle.units.proofs.Choices.{if-true, if-false, if-case}
use Rattle.text.specs.Fields.{tab, into_first, parts, first_at}
use Rattle.text.specs.Numbers.{most_number, numbers_of, digit, decimal_text}
use Rattle.text.specs.Lines.{number_fields}
use Rattle.text.proofs.Parts.{parts_last}
use Rattle.text.proofs.Decimals.{decimal-all, number_read}
use Rattle.text.proofs.Lines.{Below}

module _ (separator : ℕ) where
  -- ---- without the separator

  pub without-none : first_at separator [] ≡ 0
  unfolding first_at
  without-none = refl

  pub without_more : (b : ℕ) (bs : List ℕ) → (b ≡ separator → ⊥) → first_at separator bs ≡ length bs
      → first_at separator (b ∷ bs) ≡ suc (length bs)
  unfolding first_at
  without_more b bs ne e = if-false _ _ _ (ne_eqb _ _ ne) ∙ ap suc e

  -- its first byte is another, and so is each of the rest
  pub without-rest : (b : ℕ) (bs : List ℕ) → first_at separator (b ∷ bs) ≡ suc (length bs)
      → (eqb b separator ≡ false) × (first_at separator bs ≡ length bs)
  unfolding first_at
  without-rest b bs h = if-case _ _ _ _ h (λ t z. absurd (omega arith)) (λ f s. (f, omega arith))

  pub without-both : (l k : List ℕ) → first_at separator l ≡ length l → first_at separator k ≡ length k
      → first_at separator (l ++ k) ≡ length (l ++ k)
  unfolding first_at
  without-both [] k p q = q
  without-both (b ∷ bs) k p q =
      let (ne, rest) = without-rest b bs p in
      if-false _ _ _ ne ∙ ap suc (without-both bs k rest q)

  -- none of its bytes is one
  pub without-each : (l : List ℕ) → ((i : ℕ) → i < length l → get_or l i 0 ≡ separator → ⊥) → first_at separator l ≡ length l
  without-each [] h = without-none
  without-each (b ∷ bs) h = without_more b bs (h 0 (omega arith)) (without-each bs (λ i l. h (suc i) (omega arith)))

  -- ---- parts

  -- a part, the separator after it, and what follows
  pub parts_next : (l rest : List ℕ) → first_at separator l ≡ length l → parts separator (l ++ (separator ∷ rest)) ≡ l ∷ parts separator rest
  unfolding parts into_first
  parts_next [] rest h = if-true _ _ _ (eq-eqb separator separator refl)
  parts_next (b ∷ bs) rest h =
      let (ne, k) = without-rest b bs h in
      if-false _ _ _ ne ∙ ap (into_first b) (parts_next bs rest k)

  -- ---- numbers

  -- a separator below the digits
  module _ (below : separator < 48) where
    pub decimal-without : (n : ℕ) → first_at separator (decimal_text n) ≡ length (decimal_text n)
    decimal-without =
        decimal-all (λ n ds. first_at separator ds ≡ length ds) (λ n l. one n)
        (λ n ds l e. without-both ds (digit (n % 10) ∷ []) e (one (n % 10)))
      where
        one : (d : ℕ) → first_at separator (digit d ∷ []) ≡ 1
        one d = without_more (digit d) [] (λ e. omega arith) without-none

    pub fields-without : (tab ≡ separator → ⊥) → (ns : List ℕ) → first_at separator (number_fields ns) ≡ length (number_fields ns)
    unfolding number_fields
    fields-without ne [] = without-none
    fields-without ne (n ∷ ns) =
        without_more tab _ ne (without-both (decimal_text n) (number_fields ns) (decimal-without n) (fields-without ne ns))

-- a word and numbers, parted again
pub parts-numbers : (word ns : List ℕ) → first_at tab word ≡ length word → parts tab (word ++ number_fields ns) ≡ word ∷ map decimal_text ns
unfolding number_fields
parts-numbers word [] h = ap (parts tab) (append-nil word) ∙ parts_last tab word h
parts-numbers word (n ∷ ns) h =
    parts_next tab word (decimal_text n ++ number_fields ns) h
    ∙ ap (λ fs. word ∷ fs) (parts-numbers (decimal_text n) ns (decimal-without tab (omega arith) n))

-- and read again
pub numbers-read : (ns : List ℕ) → Below (suc most_number) ns → numbers_of (map decimal_text ns) ≡ Some ns
unfolding numbers_of on_option Below
numbers-read [] b = refl
numbers-read (n ∷ ns) b = rw (number_read n (omega (arith, b.0)), numbers-read ns b.1)
