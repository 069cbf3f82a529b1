-- Laws of fields that are numbers, as a loop over the fields gathers them. Assumes nothing.
use mathlib.Core.Path.{◌≡◌, refl, sym, ap, ◌∙◌}
use mathlib.Core.Bool.{Bool, true, false}
use Rattle.std.specs.Prelude.{Option, None, Some}
use mathlib.Core.List.{List, [], ◌∷◌, ◌++◌, append_assoc, append-nil}
use Prim.Native.Nat.{ℕ, ◌+◌, ◌≤◌, ◌<◌}
use native.Mathlib.Numerals.{add-one}
use native.Mathlib.Omega.{arith}
use lib.Dec.{ltb}
use lib.ListN.{length, take, drop, set, get_or, length-append, length-set, drop_of_length-le}
use lib.Seq.{drop-cons, take_all, take-append-le, take-suc-set}
use borrow.Author.Tests.{ltb-true, ltb-false}
use Rattle.std.proofs.lemmas.List.{set_past}
use Rattle.units.specs.Choice.{on_option}
use Rattle.text.specs.Numbers.{number_of, numbers_of}
use Rattle.text.specs.Reading.{Begin}

-- numbers read before others
unfoldable pub before : List ℕ → Option (List ℕ) → Option (List ℕ)
before xs o = on_option o None (λ ns. Some (xs ++ ns))

before-none : (o : Option (List ℕ)) → before [] o ≡ o
unfolding before on_option
before-none None = refl
before-none (Some ns) = refl

module _ (xs : List ℕ) (f : List ℕ) (fs : List (List ℕ)) where
  field-not : number_of f ≡ None → before xs (numbers_of (f ∷ fs)) ≡ None
  unfolding before numbers_of on_option
  field-not e = rw e

  field_is : (n : ℕ) → number_of f ≡ Some n → before xs (numbers_of (f ∷ fs)) ≡ before (xs ++ (n ∷ [])) (numbers_of fs)
  unfolding before numbers_of on_option
  field_is n e = rw e (go (numbers_of fs))
    where
      go : (o : Option (List ℕ))
          → on_option (on_option o None (λ ns. Some (n ∷ ns))) None (λ ns. Some (xs ++ ns)) ≡ on_option o None (λ ns. Some ((xs ++ (n ∷ [])) ++ ns))
      go None = unfold on_option in refl
      go (Some ns) = unfold on_option in (rw append_assoc)

fields-end : (xs : List ℕ) → before xs (numbers_of []) ≡ Some xs
unfolding before numbers_of on_option
fields-end xs = ap Some (append-nil xs)

-- a number more is kept, if there is room
begin-more : {xs cells : List ℕ} {count : ℕ} (n : ℕ) → Begin xs count cells → Begin (xs ++ (n ∷ [])) (count + 1) (set cells count n)
begin-more {xs} {cells} {count} n b =
    record {
      counted = omega (arith, b.counted, length-append xs (n ∷ []));
      kept = rw (length-set cells count n) (go (ltb count (length cells)) refl);
    }
  where
    go : (t : Bool) → ltb count (length cells) ≡ t → take (count + 1) (set cells count n) ≡ take (length cells) (xs ++ (n ∷ []))
    go true q =
        let h : count < length cells = ltb-true _ _ q in
        rw (add-one, take-suc-set cells count n h, b.kept, take_all (length cells) xs (omega (arith, b.counted)))
        (sym (take_all (length cells) (xs ++ (n ∷ [])) (omega (arith, b.counted, length-append xs (n ∷ [])))))
    go false q =
        let h : length cells ≤ count = ltb-false _ _ q in
        rw (set_past cells count n h, take-append-le (length cells) xs (n ∷ []) (omega (arith, b.counted)), ← b.kept)
        (take_all (count + 1) cells (omega arith) ∙ sym (take_all count cells h))

-- how far the fields have been read: the numbers of the first of them, kept as far as there is room; the rest decides
pub record Gathered (fields : List (List ℕ)) (count : ℕ) (cells : List ℕ) : Type 0 where
  pub so_far : List ℕ
  pub begins : Begin so_far count cells
  pub decides : numbers_of fields ≡ before so_far (numbers_of (drop count fields))

pub gathered_none : (fields : List (List ℕ)) (cells : List ℕ) → Gathered fields 0 cells
gathered_none fields cells =
    record {
      so_far = [];
      begins = record { counted = refl; kept = sym (take_all (length cells) [] (omega arith)) };
      decides = sym (before-none _);
    }

module _ {fields : List (List ℕ)} {cells : List ℕ} {count : ℕ} (at : Gathered fields count cells) where
  -- no field is left
  pub gathered-all : length fields ≤ count → (ns : List ℕ) × (numbers_of fields ≡ Some ns) × Begin ns count cells
  gathered-all h = (at.so_far, at.decides ∙ rw (drop_of_length-le fields h) (fields-end at.so_far), at.begins)

  -- a turn of the loop: the next field
  module _ (f : List ℕ) (h : count < length fields) (e : f ≡ get_or fields count f) where
    next : drop count fields ≡ f ∷ drop (count + 1) fields
    next = drop-cons fields count f h ∙ rw (add-one, ← e)

    pub gathered-not : number_of f ≡ None → numbers_of fields ≡ None
    gathered-not k = at.decides ∙ rw next (field-not at.so_far f _ k)

    pub gathered-more : {n : ℕ} → number_of f ≡ Some n → {cells' : List ℕ} → cells' ≡ set cells count n → Gathered fields (count + 1) cells'
    gathered-more {n} k s =
        record {
          so_far = at.so_far ++ (n ∷ []);
          begins = rw s (begin-more n at.begins);
          decides = at.decides ∙ rw next (field_is at.so_far f _ n k);
        }
