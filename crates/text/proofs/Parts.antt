-- Laws of parts: a text's first part and the parts after it, and what is left of a text from an index on. Assumes nothing.
use Rattle.std.specs.Prelude.{if◌then◌else◌}
use mathlib.Core.Path.{◌≡◌, refl, sym, ap, ◌∙◌}
use mathlib.Core.Bool.{Bool, true, false, cond, ◌||◌}
use mathlib.Core.List.{List, [], ◌∷◌}
use Prim.Native.Nat.{ℕ, suc, ◌+◌, ◌≤◌, ◌<◌}
use native.Mathlib.Omega.{arith}
use lib.Dec.{eqb, ltb}
use lib.ListN.{length, take, drop}
use lib.Seq.{take_all}
use Rattle.std.specs.Prelude.{None, Some}
use Rattle.std.specs.Option.{MatchOption}
use Rattle.std.specs.List.{list_any, position, position_or_len, slice_split, onto_first}
use Rattle.std.proofs.lemmas.List.Recursion.{is_position_or_len}
use borrow.Author.Tests.{ltb-true, ltb-false}
use Rattle.text.specs.Fields.{into_first, parts, first_at}

module _ (separator : ℕ) where
  pub first-within : (l : List ℕ) → first_at separator l ≤ length l
  unfolding first_at
  first-within [] = omega arith
  first-within (b ∷ bs) = go (first-within bs) (eqb b separator)
    where
      go : first_at separator bs ≤ length bs → (t : Bool) → (if t then 0 else suc (first_at separator bs)) ≤ suc (length bs)
      go h true = omega arith
      go h false = omega arith

  -- there is one: the part before it, and the parts after it
  pub parts_more : (l : List ℕ) → first_at separator l < length l
      → parts separator l ≡ take (first_at separator l) l ∷ parts separator (drop (suc (first_at separator l)) l)
  unfolding first_at parts into_first
  parts_more [] h = absurd (omega arith)
  parts_more (b ∷ bs) h = go (λ k. parts_more bs k) (eqb b separator) h
    where
      go : (first_at separator bs < length bs
          → parts separator bs ≡ take (first_at separator bs) bs ∷ parts separator (drop (suc (first_at separator bs)) bs))
          → (t : Bool) → (if t then 0 else suc (first_at separator bs)) < suc (length bs)
          → (if t then [] ∷ parts separator bs else into_first b (parts separator bs))
          ≡ take (if t then 0 else suc (first_at separator bs)) (b ∷ bs)
          ∷ parts separator (drop (suc (if t then 0 else suc (first_at separator bs))) (b ∷ bs))
      go more true k = refl
      go more false k = rw (more (omega arith))

  -- there is none: the whole
  pub parts_last : (l : List ℕ) → first_at separator l ≡ length l → parts separator l ≡ l ∷ []
  unfolding first_at parts into_first
  parts_last [] h = refl
  parts_last (b ∷ bs) h = go (λ k. parts_last bs k) (eqb b separator) h
    where
      go : (first_at separator bs ≡ length bs → parts separator bs ≡ bs ∷ []) → (t : Bool)
          → (if t then 0 else suc (first_at separator bs)) ≡ suc (length bs)
          → (if t then [] ∷ parts separator bs else into_first b (parts separator bs)) ≡ (b ∷ bs) ∷ []
      go last true k = absurd (omega arith)
      go last false k = rw (last (omega arith))

  -- the parts that the library's `split` gives
  pub parts_are : (l : List ℕ) → parts separator l ≡ slice_split (λ b. eqb b separator) l
  unfolding parts into_first
  parts_are [] = refl
  parts_are (b ∷ bs) = rw (parts_are bs) (go (slice_split (λ b. eqb b separator) bs))
    where
      go : (ps : List (List ℕ)) → (if eqb b separator then [] ∷ ps else into_first b ps) ≡ cond (eqb b separator) ([] ∷ ps) (onto_first b ps)
      go [] = refl
      go (p ∷ ps) = refl

  -- ---- as the code finds it, by the library's searches

  -- a byte that passes
  abbrev here : ℕ → Bool
  here b = eqb b separator

  first_is : (l : List ℕ) → first_at separator l ≡ position_or_len here l
  unfolding first_at
  first_is = is_position_or_len (first_at separator) here refl
      (λ b bs. let q : suc (first_at separator bs) ≡ 1 + first_at separator bs = omega arith in rw q)

  -- the first that passes is the first separator; where none does, that is the length
  pub first_found : (l : List ℕ) → MatchOption (position here l) (first_at separator l ≡ length l) (λ n. (n ≡ first_at separator l) × (n < length l))
  first_found l = go (ltb (position_or_len here l) (length l)) refl
    where
      go : (t : Bool) → ltb (position_or_len here l) (length l) ≡ t
          → MatchOption (cond t (Some (position_or_len here l)) None) (first_at separator l ≡ length l)
          (λ n. (n ≡ first_at separator l) × (n < length l))
      go true e = (sym (first_is l), ltb-true (position_or_len here l) (length l) e)
      go false e = omega (arith, first_is l, first-within l, ltb-false (position_or_len here l) (length l) e)

  -- none passes, or one does
  pub any-none : (l : List ℕ) → list_any here l ≡ false → first_at separator l ≡ length l
  unfolding first_at
  any-none [] e = refl
  any-none (b ∷ bs) e = go (λ q. any-none bs q) (here b) e
    where
      go : (list_any here bs ≡ false → first_at separator bs ≡ length bs) → (t : Bool) → (t || list_any here bs) ≡ false
          → (if t then 0 else suc (first_at separator bs)) ≡ suc (length bs)
      go rest true q = cc
      go rest false q = ap suc (rest q)

  pub any-some : (l : List ℕ) → list_any here l ≡ true → first_at separator l < length l
  unfolding first_at
  any-some [] e = cc
  any-some (b ∷ bs) e = go (λ q. any-some bs q) (here b) e
    where
      go : (list_any here bs ≡ true → first_at separator bs < length bs) → (t : Bool) → (t || list_any here bs) ≡ true
          → (if t then 0 else suc (first_at separator bs)) < suc (length bs)
      go rest true q = omega arith
      go rest false q = omega (arith, rest q)

  -- the first part, and some parts after it
  pub parts_first : (l : List ℕ) → (ps : List (List ℕ)) × (parts separator l ≡ take (first_at separator l) l ∷ ps)
  parts_first l = go (ltb (first_at separator l) (length l)) refl
    where
      go : (t : Bool) → ltb (first_at separator l) (length l) ≡ t
          → (ps : List (List ℕ)) × (parts separator l ≡ take (first_at separator l) l ∷ ps)
      go true e = (_, parts_more l (ltb-true _ _ e))
      go false e =
          let None : first_at separator l ≡ length l = omega (arith, ltb-false (first_at separator l) (length l) e, first-within l) in
          ([], parts_last l None ∙ ap (λ (p : List ℕ). p ∷ []) (sym (take_all (first_at separator l) l (omega arith))))
