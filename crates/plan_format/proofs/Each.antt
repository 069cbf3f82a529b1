-- Laws of the lists that a plan's lines hold, each of one length: with one list more at the end, as a loop makes them, and one by one. Assumes nothing.
use mathlib.Core.Path.{◌≡◌, refl, ap, ◌∙◌}
use mathlib.Core.Bool.{Bool, true, false}
use mathlib.Core.List.{List, [], ◌∷◌, ◌++◌}
use Prim.Native.Nat.{ℕ, zero, suc, ◌<◌}
use native.Mathlib.Omega.{arith}
use lib.Dec.{eqb}
use lib.ListN.{length, get_or}
use borrow.Author.Tests.{eq-eqb, eqb-true}
use Rattle.units.specs.Choice.{◌and◌}
use Rattle.units.specs.Lists.{list_to}
use Rattle.units.proofs.Choices.{and_both, and_left, and_right}
use Rattle.plan_format.specs.Reading.{all_of}

and_assoc : (a b c : Bool) → a and (b and c) ≡ (a and b) and c
and_assoc true b c = refl
and_assoc false b c = refl

and-true : (a : Bool) → a and true ≡ a
and-true true = refl
and-true false = refl

module _ (h : ℕ) where
  pub all_more : (ls : List (List ℕ)) (l : List ℕ) → all_of h (ls ++ (l ∷ [])) ≡ all_of h ls and eqb (length l) h
  unfolding all_of
  all_more [] l = and-true (eqb (length l) h)
  all_more (k ∷ ls) l = ap (λ b. eqb (length k) h and b) (all_more ls l) ∙ and_assoc (eqb (length k) h) (all_of h ls) (eqb (length l) h)

  pub all_list : (f : ℕ → List ℕ) (n : ℕ) → ((i : ℕ) → i < n → length (f i) ≡ h) → all_of h (list_to f n) ≡ true
  unfolding all_of list_to
  all_list f zero e = refl
  all_list f (suc n) e =
      all_more (list_to f n) (f n) ∙ and_both _ _ (all_list f n (λ i l. e i (omega arith))) (eq-eqb (length (f n)) h (e n (omega arith)))

  -- any of them
  pub all_at : (ls : List (List ℕ)) → all_of h ls ≡ true → (k : ℕ) → k < length ls → length (get_or ls k []) ≡ h
  unfolding all_of
  all_at [] e k l = absurd (omega arith)
  all_at (l ∷ ls) e zero m = eqb-true (length l) h (and_left _ _ e)
  all_at (l ∷ ls) e (suc k) m = all_at ls (and_right _ _ e) k (omega arith)
