-- Laws of words that are the same, as `==` compares them. Assumes nothing.
use mathlib.Core.Path.{◌≡◌, refl, sym, ◌∙◌}
use mathlib.Core.Bool.{Bool, true, false, ◌&&◌}
use mathlib.Core.List.{List, [], ◌∷◌}
use Prim.Native.Nat.{ℕ}
use lib.Dec.{eqb}
use Rattle.std.specs.Str.{bytes_eq}
use Rattle.std.proofs.lemmas.Slice.Eq.{bytes_eq-Decides}
use Rattle.units.specs.Choice.{◌and◌}
use Rattle.text.specs.Fields.{same}

-- the library's word for it
pub and_is : (s t : Bool) → s and t ≡ (s && t)
and_is true t = refl
and_is false t = refl

same_is : (a b : List ℕ) → same a b ≡ bytes_eq a b
unfolding same
same_is [] [] = refl
same_is [] (y ∷ ys) = refl
same_is (x ∷ xs) [] = refl
same_is (x ∷ xs) (y ∷ ys) = rw (same_is xs ys) (and_is (eqb x y) (bytes_eq xs ys))

pub same-not : (a b : List ℕ) → (a ≡ b → ⊥) → same a b ≡ false
same-not a b h = go (same a b) refl
  where
    go : (t : Bool) → same a b ≡ t → t ≡ false
    go true e = absurd (h ((bytes_eq-Decides a b).0 (sym (same_is a b) ∙ e)))
    go false e = refl
