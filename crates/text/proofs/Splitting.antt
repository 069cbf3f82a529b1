-- Laws of a text up to its first separator and after it. Assumes nothing.
use Rattle.std.specs.Prelude.{if◌then◌else◌}
use mathlib.Core.Path.{◌≡◌, refl, sym, ap}
use mathlib.Core.Bool.{Bool, true, false}
use mathlib.Core.List.{List, [], ◌∷◌, ◌++◌}
use Prim.Native.Nat.{ℕ, suc, ◌<◌}
use native.Mathlib.Omega.{arith}
use lib.Dec.{eqb}
use lib.ListN.{length, take, drop}
use borrow.Author.Tests.{eqb-true}
use Rattle.text.specs.Fields.{first_at}

module _ (separator : ℕ) where
  -- the part before it is without one
  pub part-without : (l : List ℕ) → first_at separator (take (first_at separator l) l) ≡ length (take (first_at separator l) l)
  unfolding first_at
  part-without [] = refl
  part-without (b ∷ bs) = go (part-without bs) (eqb b separator) refl
    where
      go : first_at separator (take (first_at separator bs) bs) ≡ length (take (first_at separator bs) bs) → (t : Bool) → eqb b separator ≡ t
          → first_at separator (take (if t then 0 else suc (first_at separator bs)) (b ∷ bs))
          ≡ length (take (if t then 0 else suc (first_at separator bs)) (b ∷ bs))
      go rest true e = refl
      go rest false e = rw e (ap suc rest)

  -- that part, the separator and what follows
  pub split-first : (l : List ℕ) → first_at separator l < length l
      → take (first_at separator l) l ++ (separator ∷ drop (suc (first_at separator l)) l) ≡ l
  unfolding first_at
  split-first [] h = absurd (omega arith)
  split-first (b ∷ bs) h = go (λ k. split-first bs k) (eqb b separator) refl h
    where
      go : (first_at separator bs < length bs → take (first_at separator bs) bs ++ (separator ∷ drop (suc (first_at separator bs)) bs) ≡ bs)
          → (t : Bool) → eqb b separator ≡ t → (if t then 0 else suc (first_at separator bs)) < suc (length bs)
          → take (if t then 0 else suc (first_at separator bs)) (b ∷ bs)
          ++ (separator ∷ drop (suc (if t then 0 else suc (first_at separator bs))) (b ∷ bs)) ≡ b ∷ bs
      go rest true e k = ap (λ (x : ℕ). x ∷ bs) (sym (eqb-true b separator e))
      go rest false e k = ap (λ (xs : List ℕ). b ∷ xs) (rest (omega arith))
