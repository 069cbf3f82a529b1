-- Laws of a task's box as its line says it: by how many numbers the line has, and how long it is. Assumes nothing.
use mathlib.Core.Path.{◌≡◌, refl, sym}
use mathlib.Core.List.{List, [], ◌∷◌, map}
use Prim.Native.Nat.{ℕ, ◌+◌, ◌-◌, ◌*◌}
use native.Mathlib.Nat.{mul-suc}
use native.Mathlib.Omega.{arith}
use lib.Dec.{eqb}
use lib.ListN.{length, get_or, drop, length-append, length-drop}
use borrow.Author.Tests.{eq-eqb, ne_eqb, eqb-true}
use Rattle.units.proofs.Choices.{if-true, if-false, if-all}
use Rattle.units.specs.Lists.{joined}
use Rattle.plan_format.specs.Reading.{box_of}

-- of a plan of so many hours and rooms
module _ (h rooms : ℕ) where
  pub box-long : (task : List ℕ) → length task ≡ rooms + 8 → drop (rooms + 2) task ≡ box_of h rooms task
  unfolding box_of
  box-long task e = sym (if-true _ _ _ (eq-eqb (length task) (rooms + 8) e))

  pub box-short : (last : ℕ) (task : List ℕ) → last ≡ h - 1 → (length task ≡ rooms + 8 → ⊥)
      → 0 ∷ last ∷ get_or task 1 0 ∷ h ∷ 0 ∷ 0 ∷ [] ≡ box_of h rooms task
  unfolding box_of
  box-short last task e k = rw e (sym (if-false _ _ _ (ne_eqb (length task) (rooms + 8) k)))

  pub box-length : (task : List ℕ) → length (box_of h rooms task) ≡ 6
  unfolding box_of
  box-length task =
      if-all (λ (l : List ℕ). length l ≡ 6) (eqb (length task) (rooms + 8)) _ _
      (λ e. omega (arith, length-drop (rooms + 2) task, eqb-true (length task) (rooms + 8) e))
      (λ e. refl)

  pub boxes-length : (tasks : List (List ℕ)) → length (joined (map (box_of h rooms) tasks)) ≡ 6 * length tasks
  unfolding joined
  boxes-length [] = refl
  boxes-length (t ∷ ts) =
      omega (arith, length-append (box_of h rooms t) (joined (map (box_of h rooms) ts)), box-length t, boxes-length ts, mul-suc 6 (length ts))
