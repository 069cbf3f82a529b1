-- Laws of parts put into lent memory one after the other, each with the place after it. Assumes nothing.
use mathlib.Core.Path.{◌≡◌, refl, ap, ◌∙◌}
use mathlib.Core.List.{List, [], ◌∷◌, ◌++◌}
use Prim.Native.Nat.{ℕ, ◌+◌, ◌≤◌, ◌<◌}
use native.Mathlib.Omega.{arith}
use lib.ListN.{length, set, get_or, length-append}
use lib.Seq.{paste, paste-zero}
use Rattle.units.specs.Cells.{written}
use Rattle.units.proofs.Cells.{paste-next, paste-end, written_one, written_both, written_start, written-length}
use Rattle.text.specs.Putting.{Put}

pub put-none : {A : Type 0} (at : ℕ) (cells : List A) → Put [] at cells at cells
put-none at cells = record { place = omega arith; cells_left = paste-zero cells at [] ∙ paste-end cells at [] }

pub put_one : {A : Type 0} (x : A) (at : ℕ) (cells : List A) → at < length cells → Put (x ∷ []) at cells (at + 1) (set cells at x)
put_one x at cells l = record { place = refl; cells_left = written_one at x cells l }

-- cell by cell: one more, and up to the last
module _ {A : Type 0} (cells : List A) (at : ℕ) (xs : List A) (i : ℕ) {left : List A} (is : left ≡ paste cells at xs i) where
  pub paste_more : {x : A} → x ≡ get_or xs i x → at + i < length cells → i < length xs → set left (at + i) x ≡ paste cells at xs (i + 1)
  paste_more {x} has h k =
      ap (λ (l : List A). set l (at + i) x) is ∙ ap (set (paste cells at xs i) (at + i)) has ∙ paste-next cells at xs i x h k

  pub put-pasted : i ≡ length xs → Put xs at cells (at + length xs) left
  put-pasted end = record { place = refl; cells_left = is ∙ ap (paste cells at xs) end ∙ paste-end cells at xs }

module _ {A : Type 0} {xs ys : List A} {at m n : ℕ} {cells middle left : List A} where
  -- a chain of two
  pub put_both : at ≤ length cells → Put xs at cells m middle → Put ys m middle n left → Put (xs ++ ys) at cells n left
  put_both l p q =
      record {
        place = simp length-append (omega (arith, p.place, q.place));
        cells_left = q.cells_left ∙ rw (p.place, p.cells_left) (written_both at xs ys cells l);
      }

module _ {A : Type 0} {xs : List A} {n : ℕ} {cells left : List A} where
  -- a chain that starts at the first cell
  pub put_all : Put xs 0 cells n left → (n ≡ length xs) × (left ≡ written xs cells)
  put_all p = (omega (arith, p.place), p.cells_left ∙ written_start xs cells)

  pub put-length : {at : ℕ} → Put xs at cells n left → at + length xs ≤ length cells → length left ≡ length cells
  put-length {at} p l = ap length p.cells_left ∙ written-length at xs cells l
