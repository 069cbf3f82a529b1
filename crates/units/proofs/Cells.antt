-- Laws of cells that were written: what stands before and past them, one part after the other, a loop that writes them, and a run of
-- single stores. Assumes nothing.
use mathlib.Core.Path.{◌≡◌, refl, sym, ap, ◌∙◌}
use mathlib.Core.Logic.{◌⊎◌, inl, inr}
use mathlib.Core.List.{List, [], ◌∷◌, ◌++◌, append_assoc}
use Prim.Native.Nat.{ℕ, zero, suc, ◌+◌, ◌≤◌, ◌<◌}
use native.Mathlib.Nat.{add-zero, zero-add}
use native.Mathlib.Numerals.{add-one}
use native.Mathlib.Omega.{arith}
use lib.ListN.{length, take, drop, set, get_or, length-append, length-set}
use lib.Seq.{paste, paste-suc, length-paste, take-paste, drop-paste, drop-drop, take-length, set_split, sets, get_or-set_same, get_or-set_other}
use Rattle.units.specs.Cells.{written, written_at}

-- a loop that writes cell by cell
module _ {A : Type 0} (cells : List A) (at : ℕ) (xs : List A) where
  pub paste-next : (i : ℕ) (d : A) → at + i < length cells → i < length xs
      → set (paste cells at xs i) (at + i) (get_or xs i d) ≡ paste cells at xs (i + 1)
  paste-next i d h k = rw add-one (paste-suc cells at xs i d h k)

  pub paste-end : paste cells at xs (length xs) ≡ written_at at xs cells
  unfolding written_at
  paste-end = rw (take-length xs)

module _ {A : Type 0} (at : ℕ) (xs cells : List A) where
  pub written-length : at + length xs ≤ length cells → length (written_at at xs cells) ≡ length cells
  written-length l = rw (← paste-end cells at xs) (length-paste cells at xs (length xs) l (omega arith))

  -- the cells up to the end of what was written, and those past it
  pub written-front : at ≤ length cells → take (at + length xs) (written_at at xs cells) ≡ take at cells ++ xs
  written-front l =
      rw (← paste-end cells at xs) (take-paste cells at xs (length xs) l (omega arith) ∙ ap (λ (ys : List A). take at cells ++ ys) (take-length xs))

  pub written-rest : (n : ℕ) → at ≤ length cells → drop (at + length xs + n) (written_at at xs cells) ≡ drop (at + length xs + n) cells
  written-rest n l =
      sym (drop-drop n (at + length xs) (written_at at xs cells))
      ∙ ap (drop n) (rw (← paste-end cells at xs) (drop-paste cells at xs (length xs) l (omega arith)))
      ∙ drop-drop n (at + length xs) cells

opened : {A : Type 0} (at : ℕ) (xs cells : List A) → written_at at xs cells ≡ take at cells ++ xs ++ drop (at + length xs) cells
unfolding written_at
opened at xs cells = refl

-- one part, and another right after it: both are written
pub written_both : {A : Type 0} (at : ℕ) (xs ys cells : List A) → at ≤ length cells
    → written_at (at + length xs) ys (written_at at xs cells) ≡ written_at at (xs ++ ys) cells
written_both at xs ys cells l =
    let sum : at + (length xs + length ys) ≡ at + length xs + length ys = omega arith in
    rw (opened (at + length xs) ys (written_at at xs cells), written-front at xs cells l, written-rest at xs cells (length ys) l)
    (rw (opened at (xs ++ ys) cells, length-append xs ys, sum) (simp append_assoc))

-- one cell
pub written_one : {A : Type 0} (at : ℕ) (x : A) (cells : List A) → at < length cells → set cells at x ≡ written_at at (x ∷ []) cells
unfolding written_at
written_one at x cells l = set_split cells at x l ∙ rw add-one (sym (append_assoc (take at cells) (x ∷ []) (drop (suc at) cells)))

-- from the first cell on
pub written_start : {A : Type 0} (xs cells : List A) → written_at 0 xs cells ≡ written xs cells
unfolding written_at written
written_start xs cells = rw zero-add

-- ---- a run of single stores

module _ {A : Type 0} (d : A) where
  -- a cell before those stored or after them
  pub sets-other : (vs l : List A) (i m : ℕ) → (m < i) ⊎ (i + length vs ≤ m) → get_or (sets l i vs) m d ≡ get_or l m d
  sets-other [] l i m h = refl
  sets-other (a ∷ vs) l i m (inl h) = sets-other vs (set l i a) (suc i) m (inl (omega arith)) ∙ get_or-set_other l i m a d (λ q. omega arith)
  sets-other (a ∷ vs) l i m (inr h) = sets-other vs (set l i a) (suc i) m (inr (omega arith)) ∙ get_or-set_other l i m a d (λ q. omega arith)

  -- the k-th of those stored
  pub sets-own : (vs l : List A) (i k : ℕ) → k < length vs → i + length vs ≤ length l → get_or (sets l i vs) (i + k) d ≡ get_or vs k d
  sets-own [] l i k h r = absurd (omega arith)
  sets-own (a ∷ vs) l i zero h r =
      ap (λ (m : ℕ). get_or (sets (set l i a) (suc i) vs) m d) (add-zero i)
      ∙ sets-other vs (set l i a) (suc i) i (inl (omega arith))
      ∙ get_or-set_same l i a d (omega arith)
  sets-own (a ∷ vs) l i (suc k) h r =
      let q : i + suc k ≡ suc i + k = omega arith in
      ap (λ (m : ℕ). get_or (sets (set l i a) (suc i) vs) m d) q
      ∙ sets-own vs (set l i a) (suc i) k (omega arith) (omega (arith, length-set l i a))
