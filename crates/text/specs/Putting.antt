-- Parts put into lent memory one after the other. 01 has no such terms.
use Rattle.std.specs.Prelude.{◌≡◌, List, ℕ, ◌+◌, length}
use Rattle.units.specs.Cells.{written_at}

-- xs stands in the cells from `at` on, and `next` is the place after it
pub record Put {A : Type 0} (xs : List A) (at : ℕ) (cells : List A) (next : ℕ) (left : List A) : Type 0 where
  pub place : next ≡ at + length xs
  pub cells_left : left ≡ written_at at xs cells
