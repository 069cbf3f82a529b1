-- What the code answers of fields. 01 has no such terms.
use Rattle.std.specs.Prelude.{◌≡◌, List, ℕ, length, take}
use Rattle.std.specs.Prelude.{Option, None, Some}

-- so many numbers in all, and the first cells hold the first of them, as many as there is room for
pub record Begin (ns : List ℕ) (count : ℕ) (cells : List ℕ) : Type 0 where
  pub counted : count ≡ length ns
  pub kept : take count cells ≡ take (length cells) ns

-- the fields' numbers, or that some field is none
unfoldable pub NumbersMade : Option (List ℕ) → Option ℕ → List ℕ → Type 0
NumbersMade o None cells = o ≡ None
NumbersMade o (Some n) cells = (ns : List ℕ) × (o ≡ Some ns) × Begin ns n cells
