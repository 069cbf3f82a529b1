-- Lent memory, as the list of its cells.
use Rattle.std.specs.Prelude.{List, ◌++◌, ℕ, ◌+◌, length, take, drop}

-- the cells from the first on become xs; those past them are untouched
unfoldable pub written : {A : Type 0} → List A → List A → List A
written xs cells = xs ++ drop (length xs) cells

-- the cells from an index on become xs; those before and past them are untouched
unfoldable pub written_at : {A : Type 0} → ℕ → List A → List A → List A
written_at at xs cells = take at cells ++ xs ++ drop (at + length xs) cells
