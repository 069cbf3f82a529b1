-- Lines and fields (01, "Plan text and listing": fields parted by one tab, each line ended by LF). A text is the list of its bytes.
use Rattle.std.specs.Prelude.{Bool, true, false, List, [], ◌∷◌, ℕ, suc, eqb, if◌then◌else◌}
use Rattle.units.specs.Choice.{◌and◌}

-- the bytes that part fields and end lines
abbrev pub tab : ℕ
tab = 9

abbrev pub lf : ℕ
lf = 10

-- the parts between the separators: one more than there are separators
unfoldable pub into_first : ℕ → List (List ℕ) → List (List ℕ)
into_first b [] = (b ∷ []) ∷ []
into_first b (p ∷ ps) = (b ∷ p) ∷ ps

unfoldable pub parts : ℕ → List ℕ → List (List ℕ)
parts separator [] = [] ∷ []
parts separator (b ∷ bs) = if eqb b separator then [] ∷ parts separator bs else into_first b (parts separator bs)

-- where the first separator stands, or the length: the length of the first part
unfoldable pub first_at : ℕ → List ℕ → ℕ
first_at separator [] = 0
first_at separator (b ∷ bs) = if eqb b separator then 0 else suc (first_at separator bs)

-- equal byte for byte
unfoldable pub same : List ℕ → List ℕ → Bool
same [] [] = true
same [] (y ∷ ys) = false
same (x ∷ xs) [] = false
same (x ∷ xs) (y ∷ ys) = eqb x y and same xs ys
