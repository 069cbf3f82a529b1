-- Lines as they are printed (01, "Plan text and listing"): fields parted by one tab, each line ended by LF.
use Rattle.std.specs.Prelude.{List, [], ◌∷◌, ◌++◌, ℕ}
use Rattle.text.specs.Fields.{tab, lf}
use Rattle.text.specs.Numbers.{decimal_text}

-- a tab before each number
unfoldable pub number_fields : List ℕ → List ℕ
number_fields [] = []
number_fields (n ∷ ns) = tab ∷ (decimal_text n ++ number_fields ns)

-- LF at a line's end
abbrev pub ended : List ℕ → List ℕ
ended line = line ++ (lf ∷ [])

-- a word and numbers, as a line
unfoldable pub line_of : List ℕ → List ℕ → List ℕ
line_of word numbers = ended (word ++ number_fields numbers)
