-- The words that open a line of plan text or of a listing (01, "Plan text and listing"; `after`: 02, W-206).
use Rattle.std.specs.Prelude.{List, [], ◌∷◌, ℕ}

-- `plan`, `cal`, `task`, `after`
abbrev pub word_plan : List ℕ
word_plan = 112 ∷ 108 ∷ 97 ∷ 110 ∷ []

abbrev pub word_cal : List ℕ
word_cal = 99 ∷ 97 ∷ 108 ∷ []

abbrev pub word_task : List ℕ
word_task = 116 ∷ 97 ∷ 115 ∷ 107 ∷ []

abbrev pub word_after : List ℕ
word_after = 97 ∷ 102 ∷ 116 ∷ 101 ∷ 114 ∷ []

-- `settled`, `impossible`, `room`, `refused`
abbrev pub word_settled : List ℕ
word_settled = 115 ∷ 101 ∷ 116 ∷ 116 ∷ 108 ∷ 101 ∷ 100 ∷ []

abbrev pub word_impossible : List ℕ
word_impossible = 105 ∷ 109 ∷ 112 ∷ 111 ∷ 115 ∷ 115 ∷ 105 ∷ 98 ∷ 108 ∷ 101 ∷ []

abbrev pub word_room : List ℕ
word_room = 114 ∷ 111 ∷ 111 ∷ 109 ∷ []

abbrev pub word_refused : List ℕ
word_refused = 114 ∷ 101 ∷ 102 ∷ 117 ∷ 115 ∷ 101 ∷ 100 ∷ []
