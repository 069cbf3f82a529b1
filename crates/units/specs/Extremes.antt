-- The least and the greatest (01, "When a task fits its calendar"), for any list and any key, and the first that attains it (02, W-204).
use Rattle.std.specs.Prelude.{Bool, List, [], ◌∷◌, ℕ, min, max, ltb, if◌then◌else◌}

-- the least, and the greatest, of m and the values of a key over a list
unfoldable pub least : {A : Type 0} → (A → ℕ) → ℕ → List A → ℕ
least key m [] = m
least key m (x ∷ xs) = least key (min m (key x)) xs

unfoldable pub greatest : {A : Type 0} → (A → ℕ) → ℕ → List A → ℕ
greatest key m [] = m
greatest key m (x ∷ xs) = greatest key (max m (key x)) xs

-- when a number is better than another: where the least is looked for, and where the greatest is
abbrev pub less : ℕ → ℕ → Bool
less a b = ltb a b

abbrev pub more : ℕ → ℕ → Bool
more a b = ltb b a

-- of two the second if its key is better, else the first
unfoldable pub better_of : {A : Type 0} → (ℕ → ℕ → Bool) → (A → ℕ) → A → A → A
better_of better key m x = if better (key x) (key m) then x else m

-- of m and the members of a list the first whose key is the best
unfoldable pub first_best : {A : Type 0} → (ℕ → ℕ → Bool) → (A → ℕ) → A → List A → A
first_best better key m [] = m
first_best better key m (x ∷ xs) = first_best better key (better_of better key m x) xs
