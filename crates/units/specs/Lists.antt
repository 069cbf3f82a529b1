-- Lists of what f makes of the numbers 0, 1, .., n - 1, as a loop that counts up makes them; and lists joined.
use Rattle.std.specs.Prelude.{List, [], ◌∷◌, ◌++◌, ℕ, zero, suc}

unfoldable pub list_to : {A : Type 0} → (ℕ → A) → ℕ → List A
list_to f zero = []
list_to f (suc n) = list_to f n ++ (f n ∷ [])

-- lists joined
unfoldable pub joined : List (List ℕ) → List ℕ
joined [] = []
joined (l ∷ ls) = l ++ joined ls
