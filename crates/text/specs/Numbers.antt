-- Numbers as text (01, "Plan text and listing": decimal, up to 65,535, without sign or leading zero).
use Rattle.std.specs.Prelude.{Bool, true, not, List, [], ◌∷◌, ◌++◌, ℕ, zero, suc, ◌+◌, ◌-◌, ◌*◌, ◌/◌, ◌%◌, leb, ltb, eqb, length, get_or, if◌then◌else◌}
use Rattle.std.specs.Prelude.{Option, None, Some}
use Rattle.units.specs.Choice.{◌and◌, some_if, on_option}
use Rattle.units.specs.Limits.{within}

-- ---- read

-- decimal digits, and the number that they make after those read before
unfoldable pub is_digits : List ℕ → Bool
is_digits [] = true
is_digits (b ∷ bs) = within 48 57 b and is_digits bs

unfoldable pub decimal : ℕ → List ℕ → ℕ
decimal n [] = n
decimal n (b ∷ bs) = decimal (n * 10 + (b - 48)) bs

-- the greatest number of plan text
abbrev pub most_number : ℕ
most_number = 65535

-- no leading zero: 0 alone may begin with 0
unfoldable pub is_plain : List ℕ → Bool
is_plain bs = if eqb (length bs) 1 then true else not (eqb (get_or bs 0 0) 48)

-- a number: not empty, decimal, up to 65,535, without sign or leading zero
unfoldable pub is_number : List ℕ → Bool
is_number bs = leb 1 (length bs) and is_digits bs and is_plain bs and leb (decimal 0 bs) most_number

unfoldable pub number_of : List ℕ → Option ℕ
number_of bs = some_if (is_number bs) (decimal 0 bs)

-- the numbers of all fields, if each is one
unfoldable pub numbers_of : List (List ℕ) → Option (List ℕ)
numbers_of [] = Some []
numbers_of (f ∷ fs) = on_option (number_of f) None (λ n. on_option (numbers_of fs) None (λ ns. Some (n ∷ ns)))

-- ---- printed

-- the digit of a number below 10
abbrev pub digit : ℕ → ℕ
digit n = 48 + n

-- the digits of n, by at most k divisions by ten
unfoldable pub digits_by : ℕ → ℕ → List ℕ
digits_by zero n = digit (n % 10) ∷ []
digits_by (suc k) n = if ltb n 10 then digit n ∷ [] else digits_by k (n / 10) ++ (digit (n % 10) ∷ [])

-- n divisions are enough for every n
unfoldable pub decimal_text : ℕ → List ℕ
decimal_text n = digits_by n n
