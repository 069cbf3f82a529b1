-- Sums, counts and maxima over the numbers 0, 1, .., n - 1, as a loop that counts up makes them.
use Rattle.std.specs.Prelude.{Bool, true, false, ℕ, zero, suc, ◌+◌, max, if◌then◌else◌}

unfoldable pub sum_to : (ℕ → ℕ) → ℕ → ℕ
sum_to f zero = 0
sum_to f (suc n) = sum_to f n + f n

-- the values of f at the numbers that pass the test, added
unfoldable pub sum_where : (ℕ → Bool) → (ℕ → ℕ) → ℕ → ℕ
sum_where test f n = sum_to (λ j. if test j then f j else 0) n

-- 1 for a test that holds
abbrev pub one_if : Bool → ℕ
one_if true = 1
one_if false = 0

-- how many of the numbers pass the test
unfoldable pub count_where : (ℕ → Bool) → ℕ → ℕ
count_where test n = sum_to (λ j. one_if (test j)) n

-- the greatest value of f, and 0 where there is none
unfoldable pub max_to : (ℕ → ℕ) → ℕ → ℕ
max_to f zero = 0
max_to f (suc n) = max (max_to f n) (f n)
