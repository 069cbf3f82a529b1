-- The first number at which a test holds, from a number on. Only contracts of private functions cite this.
use Rattle.std.specs.Prelude.{Bool, ℕ, zero, suc, ◌+◌, if◌then◌else◌}

-- the first of e, e + 1, .., n of them, at which the test holds; e + n where it holds at none
unfoldable pub first_from : (ℕ → Bool) → ℕ → ℕ → ℕ
first_from test e zero = e
first_from test e (suc n) = if test e then e else first_from test (e + 1) n
