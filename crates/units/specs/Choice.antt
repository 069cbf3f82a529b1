-- Tests and choices: the words in which the definitions of the product are written.
use Rattle.std.specs.Prelude.{Bool, true, false, ◌&&◌, ℕ, zero, suc, if◌then◌else◌}
use Rattle.std.specs.Prelude.{Option, None, Some}
use Rattle.std.specs.Bool.{then_some}

-- both hold
infixr 35 ◌and◌
abbrev pub ◌and◌ : Bool → Bool → Bool
a and b = a && b

-- the value, where the test holds
abbrev pub some_if : {A : Type 0} → Bool → A → Option A
some_if test a = then_some test a

-- what f makes of the value, or b where there is none
unfoldable pub on_option : {A B : Type 0} → Option A → B → (A → B) → B
on_option None b f = b
on_option (Some a) b f = f a

-- the first of the two that is there
infixr 30 ◌or_else◌
unfoldable pub ◌or_else◌ : {A : Type 0} → Option A → Option A → Option A
None or_else y = y
Some a or_else y = Some a

-- the test holds at one of 0, 1, .., n - 1, or at several
unfoldable pub some_of : (ℕ → Bool) → ℕ → Bool
some_of test zero = false
some_of test (suc n) = if some_of test n then true else test n

-- the first that f finds at 0, 1, .., n - 1
unfoldable pub first_of : {A : Type 0} → (ℕ → Option A) → ℕ → Option A
first_of f zero = None
first_of f (suc n) = first_of f n or_else f n
