-- Laws of codes and letters. Assumes nothing.
use Rattle.std.specs.Prelude.{if◌then◌else◌}
use mathlib.Core.Path.{◌≡◌, refl, sym, ap, ◌∙◌}
use mathlib.Core.Bool.{Bool, true, false}
use mathlib.Core.List.{List}
use Prim.Native.Nat.{ℕ, zero, suc, ◌/◌, ◌%◌, ◌≤◌, ◌<◌}
use native.Mathlib.Omega.{arith}
use lib.Dec.{eqb}
use lib.ListN.{get_or}
use borrow.Author.Tests.{eqb-true}
use Rattle.units.proofs.Lists.{list_at}
use Rattle.units.specs.Sums.{one_if}
use Rattle.plan.specs.HourKinds.{is_kind, is_symbol, regular, closed, overtime}
use Rattle.plan.specs.Packed.{bytes_of, code_at, letter_of, letters_of}

-- a number is not two
two : {C : Type 0} (n a b : ℕ) → eqb n a ≡ true → eqb n b ≡ true → a < b → C
two n a b p q l = absurd (omega (arith, eqb-true n a p, eqb-true n b q))

-- a code's letter is a kind's exactly when the code is the kind's
module _ (n : ℕ) where
  pub letter-closed : eqb (letter_of n) closed ≡ eqb n 0
  unfolding letter_of
  letter-closed = go (eqb n 0) (eqb n 1) (eqb n 2)
    where
      go : (a b c : Bool) → eqb (if a then closed else (if b then regular else (if c then overtime else 0))) closed ≡ a
      go true b c = refl
      go false true c = refl
      go false false true = refl
      go false false false = refl

  pub letter-regular : eqb (letter_of n) regular ≡ eqb n 1
  unfolding letter_of
  letter-regular = go (eqb n 0) (eqb n 1) (eqb n 2) refl refl
    where
      go : (a b c : Bool) → eqb n 0 ≡ a → eqb n 1 ≡ b
          → eqb (if a then closed else (if b then regular else (if c then overtime else 0))) regular ≡ b
      go true true c p q = two n 0 1 p q (omega arith)
      go true false c p q = refl
      go false true c p q = refl
      go false false true p q = refl
      go false false false p q = refl

  pub letter-overtime : eqb (letter_of n) overtime ≡ eqb n 2
  unfolding letter_of
  letter-overtime = go (eqb n 0) (eqb n 1) (eqb n 2) refl refl refl
    where
      go : (a b c : Bool) → eqb n 0 ≡ a → eqb n 1 ≡ b → eqb n 2 ≡ c
          → eqb (if a then closed else (if b then regular else (if c then overtime else 0))) overtime ≡ c
      go true b true p q r = two n 0 2 p r (omega arith)
      go true b false p q r = refl
      go false true true p q r = two n 1 2 q r (omega arith)
      go false true false p q r = refl
      go false false true p q r = refl
      go false false false p q r = refl

-- the byte of an hour is one of those that hold the hours
pub byte-within : (h t : ℕ) → t < h → t / 4 < bytes_of h
unfolding bytes_of
byte-within h t l = omega arith

pub letter-at : (h : ℕ) (bytes : List ℕ) (t : ℕ) → t < h → get_or (letters_of h bytes) t 0 ≡ letter_of (code_at bytes t)
unfolding letters_of
letter-at h bytes t l = list_at (λ k. letter_of (code_at bytes k)) h t 0 l

-- a code whose letter is r, c or o is a kind's
small : (n : ℕ) → (if eqb (letter_of n) regular then true else (if eqb (letter_of n) closed then true else eqb (letter_of n) overtime)) ≡ true
    → n ≤ 2
small n e = go (eqb n 1) (eqb n 0) refl refl (sym (rw (letter-regular n, letter-closed n, letter-overtime n) refl) ∙ e)
  where
    go : (a b : Bool) → eqb n 1 ≡ a → eqb n 0 ≡ b → (if a then true else (if b then true else eqb n 2)) ≡ true → n ≤ 2
    go true b p q r = omega (arith, eqb-true n 1 p)
    go false true p q r = omega (arith, eqb-true n 0 q)
    go false false p q r = omega (arith, eqb-true n 2 r)

pub code-kind : (h : ℕ) (bytes : List ℕ) (t : ℕ) → t < h → is_symbol (letters_of h bytes) t ≡ true → code_at bytes t ≤ 2
unfolding is_symbol is_kind
code-kind h bytes t l e =
    small (code_at bytes t)
    (ap (λ (x : ℕ). if eqb x regular then true else (if eqb x closed then true else eqb x overtime)) (sym (letter-at h bytes t l)) ∙ e)

-- of a kind's code its two bits count the hour
pub counts-regular : (n : ℕ) → n ≤ 2 → n % 2 ≡ one_if (eqb (letter_of n) regular)
unfolding letter_of
counts-regular zero l = refl
counts-regular (suc zero) l = refl
counts-regular (suc (suc zero)) l = refl
counts-regular (suc (suc (suc n))) l = absurd (omega arith)

pub counts-overtime : (n : ℕ) → n ≤ 2 → n / 2 ≡ one_if (eqb (letter_of n) overtime)
unfolding letter_of
counts-overtime zero l = refl
counts-overtime (suc zero) l = refl
counts-overtime (suc (suc zero)) l = refl
counts-overtime (suc (suc (suc n))) l = absurd (omega arith)
