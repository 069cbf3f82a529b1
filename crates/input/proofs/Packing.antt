-- A calendar that is tested byte by byte is tested as hour by hour. Assumes nothing.
use Rattle.std.specs.Prelude.{if◌then◌else◌}
use mathlib.Core.Path.{◌≡◌, refl, sym, ◌∙◌}
use mathlib.Core.Bool.{Bool, true, false}
use mathlib.Core.List.{List}
use Prim.Native.Nat.{ℕ, zero, ◌+◌, ◌-◌, ◌*◌, ◌/◌, ◌%◌, ◌^◌, ◌≤◌, ◌<◌}
use native.Mathlib.Omega.{arith}
use lib.Dec.{eqb, ltb, leb}
use lib.ListN.{length, get_or}
use borrow.Author.Tests.{eqb-true, eqb-false, ltb-true, leb-true, le-leb, lt-ltb}
use Rattle.units.proofs.Choices.{and_both, and_left, and_right, true≢false, untrue, if-true, if-false}
use Rattle.plan.specs.Packed.{bytes_of, code_at, is_packed}
use Rattle.plan.proofs.Packing.{next-codes, packed-by, packed-kinds, packed-clear}
use Rattle.input.specs.Inner.Codes.{are_codes, is_clear}

module _ (h : ℕ) (bytes : List ℕ) (low : (i : ℕ) → get_or bytes i 0 < 256) where
  pub codes-next : (i : ℕ) → ((t : ℕ) → t < 4 * i → code_at bytes t ≤ 2) → are_codes (get_or bytes i 0) ≡ true
      → (t : ℕ) → t < 4 * (i + 1) → code_at bytes t ≤ 2
  unfolding are_codes
  codes-next i before e =
      let rest = and_right _ _ e in
      let last = and_right _ _ rest in
      next-codes h bytes low i before (leb-true _ _ (and_left _ _ e)) (leb-true _ _ (and_left _ _ rest)) (leb-true _ _ (and_left _ _ last))
      (leb-true _ _ (and_right _ _ last))

  their-codes : (i : ℕ) → i < bytes_of h → is_packed h bytes ≡ true → are_codes (get_or bytes i 0) ≡ true
  unfolding are_codes
  their-codes i l all =
      let (a, b, c, d) = packed-kinds h bytes low all i l in
      and_both _ _ (le-leb _ _ a) (and_both _ _ (le-leb _ _ b) (and_both _ _ (le-leb _ _ c) (le-leb _ _ d)))

  pub codes-no : (i : ℕ) → i < bytes_of h → are_codes (get_or bytes i 0) ≡ false → is_packed h bytes ≡ false
  codes-no i l e = untrue _ _ (their-codes i l) e

  pub codes-all : (last : ℕ) → last + 1 ≡ bytes_of h → ((t : ℕ) → t < 4 * bytes_of h → code_at bytes t ≤ 2)
      → is_clear h (get_or bytes last 0) ≡ is_packed h bytes
  unfolding is_clear
  codes-all last e small = go (eqb (h % 4) 0) (ltb (get_or bytes last 0) (2 ^ (2 * (h % 4)))) refl refl
    where
      is-so : (x : Bool) → is_packed h bytes ≡ x → is_packed h bytes ≡ x
      is-so x q = q

      go : (whole under : Bool) → eqb (h % 4) 0 ≡ whole → ltb (get_or bytes last 0) (2 ^ (2 * (h % 4))) ≡ under
          → (if whole then true else under) ≡ is_packed h bytes
      go true under p q = sym (packed-by h bytes low (h % 4) last refl e small (λ some. absurd (omega (arith, eqb-true _ _ p, some))))
      go false true p q = sym (packed-by h bytes low (h % 4) last refl e small (λ some. ltb-true _ _ q))
      go false false p q =
          sym (
          untrue (is_packed h bytes) (ltb (get_or bytes last 0) (2 ^ (2 * (h % 4))))
          (λ all. lt-ltb _ _ (packed-clear h bytes low all last e (let some : (h % 4 ≡ 0 → ⊥) = eqb-false _ _ p in omega (arith, some))))
          q
          )
