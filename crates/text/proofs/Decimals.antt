-- Laws of numbers as they are printed: digit by digit, read back as the same number, and how long they are. Assumes nothing.
use Rattle.std.specs.Prelude.{if◌then◌else◌}
use mathlib.Core.Path.{◌≡◌, refl, sym, ap, ◌∙◌}
use mathlib.Core.Bool.{Bool, true, false, not}
use Rattle.std.specs.Prelude.{Some}
use mathlib.Core.List.{List, [], ◌∷◌, ◌++◌}
use Prim.Native.Nat.{ℕ, zero, suc, ◌+◌, ◌-◌, ◌*◌, ◌/◌, ◌%◌, ◌^◌, max, ◌≤◌, ◌<◌}
use native.Mathlib.Nat.{pow-succ'}
use native.Mathlib.Omega.{arith}
use lib.Dec.{ltb, eqb}
use lib.ListN.{length, get_or, length-append, get_or-append}
use borrow.Author.Tests.{lt-ltb, le-ltb, ltb-true, ltb-false, eq-eqb, ne_eqb}
use Rattle.units.specs.Limits.{within}
use Rattle.units.proofs.Choices.{if-true, if-false, if-all, and_both, and_left, and_right}
use Rattle.units.proofs.Ranges.{is_within}
use Rattle.text.specs.Numbers.{is_digits, decimal, is_plain, most_number, number_of, digit, digits_by, decimal_text}
use Rattle.text.proofs.Numbers.{number_is}

-- ---- digit by digit

-- more divisions than are needed change nothing
digits-agree : (j k n : ℕ) → n ≤ j → n ≤ k → digits_by j n ≡ digits_by k n
unfolding digits_by
digits-agree zero zero n p q = refl
digits-agree zero (suc k) n p q = let z : n ≡ 0 = omega arith in rw z
digits-agree (suc j) zero n p q = let z : n ≡ 0 = omega arith in rw z
digits-agree (suc j) (suc k) n p q = rw (digits-agree j k (n / 10) (omega arith) (omega arith))

pub decimal-one : (n : ℕ) → n < 10 → decimal_text n ≡ digit n ∷ []
unfolding decimal_text digits_by
decimal-one zero l = refl
decimal-one (suc n) l = if-true _ _ _ (lt-ltb (suc n) 10 l)

pub decimal-more : (n : ℕ) → 10 ≤ n → decimal_text n ≡ decimal_text (n / 10) ++ (digit (n % 10) ∷ [])
unfolding decimal_text digits_by
decimal-more zero l = absurd (omega arith)
decimal-more (suc n) l =
    if-false _ _ _ (le-ltb (suc n) 10 l)
    ∙ ap (λ ds. ds ++ (digit (suc n % 10) ∷ [])) (digits-agree n (suc n / 10) (suc n / 10) (omega arith) (omega arith))

-- a digit more than its tenth
pub decimal-longer : (n : ℕ) → 10 ≤ n → length (decimal_text n) ≡ length (decimal_text (n / 10)) + 1
decimal-longer n l = rw (decimal-more n l) (length-append (decimal_text (n / 10)) (digit (n % 10) ∷ []))

-- what holds of one digit, and of a number if it holds of its tenth, holds of every number
module _ (C : ℕ → List ℕ → Type 0) (one : (n : ℕ) → n < 10 → C n (digit n ∷ []))
    (more : (n : ℕ) (ds : List ℕ) → 10 ≤ n → C (n / 10) ds → C n (ds ++ (digit (n % 10) ∷ [])))
  where
    tenth : (n : ℕ) → (10 ≤ n → C (n / 10) (decimal_text (n / 10))) → (t : Bool) → ltb n 10 ≡ t → C n (decimal_text n)
    tenth n rest true e = rw (decimal-one n (ltb-true n 10 e)) (one n (ltb-true n 10 e))
    tenth n rest false e = let h : 10 ≤ n = ltb-false n 10 e in rw (decimal-more n h) (more n _ h (rest h))

    up_to : (k n : ℕ) → n ≤ k → C n (decimal_text n)
    up_to zero n l = tenth n (λ h. absurd (omega arith)) (ltb n 10) refl
    up_to (suc k) n l = tenth n (λ h. up_to k (n / 10) (omega arith)) (ltb n 10) refl

    pub decimal-all : (n : ℕ) → C n (decimal_text n)
    decimal-all n = up_to n n (omega arith)

-- ---- read back

decimal-last : (m : ℕ) (ds : List ℕ) (d : ℕ) → decimal m (ds ++ (d ∷ [])) ≡ decimal m ds * 10 + (d - 48)
unfolding decimal
decimal-last m [] d = refl
decimal-last m (b ∷ ds) d = decimal-last (m * 10 + (b - 48)) ds d

pub decimal-read : (n : ℕ) → decimal 0 (decimal_text n) ≡ n
unfolding decimal
decimal-read =
    decimal-all (λ n ds. decimal 0 ds ≡ n) (λ n l. omega arith)
    (λ n ds l e. decimal-last 0 ds (digit (n % 10)) ∙ rw e (omega arith))

digits_last : (ds : List ℕ) (d : ℕ) → is_digits ds ≡ true → within 48 57 d ≡ true → is_digits (ds ++ (d ∷ [])) ≡ true
unfolding is_digits
digits_last [] d e h = and_both _ _ h refl
digits_last (b ∷ ds) d e h = and_both _ _ (and_left _ _ e) (digits_last ds d (and_right _ _ e) h)

-- digits, at least one, of which the first is 0 only in 0 itself
record Plain (n : ℕ) (ds : List ℕ) : Type 0 where
  some_digit : 1 ≤ length ds
  digits : is_digits ds ≡ true
  leads : 1 ≤ n → 49 ≤ get_or ds 0 0

plain-text : (n : ℕ) → Plain n (decimal_text n)
unfolding is_digits
plain-text =
    decimal-all Plain
    (λ n l. record {
      some_digit = omega arith;
      digits = and_both _ _ (is_within 48 57 (digit n) (omega arith) (omega arith)) refl;
      leads = λ h. omega arith;
    })
    (λ n ds l p. record {
      some_digit = omega (arith, p.some_digit, length-append ds (digit (n % 10) ∷ []));
      digits = digits_last ds (digit (n % 10)) p.digits (is_within 48 57 (digit (n % 10)) (omega arith) (omega arith));
      leads = λ h. rw (get_or-append ds (digit (n % 10) ∷ []) 0 0 p.some_digit) (p.leads (omega arith));
    })

-- a number of plan text is read back as that number
pub number_read : (n : ℕ) → n ≤ most_number → number_of (decimal_text n) ≡ Some n
unfolding is_plain
number_read n l =
    let p = plain-text n in
    number_is _ p.some_digit p.digits plain (omega (arith, decimal-read n)) ∙ ap Some (decimal-read n)
  where
    plain : is_plain (decimal_text n) ≡ true
    plain = unfold is_plain in by (ltb n 10) refl
      where
        by : (t : Bool) → ltb n 10 ≡ t → (if eqb (length (decimal_text n)) 1 then true else not (eqb (get_or (decimal_text n) 0 0) 48)) ≡ true
        by true e = if-true _ _ _ (eq-eqb (length (decimal_text n)) 1 (rw (decimal-one n (ltb-true n 10 e))))
        by false e =
            if-all (λ b. b ≡ true) (eqb (length (decimal_text n)) 1) true (not (eqb (get_or (decimal_text n) 0 0) 48)) (λ q. refl)
            (λ q. ap not (ne_eqb (get_or (decimal_text n) 0 0) 48 (λ z. omega (arith, (plain-text n).leads (omega (arith, ltb-false n 10 e))))))

-- ---- how long

-- one more than the greatest number of k digits
abbrev pub reach : ℕ → ℕ
reach zero = 1
reach (suc k) = 10 * reach k

-- a number of at most k digits, of which there is at least one
pub decimal-width : (k n : ℕ) → n < reach (suc k) → length (decimal_text n) ≤ suc k
decimal-width k n l = decimal-all (λ n ds. (k : ℕ) → n < reach (suc k) → length ds ≤ suc k) (λ n l k h. omega arith) more n k l
  where
    more : (n : ℕ) (ds : List ℕ) → 10 ≤ n → ((k : ℕ) → n / 10 < reach (suc k) → length ds ≤ suc k) → (k : ℕ) → n < reach (suc k)
        → length (ds ++ (digit (n % 10) ∷ [])) ≤ suc k
    more n ds h f zero l = absurd (omega arith)
    more n ds h f (suc k) l = omega (arith, length-append ds (digit (n % 10) ∷ []), f k (omega arith))

-- a digit more than the power of ten below it
reach_is : (k : ℕ) → (reach k ≡ 10 ^ k) × (1 ≤ reach k)
reach_is zero = (refl, omega arith)
reach_is (suc k) = (omega (arith, pow-succ' 10 k, (reach_is k).0), omega (arith, (reach_is k).1))

digits-in : (k n : ℕ) → reach k ≤ max n 1 → n < reach (suc k) → length (decimal_text n) ≡ k + 1
digits-in zero n p l = ap length (decimal-one n l)
digits-in (suc k) n p l =
    let h : 10 ≤ n = omega (arith, (reach_is k).1) in
    omega (arith, decimal-longer n h, digits-in k (n / 10) (omega arith) (omega arith))

pub decimal_digits : (n k : ℕ) → 10 ^ k ≤ max n 1 → max n 1 < 10 * 10 ^ k → k + 1 ≡ length (decimal_text n)
decimal_digits n k p l = sym (digits-in k n (omega (arith, (reach_is k).0)) (omega (arith, (reach_is k).0)))

pub decimal_width : (n k : ℕ) → 1 ≤ n → 10 ^ k ≤ n → n < 10 * 10 ^ k → k + 1 ≡ length (decimal_text n)
decimal_width n k some p l = let m : max n 1 ≡ n = omega arith in decimal_digits n k (rw m p) (rw m l)

-- of one digit, of two and of three
pub one_digit : (n : ℕ) → n < 10 → 1 ≡ length (decimal_text n)
one_digit n l = rw (decimal-one n l) refl

pub two_digits : (n : ℕ) → 10 ≤ n → n < 100 → 2 ≡ length (decimal_text n)
two_digits n h l = rw (decimal-longer n h, ← one_digit (n / 10) (omega arith)) refl

pub three_digits : (n : ℕ) → 100 ≤ n → n < 1000 → 3 ≡ length (decimal_text n)
three_digits n h l = rw (decimal-longer n (omega arith), ← two_digits (n / 10) (omega arith) (omega arith)) refl
