-- How long a line is, by the record that it is: what an accepted text's lines may have at most. Assumes nothing.
use Rattle.std.specs.Prelude.{if◌then◌else◌}
use mathlib.Core.Path.{◌≡◌, refl, ap, ◌∙◌, subst}
use mathlib.Core.Bool.{Bool, true, false, false≢true}
use mathlib.Core.List.{List, [], ◌∷◌}
use Rattle.std.specs.Prelude.{Some}
use Prim.Native.Nat.{ℕ, zero, suc, ◌+◌, ◌-◌, ◌*◌, ◌≤◌}
use native.Mathlib.Nat.{mul-le-mul, mul_assoc}
use native.Mathlib.Omega.{arith}
use lib.Dec.{eqb, leb}
use lib.ListN.{length, length-drop}
use mathlib.Core.Logic.{◌≢◌}
use borrow.Author.Tests.{leb-true, leb-false, eqb-true, eqb-false, not-true}
use Rattle.units.proofs.Ranges.{from-least}
use Rattle.units.proofs.Choices.{and_left, and_right, if_some, if-case, None≢Some, option-case}
use Rattle.text.specs.Words.{word_plan, word_cal, word_task, word_after}
use Rattle.text.specs.Fields.{tab, into_first, parts, same}
use Rattle.text.specs.Numbers.{is_digits, decimal, is_plain, is_number, most_number, number_of, numbers_of}
use Rattle.text.proofs.Decimals.{reach}
use Rattle.plan_format.specs.Records.{Record, plan_record, cal_record, task_record, after_record}
use Rattle.plan_format.specs.Records.{numbers_if, plan_of, cal_of, task_of, after_of, by_word, record_of}

-- ---- a number has at most five digits

-- each digit more is ten times as much
grow : (bs : List ℕ) (n : ℕ) → n * reach (length bs) ≤ decimal n bs
unfolding decimal
grow [] n = omega arith
grow (b ∷ bs) n =
    let more = grow bs (n * 10 + (b - 48)) in
    let least : n * 10 * reach (length bs) ≤ (n * 10 + (b - 48)) * reach (length bs) =
    mul-le-mul (let h : n * 10 ≤ n * 10 + (b - 48) = omega arith in h) (let h : reach (length bs) ≤ reach (length bs) = omega arith in h) in
    omega (arith, more, least, mul_assoc n 10 (reach (length bs)))

big : (k : ℕ) → 5 ≤ k → 100000 ≤ reach k
big zero l = absurd (omega arith)
big (suc k) l = go (λ m. big k m) (leb 5 k) refl
  where
    go : (5 ≤ k → 100000 ≤ reach k) → (b : Bool) → leb 5 k ≡ b → 100000 ≤ reach (suc k)
    go before true e = let h = before (leb-true 5 k e) in omega arith
    go before false e = let four : k ≡ 4 = omega (arith, leb-false 5 k e) in rw four (omega arith)

few : (bs : List ℕ) → is_digits bs ≡ true → is_plain bs ≡ true → decimal 0 bs ≤ most_number → length bs ≤ 5
unfolding is_digits is_plain decimal
few [] d p m = omega arith
few (b ∷ bs) d p m =
    if-case _ _ _ _ p
    (λ one t. omega (arith, eqb-true (suc (length bs)) 1 one))
    (λ more t.
    let first : b ≢ 48 = eqb-false b 48 (not-true _ t) in
    let digit : 48 ≤ b = from-least 48 57 b (and_left _ _ d) in
    let least = grow bs (0 * 10 + (b - 48)) in
    let ones : 1 * reach (length bs) ≤ (0 * 10 + (b - 48)) * reach (length bs) =
    mul-le-mul (let h : 1 ≤ 0 * 10 + (b - 48) = omega arith in h) (let h : reach (length bs) ≤ reach (length bs) = omega arith in h) in
    go (reach (length bs)) (omega (arith, ones, least, m)) (leb 5 (length bs)) refl)
  where
    go : (r : ℕ) → reach (length bs) ≤ most_number → (t : Bool) → leb 5 (length bs) ≡ t → suc (length bs) ≤ 5
    go r small true e = absurd (omega (arith, big (length bs) (leb-true 5 (length bs) e), small))
    go r small false e = omega (arith, leb-false 5 (length bs) e)

pub five-digits : (bs : List ℕ) (n : ℕ) → number_of bs ≡ Some n → length bs ≤ 5
unfolding number_of is_number
five-digits bs n e =
    let is = (if_some _ _ _ e).0 in
    let rest = and_right _ _ is in
    let last = and_right _ _ rest in
    few bs (and_left _ _ rest) (and_left _ _ last) (leb-true _ _ (and_right _ _ last))

-- ---- a line is its parts, and one byte between two

unfoldable pub total : List (List ℕ) → ℕ
total [] = 0
total (l ∷ ls) = length l + 1 + total ls

pub parts-total : (l : List ℕ) → length l + 1 ≡ total (parts tab l)
unfolding parts total into_first
parts-total [] = omega arith
parts-total (b ∷ bs) = go (parts-total bs) (parts tab bs) refl (eqb b tab)
  where
    go : length bs + 1 ≡ total (parts tab bs) → (ps : List (List ℕ)) → parts tab bs ≡ ps → (t : Bool)
        → suc (length bs) + 1 ≡ total (if t then [] ∷ parts tab bs else into_first b (parts tab bs))
    go h ps e true = omega (arith, h)
    go h [] e false = absurd (omega (arith, h ∙ ap total e))
    go h (p ∷ ps) e false = rw e (omega (arith, h ∙ ap total e))

some-same : {A : Type 0} {x y : A} → Some x ≡ Some y → x ≡ y
some-same e = cc

-- ---- fields that are numbers

pub numbers-width : (fs : List (List ℕ)) (ns : List ℕ) → numbers_of fs ≡ Some ns → total fs ≤ 6 * length ns
unfolding numbers_of total
numbers-width [] ns e = omega arith
numbers-width (f ∷ fs) ns e =
    option-case (number_of f) _ _ _ e (λ none k. None≢Some k)
    (λ n is k.
    option-case (numbers_of fs) _ _ _ k (λ none z. None≢Some z)
    (λ ms more z.
    let rest = numbers-width fs ms more in
    let here = five-digits f n is in
    let all : suc (length ms) ≡ length ns = ap length (some-same z) in
    omega arith))

-- a `plan`, a `task` and an `after` line by how many numbers they have, a `cal` line by its symbols
unfoldable pub width : Record → ℕ
width (plan_record h cs) = 5 + 6 * (1 + length cs)
width (cal_record symbols) = 5 + length symbols
width (task_record ns) = 5 + 6 * length ns
width (after_record earlier later) = 18

same-length : (a b : List ℕ) → same a b ≡ true → length a ≡ length b
unfolding same
same-length [] [] e = refl
same-length [] (y ∷ ys) e = absurd (false≢true e)
same-length (x ∷ xs) [] e = absurd (false≢true e)
same-length (x ∷ xs) (y ∷ ys) e = ap suc (same-length xs ys (and_right _ _ e))

-- what enough numbers are
if-numbers : (least : ℕ) (fs : List (List ℕ)) (ns : List ℕ) → numbers_if least fs ≡ Some ns → (numbers_of fs ≡ Some ns) × (least ≤ length ns)
unfolding numbers_if
if-numbers least fs ns e =
    option-case (numbers_of fs) _ _ _ e (λ none k. None≢Some k)
    (λ ms is k.
    let (enough, q) = if_some _ _ _ k in
    (is ∙ ap (λ l. Some l) q, subst (λ (l : List ℕ). least ≤ length l) q (leb-true least (length ms) enough)))

module _ (word : List ℕ) (fields : List (List ℕ)) (x : Record) where
  plan-width : length word ≡ 4 → plan_of fields ≡ Some x → total (word ∷ fields) ≤ width x + 1
  unfolding plan_of width total
  plan-width w e =
      option-case (numbers_if 1 fields) _ _ _ e (λ none k. None≢Some k)
      (λ ns is k.
      let (all, least) = if-numbers 1 fields ns is in
      let wide = numbers-width fields ns all in
      rw (← some-same k) (omega (arith, w, wide, least, length-drop 1 ns)))

  task-width : length word ≡ 4 → task_of fields ≡ Some x → total (word ∷ fields) ≤ width x + 1
  unfolding task_of width total
  task-width w e =
      option-case (numbers_if 2 fields) _ _ _ e (λ none k. None≢Some k)
      (λ ns is k.
      let wide = numbers-width fields ns (if-numbers 2 fields ns is).0 in
      rw (← some-same k) (omega (arith, w, wide)))

  after-width : length word ≡ 5 → after_of fields ≡ Some x → total (word ∷ fields) ≤ width x + 1
  unfolding after_of width total
  after-width w e =
      option-case (numbers_of fields) _ _ _ e (λ none k. None≢Some k)
      (λ ns is k.
      let (two, q) = if_some _ _ _ k in
      let wide = numbers-width fields ns is in
      rw (← q) (omega (arith, w, wide, eqb-true (length ns) 2 two)))

cal-width : (word : List ℕ) (fields : List (List ℕ)) (x : Record) → length word ≡ 3 → cal_of fields ≡ Some x → total (word ∷ fields) ≤ width x + 1
unfolding cal_of width total
cal-width word [] x w e = None≢Some e
cal-width word (f ∷ []) x w e = let q = (if_some _ _ _ e).1 in rw (← q) (omega (arith, w))
cal-width word (f ∷ (g ∷ fs)) x w e =
    let one : suc (suc (length fs)) ≡ 1 = eqb-true _ _ (and_left _ _ (if_some _ _ _ e).0) in absurd (omega arith)

by-parts : (ps : List (List ℕ)) (x : Record) → by_word ps ≡ Some x → total ps ≤ width x + 1
unfolding by_word
by-parts [] x e = None≢Some e
by-parts (word ∷ fields) x e =
    if-case _ _ _ _ e (λ s k. plan-width word fields x (same-length word word_plan s) k) (λ no k.
    if-case _ _ _ _ k (λ s k. cal-width word fields x (same-length word word_cal s) k) (λ no k.
    if-case _ _ _ _ k (λ s k. task-width word fields x (same-length word word_task s) k) (λ no k.
    if-case _ _ _ _ k (λ s k. after-width word fields x (same-length word word_after s) k) (λ no k. None≢Some k))))

-- a line is no longer than its record needs
pub record-width : (line : List ℕ) (x : Record) → record_of line ≡ Some x → length line ≤ width x
unfolding record_of
record-width line x e = omega (arith, parts-total line, by-parts (parts tab line) x e)
