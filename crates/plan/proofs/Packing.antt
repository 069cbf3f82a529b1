-- Packed and read again: the letters of a calendar are those that were packed, and the bytes that hold them are no others. Assumes nothing.
use Rattle.std.specs.Prelude.{if◌then◌else◌, not}
use mathlib.Core.Path.{◌≡◌, refl, sym, ap, ap₂, ◌∙◌}
use mathlib.Core.Bool.{Bool, true, false, false≢true}
use mathlib.Core.List.{List}
use Prim.Native.Nat.{ℕ, zero, suc, ◌+◌, ◌*◌, ◌/◌, ◌%◌, ◌^◌, ◌≤◌, ◌<◌}
use native.Mathlib.Omega.{arith}
use native.Mathlib.Nat.{div-eq_of_lt}
use lib.Pow.{pow_mono}
use lib.Dec.{eqb, ltb, leb}
use lib.ListN.{length, get_or}
use borrow.Author.Tests.{eqb-true, ltb-true, ltb-false, leb-true, le-leb, eq-eqb, lt-ltb, le-ltb}
use Rattle.std.proofs.lemmas.List.{ext_get_or, get_or_past}
use Rattle.units.specs.Choice.{some_of}
use Rattle.units.proofs.Lists.{list_at, list_length}
use Rattle.units.proofs.Choices.{if-true, if-false, some-hit}
use Rattle.plan.specs.HourKinds.{is_symbol, is_kind, regular, closed, overtime}
use Rattle.plan.specs.Packed.{bytes_of, code_at, code_of, byte_at, letter_of, letters_of, packed, is_code, is_packed}
use Rattle.plan.proofs.Bytes.{hours-within}

pub letters-length : (h : ℕ) (bytes : List ℕ) → length (letters_of h bytes) ≡ h
unfolding letters_of
letters-length h bytes = list_length (λ t. letter_of (code_at bytes t)) h

-- ---- codes

pub code-small : (n : ℕ) → code_of n ≤ 2
unfolding code_of
code-small n = go (eqb n regular) (eqb n overtime)
  where
    go : (a b : Bool) → (if a then 1 else (if b then 2 else 0)) ≤ 2
    go true b = omega arith
    go false true = omega arith
    go false false = omega arith

-- the letter of a code's letter
pub code-letter : (n : ℕ) → n ≤ 2 → code_of (letter_of n) ≡ n
unfolding code_of letter_of
code-letter zero l = refl
code-letter (suc zero) l = refl
code-letter (suc (suc zero)) l = refl
code-letter (suc (suc (suc n))) l = absurd (omega arith)

module _ (x : ℕ) where
  by-kind : (r c o : Bool) → eqb x regular ≡ r → eqb x closed ≡ c → eqb x overtime ≡ o
      → (if r then true else (if c then true else o)) ≡ true → letter_of (code_of x) ≡ x
  unfolding letter_of code_of
  by-kind true c o p q s e = let k = eqb-true x regular p in rw k
  by-kind false true o p q s e = let k = eqb-true x closed q in rw k
  by-kind false false true p q s e = let k = eqb-true x overtime s in rw k
  by-kind false false false p q s e = absurd (false≢true e)

pub letter-code : (cal : List ℕ) (t : ℕ) → is_symbol cal t ≡ true → letter_of (code_of (get_or cal t 0)) ≡ get_or cal t 0
unfolding is_symbol is_kind
letter-code cal t e =
    let x = get_or cal t 0 in by-kind x (eqb x regular) (eqb x closed) (eqb x overtime) refl refl refl e

-- ---- a byte of four codes

module _ (a b c d : ℕ) (la : a ≤ 2) (lb : b ≤ 2) (lc : c ≤ 2) (ld : d ≤ 2) where
  first-code : (a + 4 * b + 16 * c + 64 * d) / 1 % 4 ≡ a
  first-code = omega arith

  second-code : (a + 4 * b + 16 * c + 64 * d) / 4 % 4 ≡ b
  second-code = omega arith

  third-code : (a + 4 * b + 16 * c + 64 * d) / 16 % 4 ≡ c
  third-code = omega arith

  fourth-code : (a + 4 * b + 16 * c + 64 * d) / 64 % 4 ≡ d
  fourth-code = omega arith

-- the code of hour 4 i + r in the byte of hours 4 i to 4 i + 3
byte-code : (cal : List ℕ) (i r : ℕ) → r < 4 → byte_at cal i / 2 ^ (2 * r) % 4 ≡ code_of (get_or cal (4 * i + r) 0)
unfolding byte_at
byte-code cal i zero l =
    first-code _ _ _ _ (code-small _) (code-small _) (code-small _) (code-small _)
    ∙ ap (λ (n : ℕ). code_of (get_or cal n 0)) (let e : 4 * i ≡ 4 * i + 0 = omega arith in e)
byte-code cal i (suc zero) l = second-code _ _ _ _ (code-small _) (code-small _) (code-small _) (code-small _)
byte-code cal i (suc (suc zero)) l = third-code _ _ _ _ (code-small _) (code-small _) (code-small _) (code-small _)
byte-code cal i (suc (suc (suc zero))) l = fourth-code _ _ _ _ (code-small _) (code-small _) (code-small _) (code-small _)
byte-code cal i (suc (suc (suc (suc n)))) l = absurd (omega arith)

-- a byte is its four codes
byte-of-codes : (b : ℕ) → b < 256 → b / 1 % 4 + 4 * (b / 4 % 4) + 16 * (b / 16 % 4) + 64 * (b / 64 % 4) ≡ b
byte-of-codes b l = omega arith

-- past the last letter
no-code : code_of 0 ≡ 0
unfolding code_of
no-code = refl

-- a test that holds nowhere
none-met : (test : ℕ → Bool) (n : ℕ) → ((i : ℕ) → i < n → test i ≡ false) → some_of test n ≡ false
unfolding some_of
none-met test zero h = refl
none-met test (suc n) h = if-false _ _ _ (none-met test n (λ i l. h i (omega arith))) ∙ h n (omega arith)

-- ---- a calendar that is packed

module _ (cal : List ℕ) where
  pub packed-length : length (packed cal) ≡ bytes_of (length cal)
  unfolding packed
  packed-length = list_length (byte_at cal) (bytes_of (length cal))

  pub packed-byte : (i : ℕ) → i < bytes_of (length cal) → get_or (packed cal) i 0 ≡ byte_at cal i
  unfolding packed
  packed-byte i l = list_at (byte_at cal) (bytes_of (length cal)) i 0 l

  -- the code of an hour, or 0 past the last
  pub packed-code : (t : ℕ) → t < 4 * bytes_of (length cal) → code_at (packed cal) t ≡ code_of (get_or cal t 0)
  unfolding code_at packed
  packed-code t l =
      ap (λ (b : ℕ). b / 2 ^ (2 * (t % 4)) % 4) (list_at (byte_at cal) (bytes_of (length cal)) (t / 4) 0 (omega arith))
      ∙ byte-code cal (t / 4) (t % 4) (omega arith)
      ∙ ap (λ (n : ℕ). code_of (get_or cal n 0)) (let e : 4 * (t / 4) + t % 4 ≡ t = omega arith in e)

  pub is-packed : is_packed (length cal) (packed cal) ≡ true
  unfolding is_packed is_code
  is-packed = ap not (none-met _ _ (λ t l. ap not (by-code t l (ltb t (length cal)) refl)))
    where
      by-code : (t : ℕ) → t < 4 * bytes_of (length cal) → (b : Bool) → ltb t (length cal) ≡ b
          → (if b then leb (code_at (packed cal) t) 2 else eqb (code_at (packed cal) t) 0) ≡ true
      by-code t l true q = le-leb _ _ (let e = packed-code t l in let s = code-small (get_or cal t 0) in omega arith)
      by-code t l false q =
          let past = get_or_past cal t 0 (ltb-false _ _ q) in
          eq-eqb _ _ (packed-code t l ∙ ap code_of past ∙ no-code)

  -- read again, its letters are those that were packed
  pub letters-packed : ((t : ℕ) → t < length cal → is_symbol cal t ≡ true) → letters_of (length cal) (packed cal) ≡ cal
  unfolding letters_of
  letters-packed symbols =
      ext_get_or 0 _ cal (list_length _ (length cal))
      (λ t l.
      let m : t < length cal = omega (arith, l, list_length (λ k. letter_of (code_at (packed cal) k)) (length cal)) in
      list_at _ (length cal) t 0 m
      ∙ ap letter_of (packed-code t (omega (arith, hours-within (length cal))))
      ∙ letter-code cal t (symbols t m))

-- the code of hour 4 i + r, in byte i
code-part : (bytes : List ℕ) (i r : ℕ) → r < 4 → code_at bytes (4 * i + r) ≡ get_or bytes i 0 / 2 ^ (2 * r) % 4
unfolding code_at
code-part bytes i r l =
    let q : (4 * i + r) / 4 ≡ i = omega arith in
    let m : (4 * i + r) % 4 ≡ r = omega arith in
    ap₂ (λ (j : ℕ) (k : ℕ). get_or bytes j 0 / 2 ^ (2 * k) % 4) q m

-- ---- bytes that are packed

module _ (h : ℕ) (bytes : List ℕ) (all : is_packed h bytes ≡ true) where
  code-told : (t : ℕ) → t < 4 * bytes_of h → is_code h bytes t ≡ true
  unfolding is_packed
  code-told t l = by-test (is_code h bytes t) refl
    where
      by-test : (b : Bool) → is_code h bytes t ≡ b → is_code h bytes t ≡ true
      by-test true e = e
      by-test false e =
          let met : some_of (λ k. not (is_code h bytes k)) (4 * bytes_of h) ≡ true = some-hit _ _ t l (ap not e) in
          absurd (false≢true (sym (ap not met) ∙ all))

  -- each code is a kind's, and past the hours 0
  pub codes-small : (t : ℕ) → t < 4 * bytes_of h → code_at bytes t ≤ 2
  unfolding is_code
  codes-small t l = by-hour (ltb t h) (code-told t l)
    where
      by-hour : (b : Bool) → (if b then leb (code_at bytes t) 2 else eqb (code_at bytes t) 0) ≡ true → code_at bytes t ≤ 2
      by-hour true e = leb-true _ _ e
      by-hour false e = omega (arith, eqb-true _ _ e)

  codes-past : (t : ℕ) → h ≤ t → t < 4 * bytes_of h → code_at bytes t ≡ 0
  unfolding is_code
  codes-past t past l = eqb-true _ _ (sym (if-false (ltb t h) (leb (code_at bytes t) 2) (eqb (code_at bytes t) 0) (le-ltb _ _ past)) ∙ code-told t l)

  -- each hour's letter is one of the three
  pub letters-are : (t : ℕ) → t < h → code_at bytes t ≤ 2
  unfolding is_code
  letters-are t l =
      leb-true _ _ (sym (if-true (ltb t h) (leb (code_at bytes t) 2) (eqb (code_at bytes t) 0) (lt-ltb _ _ l))
      ∙ code-told t (omega (arith, hours-within h)))

  pub letters-symbols : (t : ℕ) → t < h → is_symbol (letters_of h bytes) t ≡ true
  unfolding is_symbol is_kind letters_of letter_of
  letters-symbols t l =
      let at = list_at (λ k. letter_of (code_at bytes k)) h t 0 l in
      by-letter (get_or (letters_of h bytes) t 0) (code_at bytes t) (letters-are t l) at
    where
      by-letter : (x n : ℕ) → n ≤ 2 → x ≡ letter_of n
          → (if eqb x regular then true else (if eqb x closed then true else eqb x overtime)) ≡ true
      by-letter x zero l e = rw e
      by-letter x (suc zero) l e = rw e
      by-letter x (suc (suc zero)) l e = rw e
      by-letter x (suc (suc (suc n))) l e = absurd (omega arith)

  -- an hour's code from its letter, or 0 past the last
  code-back : (t : ℕ) → t < 4 * bytes_of h → code_of (get_or (letters_of h bytes) t 0) ≡ code_at bytes t
  unfolding letters_of is_code
  code-back t l = by-test (ltb t h) refl
    where
      by-test : (b : Bool) → ltb t h ≡ b → code_of (get_or (letters_of h bytes) t 0) ≡ code_at bytes t
      by-test true q =
          let m = ltb-true _ _ q in
          ap code_of (list_at (λ k. letter_of (code_at bytes k)) h t 0 m) ∙ code-letter _ (letters-are t m)
      by-test false q =
          let past = get_or_past (letters_of h bytes) t 0 (omega (arith, ltb-false _ _ q, list_length (λ k. letter_of (code_at bytes k)) h)) in
          let zero-code = sym (if-false (ltb t h) (leb (code_at bytes t) 2) (eqb (code_at bytes t) 0) q) ∙ code-told t l in
          ap code_of past ∙ no-code ∙ sym (eqb-true _ _ zero-code)

  code-again : (i r : ℕ) → r < 4 → i < bytes_of h → code_of (get_or (letters_of h bytes) (4 * i + r) 0) ≡ get_or bytes i 0 / 2 ^ (2 * r) % 4
  code-again i r l m = code-back (4 * i + r) (omega arith) ∙ code-part bytes i r l

  module _ (whole : length bytes ≡ bytes_of h) (small : (i : ℕ) → get_or bytes i 0 < 256) where
    byte-again : (i : ℕ) → i < bytes_of h → byte_at (letters_of h bytes) i ≡ get_or bytes i 0
    unfolding byte_at
    byte-again i l =
        let first = ap (λ (n : ℕ). code_of (get_or (letters_of h bytes) n 0)) (let e : 4 * i ≡ 4 * i + 0 = omega arith in e) ∙ code-again i 0 (omega arith) l in
        let second = code-again i 1 (omega arith) l in
        let third = code-again i 2 (omega arith) l in
        let fourth = code-again i 3 (omega arith) l in
        ap₂ (λ (m : ℕ) (n : ℕ). m + 64 * n) (ap₂ (λ (m : ℕ) (n : ℕ). m + 16 * n) (ap₂ (λ (m : ℕ) (n : ℕ). m + 4 * n) first second) third) fourth
        ∙ byte-of-codes (get_or bytes i 0) (small i)

    -- packed again they are these bytes
    pub packed-letters : packed (letters_of h bytes) ≡ bytes
    packed-letters =
        let long : length (letters_of h bytes) ≡ h = letters-length h bytes in
        let all-bytes : length (packed (letters_of h bytes)) ≡ bytes_of h = packed-length (letters_of h bytes) ∙ ap bytes_of long in
        ext_get_or 0 _ bytes (all-bytes ∙ sym whole)
        (λ i l.
        let m : i < bytes_of h = omega (arith, l, all-bytes) in
        byte-in i (rw long m) ∙ byte-again i m)
      where
        byte-in : (i : ℕ) → i < bytes_of (length (letters_of h bytes)) → get_or (packed (letters_of h bytes)) i 0 ≡ byte_at (letters_of h bytes) i
        byte-in i l = packed-byte (letters_of h bytes) i l

-- ---- tested by bytes

-- a byte's four codes are kinds'
module _ (b : ℕ) (low : b < 256) where
  byte-codes : b % 4 ≤ 2 → b / 4 % 4 ≤ 2 → b / 16 % 4 ≤ 2 → b / 64 ≤ 2 → (r : ℕ) → r < 4 → b / 2 ^ (2 * r) % 4 ≤ 2
  byte-codes p q r s zero l = omega (arith, p)
  byte-codes p q r s (suc zero) l = q
  byte-codes p q r s (suc (suc zero)) l = r
  byte-codes p q r s (suc (suc (suc zero))) l = omega (arith, s)
  byte-codes p q r s (suc (suc (suc (suc n)))) l = absurd (omega arith)

  -- where its codes from the r-th on are 0 it is small, and the other way round
  codes-clear : (r : ℕ) → 1 ≤ r → ((q : ℕ) → r ≤ q → q < 4 → b / 2 ^ (2 * q) % 4 ≡ 0) → r < 4 → b < 2 ^ (2 * r)
  codes-clear zero some h l = absurd (omega arith)
  codes-clear (suc zero) some h l =
      omega (arith, low, h 1 (omega arith) (omega arith), h 2 (omega arith) (omega arith), h 3 (omega arith) (omega arith))
  codes-clear (suc (suc zero)) some h l = omega (arith, low, h 2 (omega arith) (omega arith), h 3 (omega arith) (omega arith))
  codes-clear (suc (suc (suc zero))) some h l = omega (arith, low, h 3 (omega arith) (omega arith))
  codes-clear (suc (suc (suc (suc n)))) some h l = absurd (omega arith)

  clear-codes : (r q : ℕ) → b < 2 ^ (2 * r) → r ≤ q → b / 2 ^ (2 * q) % 4 ≡ 0
  clear-codes r q s l =
      let wide : 2 ^ (2 * r) ≤ 2 ^ (2 * q) = pow_mono (omega (arith, l)) in
      let below : b < 2 ^ (2 * q) = omega (arith, s, wide) in
      ap (λ (n : ℕ). n % 4) (div-eq_of_lt below)

module _ (h : ℕ) (bytes : List ℕ) (low : (i : ℕ) → get_or bytes i 0 < 256) where
  -- four hours more
  pub next-codes : (i : ℕ) → ((t : ℕ) → t < 4 * i → code_at bytes t ≤ 2) → get_or bytes i 0 % 4 ≤ 2 → get_or bytes i 0 / 4 % 4 ≤ 2
      → get_or bytes i 0 / 16 % 4 ≤ 2 → get_or bytes i 0 / 64 ≤ 2 → (t : ℕ) → t < 4 * (i + 1) → code_at bytes t ≤ 2
  unfolding code_at
  next-codes i before a b c d t l = go (ltb t (4 * i)) refl
    where
      go : (x : Bool) → ltb t (4 * i) ≡ x → code_at bytes t ≤ 2
      go true q = before t (ltb-true _ _ q)
      go false q =
          let same : t / 4 ≡ i = omega (arith, ltb-false _ _ q) in
          rw same (byte-codes (get_or bytes i 0) (low i) a b c d (t % 4) (omega arith))

  -- the bytes are packed where each code is a kind's and the last byte has no bit past the hours
  pub packed-by : (r last : ℕ) → r ≡ h % 4 → last + 1 ≡ bytes_of h → ((t : ℕ) → t < 4 * bytes_of h → code_at bytes t ≤ 2)
      → ((1 ≤ r) → get_or bytes last 0 < 2 ^ (2 * r)) → is_packed h bytes ≡ true
  unfolding is_packed is_code bytes_of
  packed-by r last e f small clear = ap not (none-met _ _ (λ t l. ap not (by-hour t l (ltb t h) refl)))
    where
      by-hour : (t : ℕ) → t < 4 * bytes_of h → (x : Bool) → ltb t h ≡ x
          → (if x then leb (code_at bytes t) 2 else eqb (code_at bytes t) 0) ≡ true
      by-hour t l true q = le-leb _ _ (small t l)
      by-hour t l false q =
          let past : h ≤ t = ltb-false _ _ q in
          let in_last : 4 * last + t % 4 ≡ t = omega arith in
          eq-eqb _ _ (
          ap (code_at bytes) (sym in_last)
          ∙ code-part bytes last (t % 4) (omega arith)
          ∙ clear-codes (get_or bytes last 0) (low last) r (t % 4) (clear (omega arith)) (omega arith)
          )

  -- and so are its tests where they are packed
  module _ (all : is_packed h bytes ≡ true) where
    pub packed-kinds : (i : ℕ) → i < bytes_of h
        → (get_or bytes i 0 % 4 ≤ 2) × (get_or bytes i 0 / 4 % 4 ≤ 2) × (get_or bytes i 0 / 16 % 4 ≤ 2) × (get_or bytes i 0 / 64 ≤ 2)
    packed-kinds i l =
        let first = codes-small h bytes all (4 * i + 0) (omega arith) in
        let second = codes-small h bytes all (4 * i + 1) (omega arith) in
        let third = codes-small h bytes all (4 * i + 2) (omega arith) in
        let fourth = codes-small h bytes all (4 * i + 3) (omega arith) in (
          omega (arith, first, code-part bytes i 0 (omega arith)),
          omega (arith, second, code-part bytes i 1 (omega arith)),
          omega (arith, third, code-part bytes i 2 (omega arith)),
          omega (arith, fourth, code-part bytes i 3 (omega arith), low i),
        )

    pub packed-clear : (last : ℕ) → last + 1 ≡ bytes_of h → 1 ≤ h % 4 → get_or bytes last 0 < 2 ^ (2 * (h % 4))
    unfolding bytes_of
    packed-clear last f some =
        codes-clear (get_or bytes last 0) (low last) (h % 4) some
        (λ q l m. sym (code-part bytes last q m) ∙ codes-past h bytes all (4 * last + q) (omega arith) (omega arith))
        (omega arith)
