-- Laws of calendars that are packed, and of the first symbol that is none among those of several. Assumes nothing.
use mathlib.Core.Path.{◌≡◌, refl, sym, ◌∙◌}
use mathlib.Core.Bool.{Bool, true, false}
use mathlib.Core.Logic.{◌≢◌}
use Rattle.std.specs.Prelude.{Option, None, Some}
use mathlib.Core.List.{List, [], ◌∷◌, ◌++◌}
use Prim.Native.Nat.{ℕ, ◌+◌, ◌-◌, ◌*◌, ◌/◌, ◌≤◌, ◌<◌}
use native.Mathlib.Omega.{arith}
use lib.Dec.{eqb}
use lib.ListN.{length, get_or, set, length-append}
use borrow.Author.Tests.{eqb-true, eqb-false}
use Rattle.std.specs.Option.{is_some}
use Rattle.std.proofs.lemmas.List.{ext_get_or, get_or-set_same, get_or-set_other, get_or_append_left, get_or-append-add}
use Rattle.std.proofs.lemmas.Slice.{put_mid-paste}
use borrow.Rule.Slice.PartMut.{put_mid}
use native.Mathlib.Nat.{add-zero, add_assoc}
use Rattle.units.specs.Cells.{written_at}
use Rattle.units.proofs.Cells.{paste-end}
use Rattle.units.specs.Choice.{first_of}
use Rattle.units.proofs.Choices.{first-eq, first_found, true≢false}
use Rattle.units.proofs.Searching.{Unfound, unfound-next, unfound-hit, unfound-end}
use Rattle.plan.specs.HourKinds.{is_kind, is_symbol}
use Rattle.plan.specs.Refusals.{fault}
use Rattle.plan.specs.Faults.{symbol_fault}
use Rattle.plan.specs.Packed.{bytes_of, code_of, byte_at, packed}
use Rattle.plan.proofs.Packing.{packed-length, packed-byte}
use Rattle.plan.proofs.Refusals.{unless-true, unless-false}
use Rattle.plan_format.specs.Reading.{most_packed}
use Rattle.plan_lines.specs.Inner.Scanning.{wrong_symbol_fault, symbols_fault}

-- ---- packed, byte by byte

-- the first bytes are those of the calendar
abbrev pub PackedTo : List ℕ → ℕ → List ℕ → Type 0
PackedTo cal n out = (k : ℕ) → k < n → get_or out k 0 ≡ byte_at cal k

pub byte-put : (cal out : List ℕ) (n x : ℕ) → x ≡ byte_at cal n → n < length out → PackedTo cal n out → PackedTo cal (n + 1) (set out n x)
byte-put cal out n x e l before k m = go (eqb k n) refl
  where
    go : (b : Bool) → eqb k n ≡ b → get_or (set out n x) k 0 ≡ byte_at cal k
    go true q =
        let same : k ≡ n = eqb-true k n q in
        rw same (get_or-set_same out n x 0 l ∙ e)
    go false q = get_or-set_other out n k x 0 (eqb-false k n q) ∙ before k (let ne : k ≢ n = eqb-false k n q in omega arith)

pub bytes-put : (cal out : List ℕ) → length out ≡ bytes_of (length cal) → PackedTo cal (length out) out → out ≡ packed cal
bytes-put cal out long each =
    ext_get_or 0 out _ (long ∙ sym (packed-length cal)) (λ i l. each i l ∙ sym (packed-byte cal i (omega (arith, l, long))))

pub byte-of : (cal : List ℕ) (i a b c d : ℕ) → a ≡ get_or cal (4 * i) 0 → b ≡ get_or cal (4 * i + 1) 0 → c ≡ get_or cal (4 * i + 2) 0
    → d ≡ get_or cal (4 * i + 3) 0 → code_of a + 4 * code_of b + 16 * code_of c + 64 * code_of d ≡ byte_at cal i
unfolding byte_at
byte-of cal i a b c d p q r s = rw (p, q, r, s) refl

-- the bytes of a calendar, put among those joined
pub part-written : (at n : ℕ) (cells part : List ℕ) → n ≡ length part → put_mid at (at + n - at) cells part ≡ written_at at part cells
part-written at n cells part e =
    put_mid-paste _ _ cells _ part (length part) refl (omega (arith, e)) refl ∙ paste-end cells at part

-- the whole bytes of a calendar, and one more where hours are left
module _ (n : ℕ) where
  pub whole-byte : (i : ℕ) → i < n / 4 → i < bytes_of n
  unfolding bytes_of
  whole-byte i l = omega (arith, l)

  pub last-byte : n / 4 < bytes_of n → bytes_of n ≡ n / 4 + 1
  unfolding bytes_of
  last-byte l = omega (arith, l)

  pub no-last : bytes_of n ≤ n / 4 → bytes_of n ≡ n / 4
  unfolding bytes_of
  no-last l = omega (arith, l)

-- the bytes of the most calendars
pub packed-most : most_packed ≡ 35136
unfolding bytes_of
packed-most = refl

-- ---- the first symbol that is none

module _ (xs ys : List ℕ) where
  -- those of the first calendars stay where they are
  before-more : first_of (symbol_fault (xs ++ ys)) (length xs) ≡ symbols_fault xs
  unfolding symbol_fault is_symbol is_kind
  before-more = first-eq _ _ (length xs) (λ i l. rw (get_or_append_left xs ys 0 i l) refl)

  more : length xs ≤ length (xs ++ ys)
  more = omega (arith, length-append xs ys)

  -- one is known already
  pub wrong-known : (o : Option ℕ) → is_some o ≡ true → wrong_symbol_fault o ≡ symbols_fault xs → wrong_symbol_fault o ≡ symbols_fault (xs ++ ys)
  wrong-known (Some k) is e = sym (first_found (symbol_fault (xs ++ ys)) (length (xs ++ ys)) (length xs) _ more (before-more ∙ sym e))
  wrong-known None is e = true≢false refl (sym is)

  pub none-known : (o : Option ℕ) → is_some o ≡ false → wrong_symbol_fault o ≡ symbols_fault xs
      → Unfound (symbol_fault (xs ++ ys)) (length (xs ++ ys)) (length xs + 0)
  none-known (Some k) is e = true≢false refl is
  none-known None is e = record { inside = omega (arith, more); none_before = rw add-zero (before-more ∙ sym e) }

  -- after so many of the calendar none is known; the next symbol
  module _ {i : ℕ} (none : Unfound (symbol_fault (xs ++ ys)) (length (xs ++ ys)) (length xs + i)) {b : Bool}
      (is : b ≡ is_symbol (get_or ys i 0 ∷ []) 0) (l : i < length ys)
    where
      here : is_symbol (xs ++ ys) (length xs + i) ≡ b
      unfolding is_symbol is_kind
      here = rw (get_or-append-add xs ys i 0) (sym is)

      pub wrong-next : b ≡ true → Unfound (symbol_fault (xs ++ ys)) (length (xs ++ ys)) (length xs + (i + 1))
      unfolding symbol_fault
      wrong-next e =
          let next = unfound-next none (omega (arith, l, length-append xs ys)) (unless-true _ 4 (length xs + i) (here ∙ e)) in
          record { inside = omega (arith, l, length-append xs ys); none_before = rw (← add_assoc) next.none_before }

      pub wrong-hit : b ≡ false → {n : ℕ} → n ≡ length xs → Some (fault 4 (n + i)) ≡ symbols_fault (xs ++ ys)
      unfolding symbol_fault
      wrong-hit e q =
          rw q (sym (unfound-hit none (omega (arith, l, length-append xs ys)) (unless-false _ 4 (length xs + i) (here ∙ e))))

  pub wrong-end : {i : ℕ} → Unfound (symbol_fault (xs ++ ys)) (length (xs ++ ys)) (length xs + i) → length ys ≤ i → None ≡ symbols_fault (xs ++ ys)
  wrong-end none l = sym (unfound-end none (omega (arith, l, length-append xs ys)))
