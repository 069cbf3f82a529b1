-- A text of several records, one after the other: its lines are read as those records; and of any text that is read, its lines are short and few.
-- Assumes nothing.
use mathlib.Core.Path.{◌≡◌, refl, sym, ap, ◌∙◌}
use mathlib.Core.Bool.{true}
use Rattle.std.specs.Prelude.{Option, None, Some}
use mathlib.Core.List.{List, [], ◌∷◌, ◌++◌, append_assoc}
use Prim.Native.Nat.{ℕ, zero, suc, ◌+◌, ◌≤◌, ◌<◌}
use native.Mathlib.Nat.{add-zero}
use native.Mathlib.Omega.{arith}
use lib.ListN.{length, get_or, length-append}
use borrow.Author.Tests.{le-leb, leb-true}
use Rattle.units.specs.Choice.{on_option}
use Rattle.units.specs.Lists.{list_to}
use Rattle.units.proofs.Choices.{None≢Some, and_both, and_left, and_right, if-case, option-case}
use Rattle.plan.specs.Refusals.{fault, refused, answered}
use Rattle.plan.proofs.Refusals.{refused≢answered}
use Rattle.text.specs.Fields.{lf, parts}
use Rattle.text.specs.Lines.{ended}
use Rattle.text.proofs.Parts.{parts_first}
use Rattle.text.proofs.Parting.{parts_next}
use Rattle.plan_format.specs.Records.{Record, record_line}
use Rattle.plan_format.specs.Text.{most_line, most_lines, plan_section, Read, nothing, with_record, with_line, is_line, with_line_at, read_lines, read_text}
use Rattle.plan_format.specs.Text.{text_of}
use Rattle.plan_format.proofs.Lines.{Readable, line_read, line-whole}

-- ---- several records

-- what each of them has
unfoldable pub Each : (Record → Type 0) → List Record → Type 0
Each C [] = Unit {0}
Each C (x ∷ xs) = C x × Each C xs

-- what has been read after all of them
unfoldable pub with_records : Read → List Record → Option Read
with_records r [] = Some r
with_records r (x ∷ xs) = on_option (with_record r x) None (λ s. with_records s xs)

pub text-both : (xs ys : List Record) → text_of (xs ++ ys) ≡ text_of xs ++ text_of ys
unfolding text_of
text-both [] ys = refl
text-both (x ∷ xs) ys =
    ap (λ l. ended (record_line x) ++ l) (text-both xs ys) ∙ sym (append_assoc (ended (record_line x)) (text_of xs) (text_of ys))

module _ (C : Record → Type 0) where
  pub each_both : (xs ys : List Record) → Each C xs → Each C ys → Each C (xs ++ ys)
  unfolding Each
  each_both [] ys p q = q
  each_both (x ∷ xs) ys p q = (p.0, each_both xs ys p.1 q)

  pub each_to : (f : ℕ → Record) (n : ℕ) → ((i : ℕ) → i < n → C (f i)) → Each C (list_to f n)
  unfolding Each list_to
  each_to f zero h = _
  each_to f (suc n) h = each_both (list_to f n) (f n ∷ []) (each_to f n (λ i l. h i (omega arith))) (h n (omega arith), _)

-- what g finds of an option, it finds of some s in it: what f makes of the option is what f makes of that s
first_taken : {A B : Type 0} (o : Option Read) (g : Read → Option A) {a : A} → on_option o None g ≡ Some a
    → (b : B) (f : Read → B) {y : B} → ((s : Read) → g s ≡ Some a → f s ≡ y) → on_option o b f ≡ y
unfolding on_option
first_taken None g e b f h = None≢Some e
first_taken (Some s) g e b f h = h s e

-- some records, and then others
pub records-both : (xs ys : List Record) (r s : Read) → with_records r xs ≡ Some s → with_records r (xs ++ ys) ≡ with_records s ys
unfolding with_records
records-both [] ys r s e = cc
records-both (x ∷ xs) ys r s e = first_taken _ _ e _ _ (λ t h. records-both xs ys t s h)

-- what has been read after each of them, record by record
pub records-to : (f : ℕ → Record) (after : ℕ → Read) → ((i : ℕ) → with_record (after i) (f i) ≡ Some (after (suc i))) → (n : ℕ)
    → with_records (after 0) (list_to f n) ≡ Some (after n)
unfolding with_records on_option list_to
records-to f after h zero = refl
records-to f after h (suc n) = records-both (list_to f n) (f n ∷ []) (after 0) (after n) (records-to f after h n) ∙ rw (h n)

-- ---- their text, read

-- a line that may come is short with its LF, and not one too many; and such a line may come
module _ (k bytes : ℕ) where
  pub line-short : is_line k bytes ≡ true → bytes + 1 ≤ most_line
  unfolding is_line
  line-short e = leb-true _ _ (and_left _ _ e)

  pub line-number : is_line k bytes ≡ true → k ≤ most_lines
  unfolding is_line
  line-number e = leb-true _ _ (and_right _ _ e)

  pub line-comes : bytes + 1 ≤ most_line → k ≤ most_lines → is_line k bytes ≡ true
  unfolding is_line
  line-comes l m = and_both _ _ (le-leb (bytes + 1) most_line l) (le-leb k most_lines m)

-- what follows a line are the parts of the text after it, of which there is at least one
lines_more : (k : ℕ) (r : Read) (line text : List ℕ)
    → read_lines k r (line ∷ parts lf text)
    ≡ on_option (with_line_at k r line) (refused (fault 1 k)) (λ more. read_lines (k + 1) more (parts lf text))
unfolding read_lines
lines_more k r line text = let (ps, e) = parts_first lf text in rw e

-- a record's line is short enough, with its LF
abbrev pub Short : Record → Type 0
Short x = length (ended (record_line x)) ≤ most_line

-- a record's line brings what the record brings
line_taken : (x : Record) → Readable x → Short x → (k : ℕ) → k ≤ most_lines → (r : Read) → with_line_at k r (record_line x) ≡ with_record r x
unfolding with_line_at with_line on_option
line_taken x b s k l r =
    let size : length (record_line x) + 1 ≤ most_line = omega (arith, s, length-append (record_line x) (lf ∷ [])) in
    rw (line-comes k (length (record_line x)) size l, line_read x b)

-- each line is its record's, and after the last LF there is nothing
pub lines-read : (xs : List Record) → Each Readable xs → Each Short xs → (k : ℕ) → k + length xs ≤ most_lines + 1 → (r q : Read)
    → with_records r xs ≡ Some q → plan_section ≤ q.reached → read_lines k r (parts lf (text_of xs)) ≡ answered q
unfolding Each with_records text_of
lines-read [] b c k l r q e h =
    unfold parts read_lines in let p : r ≡ q = cc in rw (p, le-leb plan_section q.reached h)
lines-read (x ∷ xs) b c k l r q e h =
    ap (λ t. read_lines k r (parts lf t)) (append_assoc (record_line x) (lf ∷ []) (text_of xs))
    ∙ ap (read_lines k r) (parts_next lf (record_line x) (text_of xs) (line-whole x b.0))
    ∙ lines_more k r (record_line x) (text_of xs)
    ∙ rw (line_taken x b.0 c.0 k (omega arith) r)
    (first_taken _ _ e _ _ (λ s p. lines-read xs b.1 c.1 (k + 1) (omega arith) s q p h))

-- ---- a text that was read

-- each line, which is all parts but the last, may come
lines-are : (k : ℕ) (r q : Read) (ls : List (List ℕ)) → read_lines k r ls ≡ answered q → (i : ℕ) → i + 1 < length ls
    → is_line (k + i) (length (get_or ls i [])) ≡ true
unfolding read_lines with_line_at
lines-are k r q [] e i l = refused≢answered e
lines-are k r q (line ∷ []) e i l = absurd (omega arith)
lines-are k r q (line ∷ (next ∷ ls)) e i l =
    option-case (with_line_at k r line) _ _ _ e (λ none p. refused≢answered p)
    (λ s is p.
    if-case (is_line k (length line)) _ _ _ is (λ may w. go (λ j m. lines-are (k + 1) s q (next ∷ ls) p j m) may i l) (λ no w. None≢Some w))
  where
    go : ((j : ℕ) → j + 1 < length (next ∷ ls) → is_line (k + 1 + j) (length (get_or (next ∷ ls) j [])) ≡ true)
        → is_line k (length line) ≡ true → (i : ℕ) → i + 1 < length (line ∷ (next ∷ ls))
        → is_line (k + i) (length (get_or (line ∷ (next ∷ ls)) i [])) ≡ true
    go rest may zero m = ap (λ (n : ℕ). is_line n (length line)) (add-zero k) ∙ may
    go rest may (suc j) m =
        ap (λ (n : ℕ). is_line n (length (get_or (next ∷ ls) j []))) (let same : k + suc j ≡ k + 1 + j = omega arith in same) ∙ rest j (omega arith)

-- so they are short, and few
module _ (text : List ℕ) {r : Read} (e : read_text text ≡ answered r) where
  read-line : (k : ℕ) → k + 1 < length (parts lf text) → is_line (1 + k) (length (get_or (parts lf text) k [])) ≡ true
  unfolding read_text
  read-line = lines-are 1 nothing r (parts lf text) e

  pub read-short : (k : ℕ) → k + 1 < length (parts lf text) → length (get_or (parts lf text) k []) + 1 ≤ most_line
  read-short k l = line-short _ _ (read-line k l)

  pub read-few : length (parts lf text) ≤ most_lines + 1
  read-few = go (length (parts lf text)) refl
    where
      go : (n : ℕ) → length (parts lf text) ≡ n → n ≤ most_lines + 1
      go zero q = omega arith
      go (suc zero) q = omega arith
      go (suc (suc n)) q =
          let more : n + 1 < length (parts lf text) = omega (arith, q) in
          let last : 1 + n ≤ most_lines = line-number _ _ (read-line n more) in
          omega (arith, last)
