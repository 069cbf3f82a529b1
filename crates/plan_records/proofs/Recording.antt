-- Laws of a line's record: its numbers, what the fields after its first word come to, and what code finds in it. Assumes nothing.
use mathlib.Core.Path.{◌≡◌, refl, sym, ap, ◌∙◌}
use mathlib.Core.Bool.{Bool, true, false, not, ◌&&◌}
use Rattle.std.specs.Prelude.{Option, None, Some}
use mathlib.Core.List.{List, [], ◌∷◌}
use Prim.Native.Nat.{ℕ, suc, ◌+◌, ◌≤◌, ◌<◌}
use native.Mathlib.Numerals.{add-one}
use native.Mathlib.Omega.{arith}
use lib.Dec.{leb, eqb}
use lib.ListN.{length, get_or, take, drop}
use borrow.Author.Tests.{lt-leb, le-leb, leb-true, ne_eqb, eqb-true, eqb-false}
use Rattle.std.specs.Option.{MatchOption, option_map}
use Rattle.std.specs.List.{list_any}
use denote.Ref.{Bor}
use Rattle.units.specs.Choice.{some_if, on_option}
use Rattle.units.proofs.Choices.{and_both, not_left, none-if, some-if, if_some, None≢Some, if-false, if-all}
use Rattle.text.specs.Words.{word_plan, word_cal, word_task, word_after}
use Rattle.text.specs.Fields.{tab, parts, first_at, same}
use Rattle.text.specs.Numbers.{numbers_of}
use Rattle.text.specs.Reading.{Begin, NumbersMade}
use Rattle.text.proofs.Parts.{parts_more, parts_last, parts_first, first-within, any-none, any-some}
use Rattle.text.proofs.Words.{same-not}
use Rattle.plan_records.specs.declared.LineRecord.{LineRecord}
use Rattle.plan_records.specs.declared.LineRecord.TheVariants as line
use Rattle.plan_records.specs.Inner.Lines.{Finds}
use Rattle.plan_format.specs.Records.{Record, cal_record, after_record, numbers_if, plan_of, cal_of, task_of, after_of, by_word, record_of}

-- ---- cal

module _ (fields : List ℕ) where
  -- a separator is among them, so there are more fields
  symbols-parted : list_any (λ b. eqb b tab) fields ≡ true → cal_of (parts tab fields) ≡ None
  unfolding cal_of
  symbols-parted e =
      let (ps, s) = parts_first tab (drop (suc (first_at tab fields)) fields) in
      rw (parts_more tab fields (any-some tab fields e), s)
      (none-if _ _ (not_left _ _ (ne_eqb (suc (suc (length ps))) 1 (λ q. omega arith))))

  symbols-empty : length fields ≡ 0 → cal_of (parts tab fields) ≡ None
  unfolding cal_of
  symbols-empty h =
      rw (parts_last tab fields (omega (arith, h, first-within tab fields)))
      (none-if _ _ (lt-leb 1 (length fields) (omega arith)))

  symbols-are : list_any (λ b. eqb b tab) fields ≡ false → eqb (length fields) 0 ≡ false → cal_of (parts tab fields) ≡ Some (cal_record fields)
  unfolding cal_of
  symbols-are e q =
      rw (parts_last tab fields (any-none tab fields e))
      (some-if _ _ (and_both _ _ refl (le-leb 1 (length fields) (omega (arith, eqb-false (length fields) 0 q)))))

-- what is found where the code looks for a byte and for a separator
pub symbols-made : (symbols : Bor (List ℕ)) (test : Bool) → test ≡ (not (eqb (length symbols.now) 0) && not (list_any (λ b. eqb b tab) symbols.now))
    → MatchOption (some_if test symbols) (cal_of (parts tab symbols.now) ≡ None)
    (λ s. (cal_of (parts tab symbols.now) ≡ Some (cal_record s.now)) × (length s.now ≤ length symbols.now))
symbols-made symbols test e = rw e (go (eqb (length symbols.now) 0) refl (list_any (λ b. eqb b tab) symbols.now) refl)
  where
    go : (t : Bool) → eqb (length symbols.now) 0 ≡ t → (u : Bool) → list_any (λ b. eqb b tab) symbols.now ≡ u
        → MatchOption (some_if (not t && not u) symbols) (cal_of (parts tab symbols.now) ≡ None)
        (λ s. (cal_of (parts tab symbols.now) ≡ Some (cal_record s.now)) × (length s.now ≤ length symbols.now))
    go true q u r = symbols-empty symbols.now (eqb-true (length symbols.now) 0 q)
    go false q true r = symbols-parted symbols.now r
    go false q false r = (symbols-are symbols.now r q, omega arith)

-- ---- numbers, so many or more

module _ (least : ℕ) (fields : List (List ℕ)) where
  pub numbers-none : numbers_of fields ≡ None → numbers_if least fields ≡ None
  unfolding numbers_if on_option
  numbers-none e = rw e

  numbers-some : {ns : List ℕ} → numbers_of fields ≡ Some ns → numbers_if least fields ≡ some_if (leb least (length ns)) ns
  unfolding numbers_if on_option
  numbers-some e = rw e

  -- the count of the numbers, once too small a count is none
  pub numbers-made : (cells : List ℕ) (o r : Option ℕ) → NumbersMade (numbers_of fields) o cells
      → MatchOption o (r ≡ None) (λ n. r ≡ some_if (leb least n) n) → NumbersMade (numbers_if least fields) r cells
  unfolding NumbersMade
  numbers-made cells None r e q = rw q (numbers-none e)
  numbers-made cells (Some n) r (ns, e, begin) q = rw q (go (leb least n) refl)
    where
      go : (t : Bool) → leb least n ≡ t → NumbersMade (numbers_if least fields) (some_if t n) cells
      go true t = (ns, numbers-some e ∙ some-if _ _ (ap (leb least) (sym begin.counted) ∙ t), begin)
      go false t = numbers-some e ∙ none-if _ _ (ap (leb least) (sym begin.counted) ∙ t)

-- ---- what a record is found to be

-- as many as were asked for
count-least : (least : ℕ) (fields : List (List ℕ)) {ns cells : List ℕ} {n : ℕ}
    → numbers_if least fields ≡ Some ns → Begin ns n cells → least ≤ n
unfolding numbers_if on_option
count-least least fields {ns = ns} {n = n} e begin = go (numbers_of fields) e
  where
    go : (o : Option (List ℕ)) → on_option o None (λ ms. some_if (leb least (length ms)) ms) ≡ Some ns → least ≤ n
    go None q = None≢Some q
    go (Some ms) q =
        let found : (leb least (length ms) ≡ true) × (ms ≡ ns) = if_some _ ms ns q in
        omega (arith, leb-true least (length ms) found.0, ap length found.1, begin.counted)

module _ (bytes cells : List ℕ) where
  pub symbols-found : (r : Option Record) (o : Option (Bor (List ℕ)))
      → MatchOption o (r ≡ None) (λ s. (r ≡ Some (cal_record s.now)) × (length s.now ≤ length bytes))
      → Finds r (option_map line.Cal o) bytes cells
  unfolding Finds
  symbols-found r None e = e
  symbols-found r (Some s) e = e

module _ (fields : List (List ℕ)) (bytes cells : List ℕ) where
  pub plan-found : (o : Option ℕ) → NumbersMade (numbers_if 1 fields) o cells → Finds (plan_of fields) (option_map line.Plan o) bytes cells
  unfolding NumbersMade Finds plan_of on_option
  plan-found None e = rw e
  plan-found (Some n) (ns, e, begin) = (ns, rw e, count-least 1 fields e begin, begin)

  pub task-found : (o : Option ℕ) → NumbersMade (numbers_if 2 fields) o cells → Finds (task_of fields) (option_map line.Task o) bytes cells
  unfolding NumbersMade Finds task_of on_option
  task-found None e = rw e
  task-found (Some n) (ns, e, begin) = (ns, rw e, count-least 2 fields e begin, begin)

  pub after-none : NumbersMade (numbers_of fields) None cells → Finds (after_of fields) None bytes cells
  unfolding NumbersMade Finds after_of on_option
  after-none e = rw e

  -- exactly two numbers
  pub after-found : (n : ℕ) → NumbersMade (numbers_of fields) (Some n) cells → Finds (after_of fields) (some_if (eqb n 2) line.After) bytes cells
  unfolding NumbersMade Finds after_of on_option
  after-found n (ns, e, begin) = rw e (go (eqb n 2) refl (ap (λ (k : ℕ). eqb k 2) (sym begin.counted)))
    where
      go : (t : Bool) → eqb n 2 ≡ t → eqb (length ns) 2 ≡ eqb n 2
          → Finds (some_if (eqb (length ns) 2) (after_record (get_or ns 0 0) (get_or ns 1 0))) (some_if t line.After) bytes cells
      go true t k = (ns, some-if _ _ (k ∙ t), rw (eqb-true n 2 t) at begin)
      go false t k = none-if _ _ (k ∙ t)

-- more bytes, of which those were a part
pub finds-more : (o : Option Record) (x : Option LineRecord) (bytes more cells : List ℕ) → length bytes ≤ length more → Finds o x bytes cells
    → Finds o x more cells
unfolding Finds
finds-more o None bytes more cells l f = f
finds-more o (Some (line.Plan n)) bytes more cells l f = f
finds-more o (Some (line.Cal symbols)) bytes more cells l f = (f.0, omega (arith, f.1))
finds-more o (Some (line.Task n)) bytes more cells l f = f
finds-more o (Some line.After) bytes more cells l f = f

-- ---- by the first field

module _ (word : List ℕ) (fields : List (List ℕ)) where
  pub word-plan : word ≡ word_plan → by_word (word ∷ fields) ≡ plan_of fields
  unfolding by_word same
  word-plan e = rw e

  pub word-cal : word ≡ word_cal → by_word (word ∷ fields) ≡ cal_of fields
  unfolding by_word same
  word-cal e = rw e

  pub word-task : word ≡ word_task → by_word (word ∷ fields) ≡ task_of fields
  unfolding by_word same
  word-task e = rw e

  pub word-after : word ≡ word_after → by_word (word ∷ fields) ≡ after_of fields
  unfolding by_word same
  word-after e = rw e

  pub word-other : (word ≡ word_plan → ⊥) → (word ≡ word_cal → ⊥) → (word ≡ word_task → ⊥) → (word ≡ word_after → ⊥)
      → by_word (word ∷ fields) ≡ None
  unfolding by_word
  word-other p c t a =
      if-false _ _ _ (same-not word word_plan p)
      ∙ if-false _ _ _ (same-not word word_cal c)
      ∙ if-false _ _ _ (same-not word word_task t)
      ∙ if-false _ _ _ (same-not word word_after a)

-- the bytes by which the code tells words apart
pub record Reads (word other : List ℕ) : Type 0 where
  pub long : length word ≡ length other
  pub zeroth : get_or word 0 0 ≡ get_or other 0 0
  pub first : get_or word 1 0 ≡ get_or other 1 0
  pub second : get_or word 2 0 ≡ get_or other 2 0
  pub third : get_or word 3 0 ≡ get_or other 3 0
  pub fourth : get_or word 4 0 ≡ get_or other 4 0

pub same-reads : {word other : List ℕ} → word ≡ other → Reads word other
same-reads e =
    let at = λ (k : ℕ). ap (λ (l : List ℕ). get_or l k 0) e in
    record { long = ap length e; zeroth = at 0; first = at 1; second = at 2; third = at 3; fourth = at 4 }

-- a line of one field is no record
bare : (word : List ℕ) → by_word (word ∷ []) ≡ None
unfolding by_word plan_of cal_of task_of after_of numbers_if numbers_of on_option
bare word =
    if-all (λ (o : Option Record). o ≡ None) (same word word_plan) _ _ (λ e. refl)
    (λ e. if-all (λ (o : Option Record). o ≡ None) (same word word_cal) _ _ (λ e. refl)
    (λ e. if-all (λ (o : Option Record). o ≡ None) (same word word_task) _ _ (λ e. refl)
    (λ e. if-all (λ (o : Option Record). o ≡ None) (same word word_after) _ _ (λ e. refl) (λ e. refl))))

module _ (bytes : List ℕ) where
  pub record-one : first_at tab bytes ≡ length bytes → record_of bytes ≡ None
  unfolding record_of
  record-one h = rw (parts_last tab bytes h) (bare bytes)

  -- the first field and those after it
  pub record-split : (end : ℕ) → (end ≡ first_at tab bytes) × (end < length bytes)
      → record_of bytes ≡ by_word (take end bytes ∷ parts tab (drop (end + 1) bytes))
  unfolding record_of
  record-split end p = rw (add-one, p.0) (ap by_word (parts_more tab bytes (omega arith)))
