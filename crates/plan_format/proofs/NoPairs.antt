-- Plan text without pairs is read and written as before W-206. Assumes nothing.
use mathlib.Core.Path.{◌≡◌, refl, sym, ap, ◌∙◌}
use mathlib.Core.Logic.{◌⊎◌, inl, inr}
use mathlib.Core.Bool.{Bool, true, false}
use Rattle.std.specs.Prelude.{Option, None, Some}
use mathlib.Core.List.{List, [], ◌∷◌, ◌++◌, append-nil}
use Prim.Native.Nat.{ℕ, suc, ◌+◌, ◌/◌, ◌≤◌}
use native.Mathlib.Omega.{arith}
use lib.Dec.{leb, eqb}
use lib.ListN.{length, get_or}
use borrow.Author.Tests.{le-leb}
use Rattle.units.specs.Cells.{written}
use Rattle.units.specs.Choice.{◌and◌, some_if, on_option}
use Rattle.units.specs.Limits.{pair_numbers}
use Rattle.units.specs.Lists.{list_to}
use Rattle.units.proofs.Choices.{true≢false, if-case, if-all, if_some, option-all, option-case, None≢Some}
use Rattle.text.specs.Words.{word_plan, word_cal, word_task, word_after}
use Rattle.text.specs.Fields.{tab, lf, parts, same}
use Rattle.text.proofs.Words.{same-not}
use Rattle.plan.specs.Plan.{Plan, room_count, task_count, pair_count, calendar_count}
use Rattle.plan.specs.Refusals.{fault, Answer, refused, answered, on_answer}
use Rattle.plan.proofs.Refusals.{refused≢answered}
use Rattle.plan_format.specs.Records.{Record, plan_of, cal_of, task_of, by_word, record_of}
use Rattle.plan_format.specs.Text.{plan_section, Read, nothing, with_record, with_line, is_line, with_line_at, read_lines, read_text}
use Rattle.plan_format.specs.Reading.{plan_in, most_paired, is_enough, stored, read_tested, read_plan}
use Rattle.plan_format.specs.Writing.{cal_records, task_records, after_records, records_of, text_of_plan, write_fault, write_plan}
use Rattle.plan_format.specs.NoPairs as before
use Rattle.plan_format.specs.NoPairs.{is_pair_line, RefusedAtPair, AsBefore}

-- ---- read

-- by the line's fields: one of another word than `after` is the record that it was, and one of that word was none
word-alike : (fields : List (List ℕ)) → same (get_or fields 0 []) word_after ≡ false → by_word fields ≡ before.by_word fields
unfolding by_word before.by_word
word-alike [] e = refl
word-alike (word ∷ fields) e = rw e refl

no-record : (fields : List (List ℕ)) → same (get_or fields 0 []) word_after ≡ true → before.by_word fields ≡ None
unfolding same before.by_word
no-record [] e = true≢false e refl
no-record (word ∷ fields) e = rw (other word_plan refl, other word_cal refl, other word_task refl) refl
  where
    other : (w : List ℕ) → same w word_after ≡ false → same word w ≡ false
    other w n = same-not word w (λ p. true≢false e (rw p n))

module _ (k : ℕ) (r : Read) (line : List ℕ) where
  line-alike : is_pair_line line ≡ false → with_line_at k r line ≡ before.with_line_at k r line
  unfolding with_line_at with_line record_of before.with_line_at is_pair_line
  line-alike e = rw (word-alike (parts tab line) e) refl

  no-line : is_pair_line line ≡ true → before.with_line_at k r line ≡ None
  unfolding before.with_line_at is_pair_line on_option
  no-line e =
      rw (no-record (parts tab line) e)
      (if-all (λ (o : Option Read). o ≡ None) (is_line k (length line)) None None (λ t. refl) (λ f. refl))

-- line by line: as before, or refused at line k + i for its word
abbrev Alike : ℕ → Read → List (List ℕ) → Type 0
Alike k r lines =
    (read_lines k r lines ≡ before.read_lines k r lines)
    ⊎ ((i : ℕ) × (before.read_lines k r lines ≡ refused (fault 1 (k + i))) × (is_pair_line (get_or lines i []) ≡ true))

lines-alike : (k : ℕ) (r : Read) (lines : List (List ℕ)) → Alike k r lines
unfolding read_lines before.read_lines on_option
lines-alike k r [] = inl refl
lines-alike k r (line ∷ []) = inl refl
lines-alike k r (line ∷ (next ∷ lines)) =
    go (is_pair_line line) refl (before.with_line_at k r line) refl (λ s. lines-alike (k + 1) s (next ∷ lines))
  where
    after : (s : Read) → with_line_at k r line ≡ Some s → before.with_line_at k r line ≡ Some s → Alike (k + 1) s (next ∷ lines)
        → Alike k r (line ∷ (next ∷ lines))
    after s p q (inl e) = inl (rw (p, q) e)
    after s p q (inr (i, e, h)) = inr (suc i, rw q (e ∙ ap (λ n. refused (fault 1 n)) (omega arith)), h)

    go : (b : Bool) → is_pair_line line ≡ b → (o : Option Read) → before.with_line_at k r line ≡ o
        → ((s : Read) → Alike (k + 1) s (next ∷ lines)) → Alike k r (line ∷ (next ∷ lines))
    go true e o q rest = inr (0, rw (no-line k r line e) (ap (λ n. refused (fault 1 n)) (omega arith)), e)
    go false e None q rest = inl (rw (line-alike k r line e, q) refl)
    go false e (Some s) q rest = after s (line-alike k r line e ∙ q) q (rest s)

read-alike : (text : List ℕ) → (read_text text ≡ before.read_text text) ⊎ RefusedAtPair text
unfolding read_text before.read_text RefusedAtPair
read-alike text = lines-alike 1 nothing (parts lf text)

-- a line of the three words leaves no pairs where there were none
module _ (r : Read) (none : r.pairs ≡ []) where
  unfoldable Kept : Option Record → Type 0
  Kept o = (s : Read) → on_option o None (with_record r) ≡ Some s → s.pairs ≡ []

  none-kept : Kept None
  unfolding Kept on_option
  none-kept s e = None≢Some e

  kept : (x : Record) (b : Bool) (q : Read) → with_record r x ≡ some_if b q → q.pairs ≡ [] → Kept (Some x)
  unfolding Kept on_option
  kept x b q w p s e = ap (λ (t : Read). t.pairs) (sym (if_some b q s (sym w ∙ e)).1) ∙ p

  if-kept : (b : Bool) (x : Record) → Kept (Some x) → Kept (some_if b x)
  if-kept true x h = h
  if-kept false x h = none-kept

  word-kept : (fields : List (List ℕ)) → Kept (before.by_word fields)
  unfolding before.by_word plan_of cal_of task_of with_record
  word-kept [] = none-kept
  word-kept (word ∷ fields) =
      if-all Kept (same word word_plan) _ _ (λ w. option-all Kept _ _ _ (λ n. none-kept) (λ ns n. kept _ _ _ refl refl))
      (λ w. if-all Kept (same word word_cal) _ _ (λ c. if-kept _ _ (kept _ _ _ refl none))
      (λ c. if-all Kept (same word word_task) _ _ (λ t. option-all Kept _ _ _ (λ n. none-kept) (λ ns n. kept _ _ _ refl none)) (λ t. none-kept)))

  line-kept : (k : ℕ) (line : List ℕ) (s : Read) → before.with_line_at k r line ≡ Some s → s.pairs ≡ []
  unfolding Kept before.with_line_at
  line-kept k line s e =
      if-case (is_line k (length line)) _ _ _ e (λ may w. word-kept (parts tab line) s w) (λ no w. None≢Some w)

  answer-kept : (q : Read) → answered r ≡ answered q → q.pairs ≡ []
  answer-kept q e = let same : r ≡ q = cc in rw (← same) none

lines-kept : (k : ℕ) (r q : Read) (lines : List (List ℕ)) → r.pairs ≡ [] → before.read_lines k r lines ≡ answered q → q.pairs ≡ []
unfolding before.read_lines
lines-kept k r q [] none e = refused≢answered e
lines-kept k r q (line ∷ []) none e =
    if-case (leb plan_section r.reached and eqb (length line) 0) _ _ _ e (λ b is. answer-kept r none q is) (λ b is. refused≢answered is)
lines-kept k r q (line ∷ (next ∷ lines)) none e =
    option-case _ _ _ _ e (λ n is. refused≢answered is)
    (λ s w is. lines-kept (k + 1) s q (next ∷ lines) (line-kept r none k line s w) is)

read-accepted : (text : List ℕ) (r : Read) → before.read_text text ≡ answered r → (read_text text ≡ answered r) × (r.pairs ≡ [])
unfolding before.read_text RefusedAtPair
read-accepted text r e = (go (read-alike text), lines-kept 1 nothing r (parts lf text) refl e)
  where
    go : (read_text text ≡ before.read_text text) ⊎ RefusedAtPair text → read_text text ≡ answered r
    go (inl p) = p ∙ e
    go (inr (k, p, h)) = refused≢answered (sym p ∙ e)

-- ---- into memory

module _ (rs cs ts ws hs ps bs : List ℕ) (room : most_paired ≤ length ps) where
  enough-is : is_enough rs cs ts ws hs ps bs ≡ before.is_enough rs cs ts ws hs bs
  unfolding is_enough before.is_enough
  enough-is = rw (le-leb most_paired (length ps) room) refl

  stored-is : (r : Read) → r.pairs ≡ [] → stored rs cs ts ws hs ps bs r ≡ before.stored rs cs ts ws hs ps bs r
  unfolding stored before.stored plan_in written
  stored-is r none = rw none refl

  abbrev Left : List ℕ → Type 0
  Left text = read_plan rs cs ts ws hs ps bs text ≡ before.read_plan rs cs ts ws hs ps bs text

  left-is : (text : List ℕ) (a : Answer Read) → before.read_text text ≡ a → read_text text ≡ a → Left text
  unfolding read_plan read_tested before.read_plan on_answer
  left-is text (refused f) e p = rw (e, p) refl
  left-is text (answered r) e p = rw (e, p, enough-is, stored-is r (read-accepted text r e).1) refl

  left-alike : (text : List ℕ) → Left text ⊎ RefusedAtPair text
  left-alike text = go (read-alike text)
    where
      go : (read_text text ≡ before.read_text text) ⊎ RefusedAtPair text → Left text ⊎ RefusedAtPair text
      go (inl e) = inl (left-is text _ refl e)
      go (inr h) = inr h

-- ---- written

module _ (P : Plan) (none : P.pairs ≡ []) (boxes : List ℕ) where
  no-pair : pair_count P ≡ 0
  no-pair = ap (λ (l : List ℕ). length l / pair_numbers) none

  text-is : text_of_plan P boxes ≡ before.text_of_plan P boxes
  unfolding text_of_plan before.text_of_plan records_of before.records_of after_records list_to
  text-is =
      let calendars = cal_records P.shifts (calendar_count P.shifts) in
      let tasks = task_records (room_count P) P.shifts.task_calendars P.shifts.work_times P.heights boxes (task_count P) in
      rw (no-pair, append-nil (calendars ++ tasks)) refl

  written-is : (out : List ℕ) → write_plan P boxes out ≡ before.write_plan P boxes out
  unfolding write_plan before.write_plan write_fault before.write_fault
  written-is out = rw text-is refl

pub as-before : AsBefore
as-before =
    record {
      read = read-alike;
      accepted = read-accepted;
      left = λ rs cs ts ws hs ps bs text room. left-alike rs cs ts ws hs ps bs room text;
      written = written-is;
    }
