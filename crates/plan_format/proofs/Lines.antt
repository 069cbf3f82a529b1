-- A record's line is one line, and is read as that record. Assumes nothing.
use mathlib.Core.Path.{◌≡◌, refl}
use Rattle.std.specs.Prelude.{Some}
use mathlib.Core.List.{List, [], ◌∷◌, ◌++◌}
use Prim.Native.Nat.{ℕ, suc, ◌≤◌}
use native.Mathlib.Omega.{arith}
use lib.ListN.{length}
use borrow.Author.Tests.{le-leb}
use Rattle.units.specs.Choice.{on_option}
use Rattle.text.specs.Words.{word_plan, word_cal, word_task, word_after}
use Rattle.text.specs.Fields.{tab, lf, first_at, same}
use Rattle.text.specs.Numbers.{most_number}
use Rattle.text.specs.Lines.{number_fields}
use Rattle.text.proofs.Parts.{parts_last}
use Rattle.text.proofs.Parting.{without_more, without-both, fields-without, parts_next, parts-numbers, numbers-read}
use Rattle.text.proofs.Lines.{Below}
use Rattle.plan_format.specs.Records.{Record, plan_record, cal_record, task_record, after_record}
use Rattle.plan_format.specs.Records.{numbers_if, plan_of, cal_of, task_of, after_of, by_word, record_of, record_line}

-- what its line needs: numbers of plan text; symbols, at least one, without tab and LF; two numbers of a task at least; the
-- numbers of a pair
unfoldable pub Readable : Record → Type 0
Readable (plan_record h cs) = Below (suc most_number) (h ∷ cs)
Readable (cal_record symbols) = (1 ≤ length symbols) × (first_at tab symbols ≡ length symbols) × (first_at lf symbols ≡ length symbols)
Readable (task_record numbers) = (2 ≤ length numbers) × Below (suc most_number) numbers
Readable (after_record earlier later) = Below (suc most_number) (earlier ∷ later ∷ [])

pub line_read : (x : Record) → Readable x → record_of (record_line x) ≡ Some x
unfolding Readable record_of record_line by_word plan_of cal_of task_of after_of numbers_if same first_at on_option
line_read (plan_record h cs) b = rw (parts-numbers word_plan (h ∷ cs) refl, numbers-read (h ∷ cs) b, le-leb 1 (suc (length cs)) (omega arith))
line_read (cal_record symbols) (some-symbol, no-tab, no-lf) =
    rw (parts_next tab word_cal symbols refl, parts_last tab symbols no-tab, le-leb 1 (length symbols) some-symbol)
line_read (task_record numbers) (two, b) =
    rw (parts-numbers word_task numbers refl, numbers-read numbers b, le-leb 2 (length numbers) two)
line_read (after_record earlier later) b =
    rw (parts-numbers word_after (earlier ∷ later ∷ []) refl, numbers-read (earlier ∷ later ∷ []) b)

-- a word and numbers are without LF where the word is
numbers-whole : (word ns : List ℕ) → first_at lf word ≡ length word → first_at lf (word ++ number_fields ns) ≡ length (word ++ number_fields ns)
numbers-whole word ns h = without-both lf word (number_fields ns) h (fields-without lf (omega arith) (λ e. omega arith) ns)

pub line-whole : (x : Record) → Readable x → first_at lf (record_line x) ≡ length (record_line x)
unfolding Readable record_line first_at
line-whole (plan_record h cs) b = numbers-whole word_plan (h ∷ cs) refl
line-whole (cal_record symbols) (some-symbol, no-tab, no-lf) =
    without-both lf word_cal (tab ∷ symbols) refl (without_more lf tab symbols (λ e. omega arith) no-lf)
line-whole (task_record numbers) b = numbers-whole word_task numbers refl
line-whole (after_record earlier later) b = numbers-whole word_after (earlier ∷ later ∷ []) refl
