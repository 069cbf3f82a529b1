-- Laws of the listing's lines: how long each is, and the tasks' lines one after the other. Assumes nothing.
use mathlib.Core.Path.{◌≡◌, refl}
use mathlib.Core.List.{List, [], ◌∷◌, ◌++◌}
use Rattle.std.specs.Prelude.{Ok}
use Prim.Native.Nat.{ℕ, ◌+◌, ◌≤◌, ◌<◌}
use native.Mathlib.Numerals.{add-one}
use native.Mathlib.Omega.{arith}
use lib.ListN.{length, length-append}
use Rattle.text.specs.Words.{word_task, word_refused}
use Rattle.text.specs.Numbers.{decimal_text}
use Rattle.text.specs.Lines.{number_fields, line_of}
use Rattle.text.specs.Putting.{Put}
use Rattle.text.proofs.Puts.{put_both}
use Rattle.text.proofs.Decimals.{reach, decimal-width}
use Rattle.text.proofs.Lines.{Below, fields-width, line-length}
use Rattle.steps.specs.Entry.{ending_answer, ending_of, filter_answer}
use Rattle.steps.specs.declared.Ending.TheVariants.{Settled, Impossible, NoRoom}
use Rattle.steps.specs.declared.Filtered.{Filtered}
use Rattle.listing.specs.Endings.{word_of}
use Rattle.listing.specs.Listing.{task_line, task_lines, listing}

-- a word and one number of up to 20 digits
pub count-length : (word : List ℕ) (n : ℕ) → n < reach 20 → length (line_of word (n ∷ [])) ≤ length word + 22
unfolding Below
count-length word n l = omega (arith, line-length word (n ∷ []), fields-width 19 (n ∷ []) (l, tt))

-- a number of up to 5 digits and a place of up to 20
pub refused-length : (number place : ℕ) → number < reach 5 → place < reach 20 → length (line_of word_refused (number ∷ place ∷ [])) ≤ 35
unfolding number_fields
refused-length number place l m =
    omega (
      arith,
      line-length word_refused (number ∷ place ∷ []),
      length-append (decimal_text number) (number_fields (place ∷ [])),
      length-append (decimal_text place) (number_fields []),
      decimal-width 4 number l,
      decimal-width 19 place m,
    )

-- a task's number and six bounds, of up to 5 digits each
pub task-length : (i earliest latest shortest longest fewest most : ℕ) → i < reach 5 → earliest < reach 5 → latest < reach 5 → shortest < reach 5
    → longest < reach 5 → fewest < reach 5 → most < reach 5
    → length (line_of word_task (i ∷ earliest ∷ latest ∷ shortest ∷ longest ∷ fewest ∷ most ∷ [])) ≤ 47
unfolding Below
task-length i earliest latest shortest longest fewest most l0 l1 l2 l3 l4 l5 l6 =
    let numbers = i ∷ earliest ∷ latest ∷ shortest ∷ longest ∷ fewest ∷ most ∷ [] in
    omega (arith, line-length word_task numbers, fields-width 4 numbers (l0, (l1, (l2, (l3, (l4, (l5, (l6, tt))))))))

-- the lines of one task more
pub put-task-next : (boxes : List ℕ) (i : ℕ) {at m n : ℕ} {cells l1 l2 : List ℕ} → at ≤ length cells → Put (task_lines boxes i) at cells m l1
    → Put (task_line boxes i) m l1 n l2 → Put (task_lines boxes (i + 1)) at cells n l2
unfolding task_lines
put-task-next boxes i l p q = rw add-one (put_both l p q)

-- the listing of a run, by the word that opens it
pub run-lines : (run : Filtered) (boxes : List ℕ) (tasks : ℕ)
    → listing (filter_answer (Ok run)) boxes tasks ≡ line_of (word_of run.ending) (run.count ∷ []) ++ task_lines boxes tasks
unfolding listing ending_answer
run-lines run boxes tasks =
    elim run.ending
    as (λ e. listing (ending_answer (ending_of e) run.count) boxes tasks ≡ line_of (word_of e) (run.count ∷ []) ++ task_lines boxes tasks)
    [ Settled ↦ refl | Impossible ↦ refl | NoRoom ↦ refl ]

-- how long the lines of one or two numbers are
pub ruleset widths = (count-length, refused-length)
