-- What the program prints (01, "Plan text and listing").
use Rattle.std.specs.Prelude.{List, [], ◌∷◌, ◌++◌, ℕ, zero, suc}
use Rattle.plan.specs.Boxes.{bounds_at}
use Rattle.plan.specs.declared.Fault.{Fault}
use Rattle.steps.specs.Entry.{FilterAnswer, refused_by, no_room_for, settled_after, impossible_after}
use Rattle.text.specs.Words.{word_task, word_settled, word_impossible, word_room, word_refused}
use Rattle.text.specs.Lines.{line_of}

-- a task's number and six bounds
unfoldable pub task_line : List ℕ → ℕ → List ℕ
task_line boxes i =
    line_of word_task
    (i
    ∷ (bounds_at boxes i).earliest.0
    ∷ (bounds_at boxes i).latest.0
    ∷ (bounds_at boxes i).shortest.0
    ∷ (bounds_at boxes i).longest.0
    ∷ (bounds_at boxes i).fewest.0
    ∷ (bounds_at boxes i).most.0
    ∷ [])

unfoldable pub task_lines : List ℕ → ℕ → List ℕ
task_lines boxes zero = []
task_lines boxes (suc n) = task_lines boxes n ++ task_line boxes n

-- `settled`, `impossible` or `room` (for 32) with the count, then each task; any other refusal is one line: `refused`, number, place
unfoldable pub refused_line : Fault → List ℕ
refused_line f = line_of word_refused (f.number ∷ f.place ∷ [])

unfoldable pub listing : FilterAnswer → List ℕ → ℕ → List ℕ
listing (refused_by f) boxes tasks = refused_line f
listing (no_room_for f n) boxes tasks = line_of word_room (n ∷ []) ++ task_lines boxes tasks
listing (settled_after n) boxes tasks = line_of word_settled (n ∷ []) ++ task_lines boxes tasks
listing (impossible_after n) boxes tasks = line_of word_impossible (n ∷ []) ++ task_lines boxes tasks
