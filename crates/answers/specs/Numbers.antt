-- The numbers that a caller in C is handed for each answer: first a refusal's number and place, 0 and 0 where nothing is refused; then the
-- values of the answer, each 0 where the answer has none.
use Rattle.std.specs.Prelude.{List, [], ◌∷◌, ℕ, ◌+◌, replicate, set, Option, None, Some}
use Rattle.plan.specs.declared.Fault.{Fault}
use Rattle.units.specs.Sums.{one_if}
use Rattle.plan.specs.Refusals.{Answer, refused, answered}
use Rattle.calendar.specs.Triples.{start_of, elapsed_of, overtime_of}
use Rattle.calendar.specs.declared.Triple.{Triple}
use Rattle.calendar.specs.declared.Witnessed.{Witnessed}
use Rattle.steps.specs.declared.Accepted.{Accepted}
use Rattle.steps.specs.Entry.{FilterAnswer, refused_by, no_room_for, settled_after, impossible_after}
use Rattle.plan_format.specs.Reading.{PlanRead}

-- a refusal's number and place, of so many numbers
abbrev pub refused_numbers : ℕ → Fault → List ℕ
refused_numbers n f = set (set (replicate n 0) 0 f.number) 1 f.place

-- numbers with s, e and o of a triple from a place on
abbrev pub with_triple : List ℕ → ℕ → Triple → List ℕ
with_triple ns at t = set (set (set ns at (start_of t)) (at + 1) (elapsed_of t)) (at + 2) (overtime_of t)

-- s, e and o of a triple, and further numbers
abbrev pub triple_and : Triple → List ℕ → List ℕ
triple_and t ns = start_of t ∷ elapsed_of t ∷ overtime_of t ∷ ns

-- whether there is a valid triple; S, E and O, the lower bound first; ect, lct; the witness of each bound, in that order
unfoldable pub window_numbers : Witnessed → List ℕ
window_numbers found =
    0 ∷ 0 ∷ 1
    ∷ found.window.bounds.earliest.0 ∷ found.window.bounds.latest.0
    ∷ found.window.bounds.shortest.0 ∷ found.window.bounds.longest.0
    ∷ found.window.bounds.fewest.0 ∷ found.window.bounds.most.0
    ∷ found.window.ect.0 ∷ found.window.lct.0
    ∷ triple_and found.by.earliest (triple_and found.by.latest
    (triple_and found.by.shortest (triple_and found.by.longest
    (triple_and found.by.fewest (triple_and found.by.most [])))))

unfoldable pub rule_numbers : Answer (Option Witnessed) → List ℕ
rule_numbers (refused f) = f.number ∷ f.place ∷ replicate 27 0
rule_numbers (answered None) = replicate 29 0
rule_numbers (answered (Some found)) = window_numbers found

-- the makespan
unfoldable pub schedule_numbers : Answer ℕ → List ℕ
schedule_numbers (refused f) = f.number ∷ f.place ∷ 0 ∷ []
schedule_numbers (answered end) = 0 ∷ 0 ∷ end ∷ []

-- the number of steps; whether the last said impossible
unfoldable pub log_numbers : Answer Accepted → List ℕ
log_numbers (refused f) = f.number ∷ f.place ∷ 0 ∷ 0 ∷ []
log_numbers (answered a) = 0 ∷ 0 ∷ a.steps ∷ one_if a.impossible ∷ []

-- the count, with 32 too; whether the run ended impossible
unfoldable pub filter_numbers : FilterAnswer → List ℕ
filter_numbers (refused_by f) = f.number ∷ f.place ∷ 0 ∷ 0 ∷ []
filter_numbers (no_room_for f n) = f.number ∷ f.place ∷ n ∷ 0 ∷ []
filter_numbers (settled_after n) = 0 ∷ 0 ∷ n ∷ 0 ∷ []
filter_numbers (impossible_after n) = 0 ∷ 0 ∷ n ∷ 1 ∷ []

-- H, how many rooms, how many calendars, how many tasks, how many pairs
unfoldable pub read_numbers : Answer PlanRead → List ℕ
read_numbers (refused f) = f.number ∷ f.place ∷ 0 ∷ 0 ∷ 0 ∷ 0 ∷ 0 ∷ []
read_numbers (answered a) = 0 ∷ 0 ∷ a.hours ∷ a.rooms ∷ a.calendars ∷ a.tasks ∷ a.pairs ∷ []

-- the length of the text
unfoldable pub write_numbers : Answer ℕ → List ℕ
write_numbers (refused f) = f.number ∷ f.place ∷ 0 ∷ []
write_numbers (answered n) = 0 ∷ 0 ∷ n ∷ []
