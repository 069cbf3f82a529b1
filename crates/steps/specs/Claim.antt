-- The whole claim about logs (01, "Steps", its last three paragraphs): over every plan, every list of step records and every room. What it says of
-- one call of the log checker, of one call of the filter, and of both as they are called on a plan that passes the tests.
use Rattle.std.specs.Prelude.{◌≡◌, ◌↔◌, Bool, true, false, List, ℕ, ◌+◌, ◌≤◌, ◌<◌, length}
use Rattle.std.specs.Prelude.{Option, None}
use Rattle.plan.specs.Plan.{Plan, task_count}
use Rattle.plan.specs.Boxes.{bounds_at}
use Rattle.plan.specs.declared.Fault.{Fault}
use Rattle.plan.specs.Refusals.{fault, Answer, refused, answered}
use Rattle.calendar.specs.declared.Triple.{Triple}
use Rattle.calendar.specs.Triples.{in_bounds}
use Rattle.schedule.specs.Schedule.{Feasible}
use Rattle.steps.specs.declared.Step.{Step}
use Rattle.steps.specs.Log.{LogEnd, log_end, AllAdmitted}
use Rattle.steps.specs.Filter.{Ending, settled, impossible, no_room, if_admitted}
use Rattle.steps.specs.declared.Accepted.{Accepted}
use Rattle.steps.specs.Entry.{check_answer, FilterAnswer, settled_after, impossible_after, ending_answer, FilterLeft}
use Rattle.steps.specs.Widths.{widths}

-- the run's last step said impossible
unfoldable pub said_impossible : Ending → Bool
said_impossible settled = false
said_impossible impossible = true
said_impossible no_room = false

-- The claim about a call of the log checker, as its contract carries it: what its own tests found, the log lent, the answer, and the boxes left in
-- the memory lent.
pub record CheckedHolds (P : Plan) (opening : List ℕ) (found : Option Fault) (log : List Step) (answer : Answer Accepted) (left : List ℕ) : Type 0 where
  -- for a plan that passes the tests and memory of the right size: accepted exactly when each step is admitted at its turn and nothing follows
  -- one that says impossible
  pub exactly : found ≡ None → ((a : Accepted) × (answer ≡ answered a)) ↔ AllAdmitted P opening log
  -- accepting, it answers the number of steps
  pub counted : (a : Accepted) → answer ≡ answered a → a.steps ≡ length log
  -- accepted or refused, a schedule that lies in the opening boxes and meets the definitions lies in the boxes left
  pub keeps : (σ : ℕ → Triple) → Feasible P opening σ → (i : ℕ) → i < task_count P → in_bounds (bounds_at left i) (σ i) ≡ true
  -- if a step said impossible, accepted as the last or followed by another (13), there is no such schedule
  pub no_schedule : (steps : ℕ) → answer ≡ answered (record { steps = steps; impossible = true }) → (σ : ℕ → Triple) → Feasible P opening σ → ⊥
  pub no_schedule_at : (k : ℕ) → answer ≡ refused (fault 13 k) → (σ : ℕ → Triple) → Feasible P opening σ → ⊥

-- The claim about a call of the filter, as its contract carries it: what the log checker makes of any log, called on the same plan and opening
-- boxes; the room lent; the answer, and the boxes and the log left in the memory lent, of which `first` gives so many steps. The filter's own log is
-- the first cells of the log lent, as many as its count.
pub record FilterHolds (P : Plan) (opening : List ℕ) (check : List Step → LogEnd) (room : ℕ) (answer : FilterAnswer) (left : List ℕ) (first : ℕ → List Step) :
    Type 0 where
  -- its own log is accepted by the checker, with its count, its boxes, and impossible exactly when it says so
  pub own : (e : Ending) (n : ℕ) → answer ≡ ending_answer e n → check (first n) ≡ log_end n (said_impossible e) left None
  -- the count is at most the room, and at most one more than the opening boxes' widths
  pub fits : (e : Ending) (n : ℕ) → answer ≡ ending_answer e n → n ≤ room
  pub short : (e : Ending) (n : ℕ) → answer ≡ ending_answer e n → n ≤ 1 + widths P opening
  -- settled: no step is admitted
  pub settles : (n : ℕ) → answer ≡ settled_after n → (x : Step) → if_admitted P left x ≡ None
  -- no feasible schedule is lost, and impossible is true
  pub keeps : (σ : ℕ → Triple) → Feasible P opening σ → (i : ℕ) → i < task_count P → in_bounds (bounds_at left i) (σ i) ≡ true
  pub no_schedule : (n : ℕ) → answer ≡ impossible_after n → (σ : ℕ → Triple) → Feasible P opening σ → ⊥

-- The claim about all calls on a plan that passes the tests, with boxes of the right number: what the log checker makes of any log lent to it, and
-- the filter of any log lent as its room.
pub record LogsHold (P : Plan) (opening : List ℕ) (check : List Step → LogEnd) (filter : List Step → FilterLeft) : Type 0 where
  -- no test refuses a log
  pub checks : (log : List Step) → CheckedHolds P opening None log (check_answer (check log)) (check log).boxes
  -- nor the filter: it ends settled, impossible or without room
  pub ends : (cells : List Step) → (e : Ending) × (n : ℕ) × ((filter cells).answer ≡ ending_answer e n)
  pub filters : (cells : List Step)
      → FilterHolds P opening check (length cells) (filter cells).answer (filter cells).boxes (filter cells).first
