-- The schedule checker as an entry point (01, "Refused because of the input", and the order below it; rooms: 02, W-202; pairs: W-206; packed calendars:
-- W-208).
use Rattle.std.specs.Prelude.{Bool, List, ℕ, ◌*◌, leb, eqb, length}
use Rattle.std.specs.Prelude.{Option, Result, Ok, Err}
use Rattle.units.specs.Choice.{◌and◌, ◌or_else◌, first_of}
use Rattle.plan.specs.Plan.{Shifts, Plan, room_count, task_count, pair_count, calendar_of, work_time_of, capacity_of, pair_of}
use Rattle.plan.specs.Boxes.{bounds_at}
use Rattle.plan.specs.declared.Fault.{Fault}
use Rattle.plan.specs.Refusals.{unless, Answer, refused, answered, fault_of, answer_unless}
use Rattle.plan.specs.Faults.{is_right_size, plan_fault}
use Rattle.plan.specs.Over.{PackedPlan, unpacked, over_letters}
use Rattle.units.specs.declared.Bounds.{Bounds}
use Rattle.calendar.specs.declared.Triple.{Triple}
use Rattle.calendar.specs.Triples.{triple_numbers, valid_triple, in_bounds}
use Rattle.plan.specs.declared.Refusal.{Refusal}
use Rattle.units.specs.declared.Hour.{Hour}
use Rattle.schedule.specs.Schedule.{triple_at, running, in_turn, makespan}

-- task by task 14, 15: of task i, by its calendar, its work time p, its box and its triple
unfoldable pub one_triple_fault : List ℕ → ℕ → Bounds → ℕ → Triple → Option Fault
one_triple_fault cal p b i x = unless (in_bounds b x) 14 i or_else unless (valid_triple cal p x) 15 i

unfoldable pub triple_fault : Shifts → List ℕ → (ℕ → Triple) → ℕ → Option Fault
triple_fault S boxes σ i = one_triple_fault (calendar_of S i) (work_time_of S i) (bounds_at boxes i) i (σ i)

-- 16, in a room; in any
unfoldable pub room_fault : Plan → (ℕ → Triple) → ℕ → ℕ → Option Fault
room_fault P σ t room = unless (leb (running P room σ t) (capacity_of P room)) 16 t

unfoldable pub hour_fault : Plan → (ℕ → Triple) → ℕ → Option Fault
hour_fault P σ t = first_of (room_fault P σ t) (room_count P)

-- 20, of pair k
unfoldable pub order_fault : Plan → (ℕ → Triple) → ℕ → Option Fault
order_fault P σ k = unless (in_turn (pair_of P k) σ) 20 k

-- the tasks, 16 at the first such hour, and at last 20 at the first such pair
unfoldable pub schedule_fault : Plan → List ℕ → (ℕ → Triple) → Option Fault
schedule_fault P boxes σ =
    first_of (triple_fault P.shifts boxes σ) (task_count P)
    or_else first_of (hour_fault P σ) P.shifts.hours
    or_else first_of (order_fault P σ) (pair_count P)

-- one triple for each task
unfoldable pub is_sized : ℕ → List ℕ → Bool
is_sized tasks schedule = eqb (length schedule) (triple_numbers * tasks)

-- 31, the plan's tests, the schedule's
unfoldable pub check_fault : Plan → List ℕ → List ℕ → Option Fault
check_fault P boxes schedule =
    unless (is_right_size P boxes and is_sized (task_count P) schedule) 31 0
    or_else plan_fault P boxes
    or_else schedule_fault P boxes (triple_at schedule)

-- accepted with the makespan
unfoldable pub check_schedule : Plan → List ℕ → List ℕ → Answer ℕ
check_schedule P boxes schedule = answer_unless (check_fault P boxes schedule) (makespan P (triple_at schedule))

-- the same of a plan in memory, whose calendars are packed (02, W-208); 31 does not apply
abbrev pub is_right_memory : PackedPlan → List ℕ → List ℕ → Bool
is_right_memory P boxes schedule = is_right_size (unpacked P) boxes and is_sized (task_count (unpacked P)) schedule

unfoldable pub check_packed : PackedPlan → List ℕ → List ℕ → Answer ℕ
check_packed P boxes schedule = over_letters (is_right_memory P boxes schedule) P refused (λ Q. check_schedule Q boxes schedule)

-- the number and the values of each case of the answer
abbrev pub schedule_answer : Result Hour Refusal → Answer ℕ
schedule_answer (Ok end) = answered end.0
schedule_answer (Err r) = refused (fault_of r)
