-- Refusals: a number and a place (01, "Refused because of the input" and "Refused because of the state"; 33: 02, W-201; 17: W-202;
-- 18 to 20: W-206; 21: W-208).
use Rattle.std.specs.Prelude.{Bool, not, ℕ}
use Rattle.std.specs.Prelude.{Option, None, Some, Result, Ok, Err}
use Rattle.units.specs.Choice.{some_if}
use Rattle.plan.specs.declared.Refusal.{Refusal}
use Rattle.plan.specs.declared.Refusal.TheVariants.{Malformed, Hours, Calendars, Symbol, Tasks, NoCalendar, WorkTime, TaskHeight, TaskBounds}
use Rattle.plan.specs.declared.Refusal.TheVariants.{Capacity, UnknownStep, NotAdmitted, AfterImpossible, OutsideBounds, NotValid, OverCapacity}
use Rattle.plan.specs.declared.Refusal.TheVariants.{Rooms, PairTasks, Pairs, PairBroken, Packing, MemorySize, OutputSize}
use Rattle.plan.specs.declared.Fault.{Fault}

-- of the code: a number and a place
abbrev pub fault : ℕ → ℕ → Fault
fault number place = record { number = number; place = place }

-- a test that must hold, with the number and the place of its refusal
unfoldable pub unless : Bool → ℕ → ℕ → Option Fault
unless test number place = some_if (not test) (fault number place)

-- What an entry point comes to: a refusal, or what it answers.
pub data Answer (A : Type 0) : Type 0 where
  refused : Fault → Answer A
  answered : A → Answer A

unfoldable pub on_answer : {A B : Type 0} → Answer A → (Fault → B) → (A → B) → B
on_answer (refused f) g h = g f
on_answer (answered a) g h = h a

-- the answer, unless there is a fault
unfoldable pub answer_unless : {A : Type 0} → Option Fault → A → Answer A
answer_unless None a = answered a
answer_unless (Some f) a = refused f

-- the number and the place of each refusal; a place that 01 does not name is 0
abbrev pub fault_of : Refusal → Fault
fault_of (Malformed line) = fault 1 line
fault_of Hours = fault 2 0
fault_of Calendars = fault 3 0
fault_of (Symbol index) = fault 4 index
fault_of Tasks = fault 5 0
fault_of (NoCalendar task) = fault 6 task
fault_of (WorkTime task) = fault 7 task
fault_of (TaskHeight task) = fault 8 task
fault_of (TaskBounds task) = fault 9 task
fault_of Capacity = fault 10 0
fault_of (UnknownStep step) = fault 11 step
fault_of (NotAdmitted step) = fault 12 step
fault_of (AfterImpossible step) = fault 13 step
fault_of (OutsideBounds task) = fault 14 task
fault_of (NotValid task) = fault 15 task
fault_of (OverCapacity hour) = fault 16 hour
fault_of Rooms = fault 17 0
fault_of (PairTasks pair) = fault 18 pair
fault_of Pairs = fault 19 0
fault_of (PairBroken pair) = fault 20 pair
fault_of (Packing calendar) = fault 21 calendar
fault_of MemorySize = fault 31 0
fault_of OutputSize = fault 33 0

-- what an entry point answers, where its values need no other words
abbrev pub answer_of : {A : Type 0} → Result A Refusal → Answer A
answer_of (Ok a) = answered a
answer_of (Err r) = refused (fault_of r)

-- what the plan's tests answer
abbrev pub tested_fault : {A : Type 0} → Result A Refusal → Option Fault
tested_fault (Ok _) = None
tested_fault (Err r) = Some (fault_of r)
