-- A plan in memory, whose calendars are packed, and what is answered of it: what is answered of the plan with their letters, unless memory is of the
-- wrong size, or H or the packed calendars do not pass (02, W-208).
use Rattle.std.specs.Prelude.{Bool, true, ◌≡◌, List, ℕ, ◌*◌, ◌≤◌, ◌<◌, length}
use Rattle.std.specs.Prelude.{Option, None}
use Rattle.units.specs.Choice.{◌or_else◌, on_option}
use Rattle.units.specs.Lists.{list_to, joined}
use Rattle.plan.specs.Plan.{Plan, plan, calendar_count, calendar_at}
use Rattle.plan.specs.HourKinds.{is_symbol}
use Rattle.plan.specs.Packed.{letters, packed}
use Rattle.plan.specs.declared.Fault.{Fault}
use Rattle.plan.specs.Refusals.{unless}
use Rattle.plan.specs.Faults.{packed_fault, plan_fault}

-- a plan as it lies in memory: as a plan, but its calendars are packed
pub record PackedPlan : Type 0 where
  pub hours : ℕ
  pub capacities : List ℕ
  pub calendars : List ℕ
  pub task_calendars : List ℕ
  pub work_times : List ℕ
  pub heights : List ℕ
  pub pairs : List ℕ

abbrev pub packed_plan : ℕ → List ℕ → List ℕ → List ℕ → List ℕ → List ℕ → List ℕ → PackedPlan
packed_plan hours capacities calendars task_calendars work_times heights pairs =
    record {
      hours = hours;
      capacities = capacities;
      calendars = calendars;
      task_calendars = task_calendars;
      work_times = work_times;
      heights = heights;
      pairs = pairs;
    }

-- the plan with the letters of its calendars
abbrev pub unpacked : PackedPlan → Plan
unpacked P = plan P.hours P.capacities (letters P.hours P.calendars) P.task_calendars P.work_times P.heights P.pairs

-- An entry point's answer: 31 if memory is not of the right size, 2, 3, 21; else its answer of the plan with the letters.
unfoldable pub over_letters : {A : Type 0} → Bool → PackedPlan → (Fault → A) → (Plan → A) → A
over_letters sized P refuse answer = on_option (unless sized 31 0 or_else packed_fault P.hours P.calendars) (answer (unpacked P)) refuse

-- the plan's tests in memory: 2, 3, 21, then those of the letters, of which 2, 3 and 4 cannot apply any more; 31 before all others
unfoldable pub packed_plan_fault : PackedPlan → List ℕ → Option Fault
packed_plan_fault P boxes = packed_fault P.hours P.calendars or_else plan_fault (unpacked P) boxes

unfoldable pub memory_fault : Bool → PackedPlan → List ℕ → Option Fault
memory_fault sized P boxes = unless sized 31 0 or_else packed_plan_fault P boxes

-- a plan in memory passes the tests if none of 2, 3, 21, 5 to 10 and 17 to 19 applies to it
abbrev pub PackedPasses : PackedPlan → List ℕ → Type 0
PackedPasses P boxes = packed_plan_fault P boxes ≡ None

-- a plan's calendars are of H letters each, and each letter is r, c or o
pub record IsLettered (Q : Plan) : Type 0 where
  pub some_hours : 1 ≤ Q.shifts.hours
  pub whole : length Q.shifts.calendars ≡ calendar_count Q.shifts * Q.shifts.hours
  pub symbols : (k : ℕ) → k < length Q.shifts.calendars → is_symbol Q.shifts.calendars k ≡ true

-- such a plan as it lies in memory: each calendar packed, from a new byte
unfoldable pub packed_of : Plan → PackedPlan
packed_of Q =
    packed_plan Q.shifts.hours Q.capacities (joined (list_to (λ k. packed (calendar_at Q.shifts k)) (calendar_count Q.shifts)))
    Q.shifts.task_calendars Q.shifts.work_times Q.heights Q.pairs

-- Every answer over packed calendars equals the one over letters: the answer of a plan in memory is the answer over letters of any plan whose
-- calendars, packed, lie there. (Of no hours there are no such calendars; such a plan is refused by 31 or 2 either way.)
abbrev pub SameOverLetters : {A : Type 0} → PackedPlan → A → (Plan → A) → Type 0
SameOverLetters P answer over = (Q : Plan) → IsLettered Q → P ≡ packed_of Q → answer ≡ over Q
