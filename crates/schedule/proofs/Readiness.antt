-- What the tests of a schedule lean on holds once the tests before them pass. Assumes nothing.
use mathlib.Core.Path.{◌≡◌, ap, ◌∙◌}
use mathlib.Core.List.{List}
use native.Mathlib.Omega.{arith}
use Prim.Native.Nat.{ℕ, ◌≤◌, ◌<◌}
use lib.ListN.{length, get_or}
use Rattle.units.specs.Limits.{most_hours, most_height}
use Rattle.plan.specs.Plan.{Plan, room_count, task_count, heights_of, height_of}
use Rattle.plan.specs.Over.{PackedPlan, PackedPasses}
use Rattle.plan.specs.Lent.{HasCalendar}
use Rattle.plan.specs.Passed.{Passed}
use Rattle.plan.proofs.Passed.{room-heights}
use Rattle.calendar.specs.Triples.{end_of}
use Rattle.calendar.proofs.Valid.{valid-facts}
use Rattle.schedule.specs.Schedule.{triple_at, Feasible}
use Rattle.schedule.specs.Decision.{RightSize}

-- memory of the right size, and a plan that passes
pub record InputPasses (P : PackedPlan) (boxes schedule : List ℕ) : Type 0 where
  pub size : RightSize P boxes schedule
  pub passes : PackedPasses P boxes

-- a task's calendar, as the code reads it
pub has-calendar : {P : Plan} {boxes : List ℕ} → Passed P boxes → {i : ℕ} → i < task_count P → HasCalendar P.shifts i
has-calendar p l =
    record { task = l; calendar = record { some_hours = p.some_hours; within = (p.task _ l).calendar; symbols = p.symbols } }

-- the heights in a room, as the code reads them: one a task, and so small that their sum fits
module _ {P : Plan} {boxes : List ℕ} (p : Passed P boxes) {room : ℕ} (l : room < room_count P) where
  pub one-each : {heights : List ℕ} → heights ≡ heights_of P room → length heights ≡ task_count P
  one-each e = ap length e ∙ room-heights P boxes p room l

  pub height-small : (i : ℕ) → i < task_count P → height_of P room i ≤ most_height
  height-small i m = (p.task i m).height room l

pub height-is : (P : Plan) (room : ℕ) {heights : List ℕ} → heights ≡ heights_of P room → (i : ℕ) → get_or heights i 0 ≡ height_of P room i
unfolding height_of
height-is P room e i = ap (λ (l : List ℕ). get_or l i 0) e

-- a feasible schedule's tasks end within the longest plan
pub end-small : {P : Plan} {boxes : List ℕ} (schedule : List ℕ) → Passed P boxes → Feasible P boxes (triple_at schedule)
    → (i : ℕ) → i < task_count P → end_of (triple_at schedule i) ≤ most_hours
end-small schedule p F i l = omega (arith, (valid-facts _ _ _ _ _ (F.fits i l)).ends, (p.task i l).calendar_length, p.hours)
