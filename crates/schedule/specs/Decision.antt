-- 01, demand 2: the schedule checker accepts exactly the feasible schedules, with the makespan. The plan is one in memory (02, W-208): its tests are
-- those of the packed calendars and of all else, and a schedule is feasible by their letters.
use Rattle.std.specs.Prelude.{◌≡◌, ◌↔◌, true, List, ℕ}
use Rattle.plan.specs.Over.{PackedPlan, unpacked, PackedPasses}
use Rattle.plan.specs.Refusals.{Answer, answered}
use Rattle.schedule.specs.Schedule.{triple_at, Feasible, makespan}
use Rattle.schedule.specs.Entry.{is_right_memory}

-- 31 does not apply
abbrev pub RightSize : PackedPlan → List ℕ → List ℕ → Type 0
RightSize P boxes schedule = is_right_memory P boxes schedule ≡ true

pub record Decides (P : PackedPlan) (boxes schedule : List ℕ) (answer : Answer ℕ) : Type 0 where
  -- a plan that passes the tests, with memory of the right size: exactly the feasible schedules, with the makespan
  pub exactly : RightSize P boxes schedule → PackedPasses P boxes → (m : ℕ)
      → (answer ≡ answered m) ↔ (Feasible (unpacked P) boxes (triple_at schedule) × (m ≡ makespan (unpacked P) (triple_at schedule)))
  -- any other input is refused
  pub accepted : (m : ℕ) → answer ≡ answered m → RightSize P boxes schedule × PackedPasses P boxes
