-- What the tests of a schedule find in memory. Only the contract of a private function cites it.
use Rattle.std.specs.Prelude.{List, ℕ}
use Rattle.std.specs.Prelude.{Option}
use Rattle.units.specs.Choice.{◌or_else◌}
use Rattle.plan.specs.declared.Fault.{Fault}
use Rattle.plan.specs.Over.{PackedPlan, unpacked, memory_fault}
use Rattle.schedule.specs.Schedule.{triple_at}
use Rattle.schedule.specs.Entry.{is_right_memory, schedule_fault}

-- 31, the plan's tests in memory, the schedule's
unfoldable pub packed_check_fault : PackedPlan → List ℕ → List ℕ → Option Fault
packed_check_fault P boxes schedule =
    memory_fault (is_right_memory P boxes schedule) P boxes or_else schedule_fault (unpacked P) boxes (triple_at schedule)
