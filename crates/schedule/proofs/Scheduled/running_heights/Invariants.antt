use mathlib.Core.Path.{◌≡◌}
use Prim.Native.Nat.{◌≤◌}
use lib.ListN.{length}
use Rattle.units.specs.Sums.{sum_where}
use Rattle.plan.specs.Plan.{height_of}
use Rattle.plan.specs.Lent.{plan_in}
use Rattle.schedule.specs.Schedule.{triple_at, runs}
use Rattle.schedule.proofs.Scheduled.running_heights.Given as goal

abbrev pub invariant-loop-i : goal.invariant-loop-i
invariant-loop-i l = (l.i ≤ length l.heights)
    × (l.sum.0 ≡ sum_where (λ j. runs (triple_at l.self.schedule.now j) l.hour.0) (height_of (plan_in l.self.tested.plan.now) l.room) l.i)
