use mathlib.Core.Path.{◌≡◌}
use Prim.Native.Nat.{◌-◌, ◌<◌}
use lib.ListN.{length}
use Rattle.plan.specs.Calendars.{letters_in}
use Rattle.stretches.specs.Inner.Stretches.{IsReach, longest_at, lengthened}
use Rattle.stretches.proofs.Task.lasted_on.Given as goal

abbrev pub invariant-loop-at : goal.invariant-loop-at
invariant-loop-at l =
    let cal = letters_in l.self.calendar in
    let s = l.fn.s.0 in
    let test = longest_at cal l.self.work_time.0 l.self.bounds s in
    IsReach cal s l.at × (s < l.at.end.0) × (lengthened cal s test (l.at.end.0 - s) ≡ lengthened cal s test 0)

abbrev pub decreases-loop-at : goal.decreases-loop-at
decreases-loop-at l = length (letters_in l.self.calendar) - l.at.end.0
