use mathlib.Core.Path.{◌≡◌}
use Prim.Native.Nat.{◌-◌}
use lib.ListN.{length}
use Rattle.plan.specs.Calendars.{letters_in}
use Rattle.stretches.specs.Inner.Stretches.{IsReach, shortest_at, lengthened}
use Rattle.stretches.proofs.Task.worked_on.Given as goal

abbrev pub invariant-loop-at : goal.invariant-loop-at
invariant-loop-at l =
    let cal = letters_in l.self.calendar in
    let test = shortest_at cal l.self.work_time.0 l.self.bounds l.fn.s.0 in
    IsReach cal l.fn.s.0 l.at × (lengthened cal l.fn.s.0 test (l.at.end.0 - l.fn.s.0) ≡ lengthened cal l.fn.s.0 test (l.initial.at.end.0 - l.fn.s.0))

abbrev pub decreases-loop-at : goal.decreases-loop-at
decreases-loop-at l = length (letters_in l.self.calendar) - l.at.end.0
