use mathlib.Core.Path.{◌≡◌}
use Prim.Native.Nat.{◌≤◌}
use Rattle.units.specs.Sums.{max_to}
use Rattle.calendar.specs.Triples.{end_of}
use Rattle.schedule.specs.Schedule.{triple_at}
use Rattle.schedule.proofs.Scheduled.latest_end.Given as goal

abbrev pub invariant-loop-i : goal.invariant-loop-i
invariant-loop-i l = (l.i ≤ l.tasks) × (l.latest.0 ≡ max_to (λ j. end_of (triple_at l.self.schedule.now j)) l.i)
