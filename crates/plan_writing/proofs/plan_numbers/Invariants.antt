use mathlib.Core.List.{◌∷◌}
use mathlib.Core.Path.{◌≡◌}
use Prim.Native.Nat.{◌+◌, ◌≤◌}
use lib.ListN.{length, take}
use Rattle.plan_writing.proofs.plan_numbers.Given as goal

abbrev pub invariant-loop-room : goal.invariant-loop-room
invariant-loop-room l =
    (l.room ≤ length l.plan.capacities.now)
    × (length l.numbers ≡ 9)
    × (take (l.room + 1) l.numbers ≡ l.plan.shifts.hours.0 ∷ take l.room l.plan.capacities.now)
