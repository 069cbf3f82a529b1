use mathlib.Core.Path.{◌≡◌}
use mathlib.Core.Bool.{false}
use Prim.Native.Nat.{ℕ, ◌≤◌, ◌<◌}
use Rattle.units.specs.Choice.{some_of}
use Rattle.plan.specs.Lent.{plan_in}
use Rattle.turns.specs.Inner.Kept.{excess_in}
use Rattle.turns.proofs.State.pass_hours.Given as goal

abbrev pub invariant-loop-room : goal.invariant-loop-room
invariant-loop-room l =
    let P = plan_in l.self.plan.now in
    (l.from.0 ≤ l.passed) × (l.passed ≤ l.fn.end.0)
    × ((t : ℕ) → l.from.0 ≤ t → t < l.passed → some_of (excess_in P l.self.fits.now l.w l.i t) l.room ≡ false)
