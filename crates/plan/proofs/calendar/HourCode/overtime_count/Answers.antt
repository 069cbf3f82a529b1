use mathlib.Core.Path.{◌∙◌}
use Prim.Native.Nat.{◌≤◌}
use native.Mathlib.Omega.{arith}
use Rattle.plan.proofs.Codes.{counts-overtime}
use Rattle.plan.proofs.calendar.HourCode.overtime_count.Goals as goal

pub returns : goal.returns
returns c =
    let small : c.args.self.number ≤ 2 = c.args.self.kind in
    (c.from.ensures ∙ counts-overtime c.args.self.number small, omega (arith, c.from.ensures, small))
