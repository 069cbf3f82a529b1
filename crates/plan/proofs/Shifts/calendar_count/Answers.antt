use mathlib.Core.Path.{sym, ap, ◌∙◌}
use Prim.Native.Nat.{ℕ, ◌/◌}
use native.Mathlib.Omega.{arith}
use lib.ListN.{length}
use Rattle.plan.proofs.Bytes.{some-bytes}
use Rattle.plan.proofs.Letters.{letters-count}
use Rattle.plan.proofs.Shifts.calendar_count.Goals as goal

pub nonzero_div-result : goal.nonzero_div-result
nonzero_div-result c = omega (arith, c.bytes_of.ensures.0, some-bytes c.args.self.now.hours.0 c.requires)

pub returns : goal.returns
returns c =
    ap (λ (n : ℕ). length c.args.self.now.calendars.now / n) c.bytes_of.ensures.0
    ∙ sym (letters-count c.args.self.now.hours.0 c.args.self.now.calendars.now c.requires)
