use mathlib.Core.Path.{◌∙◌}
use native.Mathlib.Omega.{arith}
use Rattle.plan.proofs.Codes.{counts-regular}
use Rattle.plan.proofs.calendar.HourCode.regular_count.Goals as goal

pub returns : goal.returns
returns c = (c.from.ensures ∙ counts-regular c.args.self.number c.args.self.kind, omega (arith, c.from.ensures))
