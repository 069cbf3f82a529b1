use native.Mathlib.Omega.{arith}
use Rattle.step_log.proofs.Checking.{core-checked}
use Rattle.step_log.proofs.part.Part.check.Goals as goal

pub returns : goal.returns
returns c =
    core-checked _ _ _ _ _ (omega (arith, c.well_formed)) (omega (arith, c.well_formed)) (omega (arith, c.well_formed))
    c.check_from.result _ c.check_from.ensures
