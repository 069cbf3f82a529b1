use mathlib.Core.Path.{refl}
use native.Mathlib.Omega.{arith}
use Rattle.step_log.specs.Inner.Parts.{part_steps}
use Rattle.step_log.proofs.Copying.{steps-more}
use Rattle.step_log.proofs.part.Part.push.Goals as goal

pub returns : goal.returns
unfolding part_steps
returns c = (
  steps-more _ _ _ _ _ (omega (arith, c.requires, c.well_formed)) (omega (arith, c.requires, c.well_formed))
      (omega (arith, c.requires, c.well_formed)),
  refl,
)
