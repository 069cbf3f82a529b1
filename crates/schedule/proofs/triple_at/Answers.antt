use mathlib.Core.Path.{refl}
use Rattle.schedule.specs.Schedule.{triple_at}
use Rattle.schedule.proofs.triple_at.Goals as goal

pub returns : goal.returns
unfolding triple_at
returns c = refl
