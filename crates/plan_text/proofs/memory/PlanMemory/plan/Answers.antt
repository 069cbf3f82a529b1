use mathlib.Core.Path.{◌≡◌, refl}
use Prim.Native.Nat.{◌*◌}
use native.Mathlib.Omega.{arith}
use Rattle.plan.specs.Packed.{bytes_of}
use Rattle.plan.specs.Plan.{first_symbol}
use Rattle.plan_text.proofs.Judging.{bytes-within}
use Rattle.plan_text.proofs.memory.PlanMemory.plan.Goals as goal

pub shared_ref_as_front-new-2 : goal.shared_ref_as_front-new-2
unfolding first_symbol
shared_ref_as_front-new-2 c =
    let bytes : c.first_byte-bytes.result ≡ c.args.read.calendars * bytes_of c.args.read.hours = c.first_byte-bytes.ensures in
    omega (arith, bytes, bytes-within c.args.read.calendars c.args.read.hours _ c.requires.2 c.requires.0 refl)
