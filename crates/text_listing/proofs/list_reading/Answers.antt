use mathlib.Core.Path.{ap, ◌∙◌}
use Prim.Native.Nat.{◌*◌}
use lib.ListN.{take}
use Rattle.plan.specs.Packed.{bytes_of}
use Rattle.plan.specs.Over.{PackedPlan}
use Rattle.text_listing.specs.Program.{empty_memory, read_end, plan_listing}
use Rattle.text_listing.proofs.Programs.{put_as, text-refused, text-read}
use Rattle.text_listing.proofs.list_reading.Goals as goal

pub returns-in-Err : goal.returns-in-Err
unfolding empty_memory read_end bytes_of
returns-in-Err c =
    λ text read.
    put_as _ (text-refused text _ _ _ _ _ _ _ _ (c.in-Err.ensures.reads text read)) c.list_refusal.ensures.0 c.list_refusal.ensures.1

pub returns-in-Ok : goal.returns-in-Ok
unfolding empty_memory read_end bytes_of
returns-in-Ok c =
    λ text read.
    let listed =
    ap (λ (P : PackedPlan). plan_listing P (take (6 * c.in-Ok.read.tasks) c.finish.new.boxes)) c.plan.ensures.parts
    ∙ text-read text _ _ _ _ _ _ _ _ (c.in-Ok.ensures.reads text read) in
    put_as _ listed c.list_plan.ensures.0 c.list_plan.ensures.1
