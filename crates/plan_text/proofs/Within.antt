-- What was read is within the limits of a plan. Assumes nothing.
use mathlib.Core.Path.{◌≡◌, ap}
use mathlib.Core.List.{List}
use Prim.Native.Nat.{ℕ}
use Rattle.std.specs.Prelude.{Result, Ok, Err, IfOk}
use Rattle.plan.specs.declared.Refusal.{Refusal}
use Rattle.plan_format.specs.Reading.{ReadEnd, end_with, read_plan}
use Rattle.plan_format.proofs.Holding.{read-holds}
use Rattle.plan_text.specs.Entry.{reading_answer}
use Rattle.plan_text.specs.Limits.{WithinLimits}
use Rattle.plan_text.specs.declared.PlanRead.{PlanRead}

pub within : (rs cs ts ws hs ps bs text : List ℕ) (told : Result PlanRead Refusal) {rs' cs' ts' ws' hs' ps' bs' : List ℕ}
    → end_with (reading_answer told) rs' cs' ts' ws' hs' ps' bs' ≡ read_plan rs cs ts ws hs ps bs text → IfOk told WithinLimits
within rs cs ts ws hs ps bs text (Err refusal) e = tt
within rs cs ts ws hs ps bs text (Ok read) e =
    let held = read-holds _ _ _ _ _ _ _ text _ (ap (λ (x : ReadEnd). x.answer) e) in
    (held.hours, held.rooms, held.calendars, held.tasks, held.pairs)
