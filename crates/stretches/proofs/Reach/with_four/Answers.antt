use mathlib.Core.Path.{refl}
use native.Mathlib.Omega.{arith}
use Rattle.plan.specs.Calendars.{letters_in}
use Rattle.stretches.specs.Inner.Stretches.{with_next}
use Rattle.stretches.proofs.Fours.{code-next}
use Rattle.stretches.proofs.Reach.with_four.Goals as goal

pub returns : goal.returns
returns c =
    let cal = letters_in c.args.calendar.now in
    let r = c.args.self in
    let r₁ = with_next cal r in
    let r₂ = with_next cal r₁ in
    let one = code-next cal r r _ refl (omega (arith, c.requires.0)) c.code_at.ensures c.with_next.ensures in
    let two = code-next cal r₁ _ _ one (omega (arith, c.requires.0)) c.code_at-2.ensures c.with_next-2.ensures in
    let three = code-next cal r₂ _ _ two (omega (arith, c.requires.0)) c.code_at-3.ensures c.with_next-3.ensures in
    code-next cal (with_next cal r₂) _ _ three (omega (arith, c.requires.0)) c.code_at-4.ensures c.with_next-4.ensures
