use mathlib.Core.Path.{sym, ap, ◌∙◌}
use Prim.Native.Nat.{◌≤◌}
use native.Mathlib.Omega.{arith}
use lib.ListN.{length}
use Rattle.plan.specs.Lent.{packed_in}
use Rattle.plan.proofs.Over.{input-passed}
use Rattle.plan.proofs.Refusals.{handed-on, refused-on}
use Rattle.plan_format.specs.Writing.{most_text, write_end}
use Rattle.plan_format.proofs.Writings.{writes-refused, writes_short, writes-text}
use Rattle.plan_format.proofs.Size.{text-size}
use Rattle.plan_format.proofs.Again.{writes-hold}
use Rattle.plan_writing.proofs.write_plan.Goals as goal

pub returns-in_err-tested : goal.returns-in_err-tested
returns-in_err-tested c =
    let P = packed_in c.args.plan.now in
    let first = writes-refused P c.args.boxes.now c.args.out.now (sym c.in_err-tested.ensures.tests) in
    let told = ap (λ a. write_end a c.args.out.now) (refused-on _ _ c.from_residual.ensures.1) in
    let (answer, back, letters) = writes-hold P c.args.boxes.now c.args.out.now c.are_bytes.ensures _ _ (told ∙ first) in
    record { answer = answer; back = back; room = λ l. handed-on _ _ c.from_residual.ensures.1 ∙ c.in_err-tested.ensures.tests; letters = letters }

pub returns-then-out-text_length : goal.returns-then-out-text_length
returns-then-out-text_length c =
    let P = packed_in c.args.plan.now in
    let lent = c.in_ok-tested.ensures.lends in
    let long = rw (lent.0, lent.1) at c.text_length.ensures in
    let first = writes_short P c.args.boxes.now c.args.out.now (sym c.in_ok-tested.ensures.tests) (omega (arith, c.if-out-text_length.true, long)) in
    let (answer, back, letters) = writes-hold P c.args.boxes.now c.args.out.now c.are_bytes.ensures _ _ first in
    let fits : (most_text ≤ length c.args.out.now) → ⊥ =
    λ l. omega (arith, l, long, c.if-out-text_length.true, text-size _ c.args.boxes.now (input-passed P c.args.boxes.now (sym c.in_ok-tested.ensures.tests)))
    in
    record { answer = answer; back = back; room = λ l. absurd (fits l); letters = letters }

pub returns : goal.returns
returns c =
    let P = packed_in c.args.plan.now in
    let lent = c.in_ok-tested.ensures.lends in
    let long = rw (lent.0, lent.1) at c.text_length.ensures in
    let put = rw (lent.0, lent.1) at c.put_text.ensures in
    let first = writes-text P c.args.boxes.now c.args.out.now (sym c.in_ok-tested.ensures.tests) (omega (arith, c.if-out-text_length.false, long)) put in
    let (answer, back, letters) = writes-hold P c.args.boxes.now c.args.out.now c.are_bytes.ensures _ _ first in
    record { answer = answer; back = back; room = λ l. c.in_ok-tested.ensures.tests; letters = letters }
