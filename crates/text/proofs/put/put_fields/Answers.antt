use mathlib.Core.Path.{refl, ◌∙◌}
use native.Mathlib.Omega.{arith}
use Rattle.text.specs.Lines.{number_fields}
use Rattle.text.proofs.Puts.{put-none}
use Rattle.text.proofs.Lines.{fields-room, put-field-next}
use Rattle.text.proofs.put.put_fields.Goals as goal

pub loop-number-init : goal.loop-number-init
unfolding number_fields
loop-number-init c = (omega arith, refl, put-none _ _)

pub put_byte-digits-requires : goal.put_byte-digits-requires
put_byte-digits-requires c =
    omega (arith, c.requires, c.loop-number.invariant.2.place, fields-room c.args.numbers.now c.loop-number.number-index c.loop-number-test.true)

pub put_decimal-end-requires : goal.put_decimal-end-requires
put_decimal-end-requires c =
    omega (
      arith,
      c.requires,
      c.loop-number.invariant.2.place,
      c.put_byte-digits.ensures.place,
      c.put_byte-digits.auto.out,
      fields-room c.args.numbers.now c.loop-number.number-index c.loop-number-test.true,
    )

pub loop-number-preserved : goal.loop-number-preserved
loop-number-preserved c = (
  omega arith,
  c.put_decimal-end.auto.out ∙ c.put_byte-digits.auto.out ∙ c.loop-number.invariant.1,
  put-field-next c.args.numbers.now c.loop-number.number-index c.loop-number-test.true (omega (arith, c.requires))
      c.loop-number.invariant.2
      c.put_byte-digits.ensures
      c.put_decimal-end.ensures,
)
