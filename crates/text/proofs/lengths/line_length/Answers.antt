use mathlib.Core.Path.{◌≡◌}
use native.Mathlib.Omega.{arith}
use lib.ListN.{length}
use lib.Seq.{take-length}
use Rattle.text.specs.Lines.{number_fields}
use Rattle.text.proofs.Lines.{fields-longer, line-length}
use Rattle.text.proofs.lengths.line_length.Goals as goal

pub loop-number-init : goal.loop-number-init
unfolding number_fields
loop-number-init c = (omega arith, omega arith, omega arith)

pub loop-number-preserved : goal.loop-number-preserved
loop-number-preserved c =
    let longer = fields-longer c.args.numbers.now c.loop-number.number-index c.loop-number-test.true in
    let digits = c.decimal_length.ensures in
    (omega arith, omega (arith, c.loop-number.invariant.1, longer, digits.0), omega (arith, c.loop-number.invariant.2, digits.1))

pub returns : goal.returns
returns c =
    let all : c.loop-number.number-index ≡ length c.args.numbers.now = omega arith in
    let bytes = rw (all, take-length) at c.loop-number.invariant.1 in
    (omega (arith, bytes, line-length c.args.word.now c.args.numbers.now), omega (arith, c.requires, c.loop-number.invariant.2))
