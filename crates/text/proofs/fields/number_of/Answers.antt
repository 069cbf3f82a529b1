use mathlib.Core.Path.{sym, ap, ◌∙◌}
use Rattle.std.specs.Prelude.{Some}
use Prim.Native.Nat.{◌+◌, ◌-◌, ◌*◌}
use native.Mathlib.Omega.{arith}
use lib.ListN.{get_or, drop}
use Rattle.text.proofs.Numbers.{number-empty, empty-is, not-empty, digit_is, number_digits, number-plain, number-large}
use Rattle.text.proofs.Numbers.{number_is, digits-next, digits-not, digits-end}
use Rattle.text.proofs.Numbers.{decimal_step, decimal-end, decimal-least}
use Rattle.text.proofs.fields.number_of.Goals.{then-is_empty-via-then-is_empty, then-is_empty-via-else-is_empty+then-not-is_plain}
use Rattle.text.proofs.fields.number_of.Goals as goal

pub returns-then-not-is_ascii_digit : goal.returns-then-not-is_ascii_digit
returns-then-not-is_ascii_digit c =
    let l = c.args.field.now in
    let i = c.loop-digit.digit-index in
    let other = digit_is _ ∙ sym c.is_ascii_digit.ensures.value ∙ c.if-not-is_ascii_digit.true in
    sym (number_digits l (sym c.loop-digit.invariant.2 ∙ digits-not l i (omega arith) other))

-- the number with its next digit, and more digits make no smaller number
pub returns-then-number-gt-MOST_NUMBER : goal.returns-then-number-gt-MOST_NUMBER
returns-then-number-gt-MOST_NUMBER c =
    let l = c.args.field.now in
    let i = c.loop-digit.digit-index in
    let n = c.loop-digit.number in
    let more = decimal-least (n * 10 + (get_or l i 0 - 48)) (drop (i + 1) l) in
    sym (number-large l (omega (arith, c.loop-digit.invariant.3, decimal_step l i n (omega arith), more)))

pub loop-digit-preserved : goal.loop-digit-preserved
loop-digit-preserved c =
    let digit = digit_is _ ∙ sym c.is_ascii_digit.ensures.value ∙ c.if-not-is_ascii_digit.false in (
      omega arith,
      omega arith,
      sym (digits-next _ c.loop-digit.digit-index (omega arith) digit) ∙ c.loop-digit.invariant.2,
      sym (decimal_step _ c.loop-digit.digit-index _ (omega arith)) ∙ c.loop-digit.invariant.3,
    )

pub returns : goal.returns
returns c =
    let n = sym c.loop-digit.invariant.3 ∙ decimal-end _ c.loop-digit.digit-index _ c.loop-digit-test.false in
    let digits = sym c.loop-digit.invariant.2 ∙ digits-end _ c.loop-digit.digit-index c.loop-digit-test.false in
    let some_byte = not-empty _ (sym c.is_empty.ensures ∙ c.if-is_empty.false) in
    let plain = sym c.is_plain.ensures ∙ c.if-not-is_plain.false in
    sym (number_is _ some_byte digits plain (omega (arith, n)) ∙ ap Some n)

pub returns-then-is_empty : goal.returns-then-is_empty
returns-then-is_empty c =
    elim c.then-is_empty.branch [
      | then-is_empty-via-then-is_empty w ↦ sym (number-empty _ (empty-is _ (sym c.is_empty.ensures ∙ w.if-is_empty.true)))
      | then-is_empty-via-else-is_empty+then-not-is_plain w ↦ sym (number-plain _ (sym w.is_plain.ensures ∙ w.if-not-is_plain.true))
    ]
