use Rattle.std.proofs.Common.{rules, tests, ◌≡◌, ◌<◌, refl, sym, ap, ◌∙◌, arith, length, get_or}
use Rattle.std.proofs.lemmas.Iterator.Splits.{YieldsList-from_slice_split}
use Rattle.std.proofs.lemmas.Iterator.Consumers.{YieldsList-turn, YieldsList-end}
use Rattle.std.proofs.lemmas.List.{length_push}
use lib.Dec.{eqb}
use Rattle.text.specs.Fields.{tab, parts}
use Rattle.text.specs.Reading.{NumbersMade}
use Rattle.text.proofs.Parts.{parts_are}
use Rattle.text.proofs.Gathering.{gathered_none, gathered-not, gathered-more, gathered-all}
use Rattle.text.proofs.fields.numbers_of.Goals.{In-Some, In-None}
use Rattle.text.proofs.fields.numbers_of.Goals as goal

pub loop-field-init : goal.loop-field-init
loop-field-init c = (refl, refl, gathered_none _ _)

-- the field of this turn is the next of the parts
turn : (c : In-Some) → (c.loop-field.count < length (parts tab c.args.fields.now))
    × (c.in-Some.field.now ≡ get_or (parts tab c.args.fields.now) c.loop-field.count c.in-Some.field.now)
turn c =
    rw (parts_are tab c.args.fields.now, c.loop-field.invariant.0)
    (YieldsList-turn (YieldsList-from_slice_split _ (λ b. eqb b tab) c.args.fields.now (search rules) (search rules) (search rules)
    (λ x b q k. search (rules, tests)))
    c.loop-field.yielded _ c.loop-field.yielded_by _ _ c.in-Some.field c.in-Some.is c.next.ensures.steps)

pub returns-in_err-number_of : goal.returns-in_err-number_of
unfolding NumbersMade
returns-in_err-number_of c =
    let (l, e) = turn (goal.at.returns-in_err-number_of c).In-Some in
    rw c.from_residual.ensures (gathered-not c.loop-field.invariant.2 _ l e (sym c.in_err-number_of.ensures))

pub loop-field-preserved : goal.loop-field-preserved
loop-field-preserved c =
    let (l, e) = turn (goal.at.loop-field-preserved c).In-Some in (
      omega (arith, c.loop-field.invariant.0, length_push c.loop-field.yielded c.in-Some.field),
      c.keep_number.auto.cells ∙ c.loop-field.invariant.1,
      gathered-more c.loop-field.invariant.2 _ l e (sym c.in_ok-number_of.ensures) c.keep_number.ensures,
    )

pub returns : goal.returns
unfolding NumbersMade
returns c =
    let all =
    YieldsList-end (YieldsList-from_slice_split _ (λ b. eqb b tab) c.args.fields.now (search rules) (search rules) (search rules)
    (λ x b q k. search (rules, tests)))
    c.loop-field.yielded _ c.loop-field.yielded_by _ _ c.in-None.is c.next.ensures.steps
    in
    gathered-all c.loop-field.invariant.2 (omega (arith, ap length (parts_are tab c.args.fields.now), c.loop-field.invariant.0, all.1))
