use mathlib.Core.Path.{sym, ◌∙◌}
use Rattle.units.proofs.Choices.{some-if, none-if}
use Rattle.units.proofs.Searching.{unfound-first, unfound-next, unfound-hit, unfound-end}
use Rattle.turns.specs.Inner.Finding.{first_pair}
use Rattle.turns.proofs.Searching.{pair-at}
use Rattle.turns.proofs.State.first_pair.Goals as goal

pub loop-k-init : goal.loop-k-init
loop-k-init c = unfound-first

pub returns-then-is_admitted : goal.returns-then-is_admitted
unfolding first_pair
returns-then-is_admitted c =
    rw c.pair_letter.ensures
    (sym
    (unfound-hit c.loop-k.invariant (rw c.pair_count-k-end.ensures at c.loop-k-test.true)
    (pair-at _ _ _ _ _ _ _ _ c.pair_of.ensures c.judge_pair.ensures c.is_admitted.ensures ∙ some-if _ _ c.if-is_admitted.true)))

pub loop-k-preserved : goal.loop-k-preserved
loop-k-preserved c =
    unfound-next c.loop-k.invariant (rw c.pair_count-k-end.ensures at c.loop-k-test.true)
    (pair-at _ _ _ _ _ _ _ _ c.pair_of.ensures c.judge_pair.ensures c.is_admitted.ensures ∙ none-if _ _ c.if-is_admitted.false)

pub returns : goal.returns
unfolding first_pair
returns c = sym (unfound-end c.loop-k.invariant (rw c.pair_count-k-end.ensures at c.loop-k-test.false))
