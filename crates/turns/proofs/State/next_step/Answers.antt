use mathlib.Core.Path.{sym, ◌∙◌}
use Rattle.units.proofs.Searching.{unfound-first, unfound-next, unfound-hit, unfound-end}
use Rattle.turns.proofs.Searching.{in-order}
use Rattle.turns.proofs.State.next_step.Goals as goal

pub loop-kind-init : goal.loop-kind-init
loop-kind-init c = unfound-first

pub returns-in-Some : goal.returns-in-Some
returns-in-Some c =
    sym (unfound-hit c.loop-kind.invariant c.loop-kind-test.true (sym c.first_of_kind.ensures ∙ c.in-Some.is)) ∙ in-order _ _ _

pub loop-kind-preserved : goal.loop-kind-preserved
loop-kind-preserved c = unfound-next c.loop-kind.invariant c.loop-kind-test.true (sym c.first_of_kind.ensures ∙ c.in_default.is)

pub returns : goal.returns
returns c = sym (unfound-end c.loop-kind.invariant c.loop-kind-test.false) ∙ in-order _ _ _
