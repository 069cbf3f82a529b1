use mathlib.Core.Path.{sym, ◌∙◌}
use Rattle.units.proofs.Choices.{some-if, none-if}
use Rattle.units.proofs.Searching.{unfound-first, unfound-next, unfound-hit, unfound-end}
use Rattle.turns.specs.Inner.Finding.{first_calendar}
use Rattle.turns.proofs.Searching.{calendar-at}
use Rattle.turns.proofs.State.first_calendar.Goals as goal

pub loop-i-init : goal.loop-i-init
loop-i-init c = unfound-first

pub returns-then-is_narrowed : goal.returns-then-is_narrowed
unfolding first_calendar
returns-then-is_narrowed c =
    rw c.letter.ensures
    (sym
    (unfound-hit c.loop-i.invariant (rw c.tasks-i-end.ensures at c.loop-i-test.true)
    (calendar-at _ _ _ _ _ c.bounds_at.ensures (c.is_narrowed.ensures _) ∙ some-if _ _ c.if-is_narrowed.true)))

pub loop-i-preserved : goal.loop-i-preserved
loop-i-preserved c =
    unfound-next c.loop-i.invariant (rw c.tasks-i-end.ensures at c.loop-i-test.true)
    (calendar-at _ _ _ _ _ c.bounds_at.ensures (c.is_narrowed.ensures _) ∙ none-if _ _ c.if-is_narrowed.false)

pub returns : goal.returns
unfolding first_calendar
returns c = sym (unfound-end c.loop-i.invariant (rw c.tasks-i-end.ensures at c.loop-i-test.false))
