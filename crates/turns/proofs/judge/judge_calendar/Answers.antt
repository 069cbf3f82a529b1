use mathlib.Core.Path.{sym, ◌∙◌}
use Rattle.steps.specs.Steps.{same_bounds}
use Rattle.turns.proofs.Judging.{calendar-stops, calendar-same, calendar-moves}
use Rattle.turns.proofs.judge.judge_calendar.Goals as goal

pub returns-in_default : goal.returns-in_default
returns-in_default c = sym (calendar-stops _ _ _ c.in_default.is)

pub returns-then-eq : goal.returns-then-eq
unfolding same_bounds
returns-then-eq c = sym (calendar-same _ _ _ _ c.in-Some.is (sym c.eq.ensures ∙ c.if-eq.true))

pub returns : goal.returns
unfolding same_bounds
returns c = sym (calendar-moves _ _ _ _ c.in-Some.is (sym c.eq.ensures ∙ c.if-eq.false))
