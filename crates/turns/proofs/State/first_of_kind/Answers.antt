use mathlib.Core.Path.{◌∙◌}
use Rattle.steps.specs.Filter.{first_of_kind}
use Rattle.turns.specs.Inner.Finding.{first_excess, letter_of, pair_letter_of}
use Rattle.turns.proofs.Searching.{calendar-first, overload-first, pair-first}
use Rattle.turns.proofs.State.first_of_kind.Goals as goal

pub returns-in-Calendar : goal.returns-in-Calendar
returns-in-Calendar c = rw c.in-Calendar.is (c.first_calendar.ensures ∙ calendar-first _ _ _)

pub returns-in-Overload : goal.returns-in-Overload
returns-in-Overload c = rw c.in-Overload.is (c.first_overload.ensures ∙ overload-first _ _ _ _ c.requires)

pub returns-in-Lower : goal.returns-in-Lower
unfolding first_of_kind first_excess letter_of
returns-in-Lower c = rw c.in-Lower.is c.first_excess.ensures

pub returns-in-Upper : goal.returns-in-Upper
unfolding first_of_kind first_excess letter_of
returns-in-Upper c = rw c.in-Upper.is c.first_excess-in-Upper.ensures

pub returns-in-Forward : goal.returns-in-Forward
unfolding first_of_kind pair_letter_of
returns-in-Forward c = rw c.in-Forward.is (c.first_pair.ensures ∙ pair-first _ _ _ _)

pub returns-in-Backward : goal.returns-in-Backward
unfolding first_of_kind pair_letter_of
returns-in-Backward c = rw c.in-Backward.is (c.first_pair-in-Backward.ensures ∙ pair-first _ _ _ _)
