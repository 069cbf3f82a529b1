use mathlib.Core.Path.{sym, ◌∙◌}
use borrow.Author.Tests.{lt-leb}
use Rattle.units.proofs.Ranges.{too_small, by_most}
use Rattle.units.proofs.is_within.Goals as goal

pub returns-then-least-number : goal.returns-then-least-number
returns-then-least-number c = sym (by_most _ _ _ c.if-least-number.true)

pub returns-else-least-number : goal.returns-else-least-number
returns-else-least-number c = lt-leb _ _ c.if-least-number.false ∙ sym (too_small _ _ _ c.if-least-number.false)
