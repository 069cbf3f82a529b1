use mathlib.Core.Path.{sym, ◌∙◌}
use Rattle.plan_lines.proofs.Reaching.{plan-comes, begun-comes, unbegun-comes}
use Rattle.plan_lines.proofs.may_come.Goals as goal

pub returns-then-eq : goal.returns-then-eq
returns-then-eq c = c.eq-then-eq.ensures ∙ plan-comes _ _ (sym c.if-eq.ensures)

pub returns-then-le : goal.returns-then-le
returns-then-le c = c.le-then-le.ensures ∙ begun-comes _ _ (sym c.if-eq.ensures) (sym c.if-le.ensures)

pub returns-else-le : goal.returns-else-le
returns-else-le c = c.if-le.false ∙ unbegun-comes _ _ (sym c.if-eq.ensures) (sym c.if-le.ensures)
