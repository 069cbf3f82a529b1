use mathlib.Core.Path.{sym, ◌∙◌}
use native.Mathlib.Omega.{arith}
use borrow.Author.Tests.{ne_eqb}
use Rattle.units.proofs.Multiples.{none_each, not-whole, by-quotient}
use Rattle.units.proofs.is_for_each.Goals as goal

pub returns-then-numbers-eq0 : goal.returns-then-numbers-eq0
returns-then-numbers-eq0 c = none_each _ _ _ c.if-numbers-eq0.true

pub returns-else-length-numbers-eq0 : goal.returns-else-length-numbers-eq0
returns-else-length-numbers-eq0 c =
    ne_eqb _ _ c.if-length-numbers-eq0.false ∙ sym (not-whole _ _ _ c.if-length-numbers-eq0.false)

pub returns-then-length-numbers-eq0 : goal.returns-then-length-numbers-eq0
returns-then-length-numbers-eq0 c = by-quotient _ _ _ (let ne = c.if-numbers-eq0.false in omega arith) c.if-length-numbers-eq0.true
