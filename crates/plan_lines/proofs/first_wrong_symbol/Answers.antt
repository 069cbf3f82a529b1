use mathlib.Core.Path.{sym, ◌∙◌}
use Rattle.plan_lines.proofs.PackedBytes.{wrong-known, none-known, wrong-next, wrong-hit, wrong-end}
use Rattle.plan_lines.proofs.first_wrong_symbol.Goals as goal

pub returns-then-is_some : goal.returns-then-is_some
returns-then-is_some c = λ xs count known. wrong-known xs _ c.args.before (sym c.is_some.ensures ∙ c.if-is_some.true) known

pub loop-i-init : goal.loop-i-init
loop-i-init c = λ xs count known. none-known xs _ c.args.before (sym c.is_some.ensures ∙ c.if-is_some.false) known

pub returns-then-not-is_symbol : goal.returns-then-not-is_symbol
returns-then-not-is_symbol c =
    λ xs count known. wrong-hit xs _ (c.loop-i.invariant xs count known) c.is_symbol.ensures c.loop-i-test.true c.if-not-is_symbol.true count

pub loop-i-preserved : goal.loop-i-preserved
loop-i-preserved c =
    λ xs count known. wrong-next xs _ (c.loop-i.invariant xs count known) c.is_symbol.ensures c.loop-i-test.true c.if-not-is_symbol.false

pub returns : goal.returns
returns c = λ xs count known. wrong-end xs _ (c.loop-i.invariant xs count known) c.loop-i-test.false
