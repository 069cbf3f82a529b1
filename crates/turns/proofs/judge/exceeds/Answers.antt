use mathlib.Core.Path.{sym, ap, ◌∙◌}
use lib.Dec.{ltb}
use Rattle.units.specs.declared.Height.{Height}
use Rattle.units.proofs.Hours.{gt-cmp}
use Rattle.turns.proofs.Judging.{exceeds-in, exceeds-out}
use Rattle.turns.proofs.judge.exceeds.Goals as goal

pub returns-then-must_run : goal.returns-then-must_run
returns-then-must_run c = c.gt.ensures ∙ gt-cmp _ _ ∙ sym (exceeds-in _ _ _ _ _ (sym c.must_run.ensures ∙ c.if-must_run.true))

pub returns : goal.returns
returns c =
    let sum = ap (λ (h : Height). ltb c.args.capacity.0 h.0) c.plus.ensures in
    c.gt-2.ensures ∙ gt-cmp _ _ ∙ sum ∙ sym (exceeds-out _ _ _ _ _ (sym c.must_run.ensures ∙ c.if-must_run.false))
