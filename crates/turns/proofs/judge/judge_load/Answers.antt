use mathlib.Core.Path.{sym, ◌∙◌}
use Rattle.units.proofs.Choices.{if-true, if-false}
use lib.Dec.{ltb}
use Rattle.units.proofs.Hours.{gt-cmp}
use Rattle.turns.proofs.judge.judge_load.Goals as goal

pub returns-then-gt : goal.returns-then-gt
returns-then-gt c = sym (if-true (ltb c.args.capacity.0 c.args.load.0) _ _ (sym (c.gt.ensures ∙ gt-cmp c.args.load.0 c.args.capacity.0) ∙ c.if-gt.true))

pub returns : goal.returns
returns c = sym (if-false (ltb c.args.capacity.0 c.args.load.0) _ _ (sym (c.gt.ensures ∙ gt-cmp c.args.load.0 c.args.capacity.0) ∙ c.if-gt.false))
