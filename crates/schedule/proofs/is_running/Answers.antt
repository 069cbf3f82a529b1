use mathlib.Core.Path.{sym, ◌∙◌}
use Rattle.units.proofs.Hours.{lt-cmp, before, not-before}
use Rattle.schedule.proofs.Entry.{not-started, started}
use Rattle.schedule.proofs.is_running.Goals as goal

pub returns-then-lt : goal.returns-then-lt
returns-then-lt c = sym (not-started _ _ (before _ _ (c.lt.ensures ∙ lt-cmp _ _) c.if-lt.true))

pub returns : goal.returns
returns c = c.lt-2.ensures ∙ lt-cmp _ _ ∙ started _ _ _ (not-before _ _ (c.lt.ensures ∙ lt-cmp _ _) c.if-lt.false) c.since.ensures
