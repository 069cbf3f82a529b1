use mathlib.Core.Path.{◌∙◌}
use mathlib.Core.Logic.{inl}
use Rattle.plan.specs.Calendars.{letters_in}
use Rattle.stretches.proofs.Coded.{next-by}
use Rattle.stretches.proofs.Task.with_more.Goals as goal

pub returns : goal.returns
returns c = inl (c.with_next.ensures ∙ next-by (letters_in c.args.self.now.calendar) c.args.at c.code_at.ensures)
