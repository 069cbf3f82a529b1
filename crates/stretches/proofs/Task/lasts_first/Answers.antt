use mathlib.Core.Path.{◌∙◌}
use Rattle.plan.specs.Calendars.{letters_in}
use Rattle.stretches.proofs.Coded.{leaves-by, at-end}
use Rattle.stretches.proofs.FirstHour.{no-hour, no-work-first, by-overtime}
use Rattle.stretches.proofs.Stretches.{counts-few}
use Rattle.stretches.proofs.Task.lasts_first.Goals as goal

pub leaves_overtime-requires : goal.leaves_overtime-requires
leaves_overtime-requires c = (counts-few c.requires.0).0

pub returns-then-self-lt1 : goal.returns-then-self-lt1
returns-then-self-lt1 c = no-hour c.requires.0 c.requires.1 c.requires.2 _ _ c.if-self-lt1.true

pub returns-then-self-lt1-2 : goal.returns-then-self-lt1-2
returns-then-self-lt1-2 c = no-work-first c.requires.0 c.requires.1 c.requires.2 _ _ c.if-self-lt1-2.true

pub returns : goal.returns
returns c =
    let cal = letters_in c.args.self.now.calendar in
    let code = at-end _ cal c.args.s.0 c.args.r c.requires.0 c.requires.1 c.requires.3 in
    by-overtime c.requires.0 c.requires.1 c.requires.2 _ _ c.if-self-lt1.false c.if-self-lt1-2.false _
    (c.leaves_overtime.ensures ∙ leaves-by cal c.args.r code _ _)
