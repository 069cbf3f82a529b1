use mathlib.Core.Path.{ap, ◌∙◌}
use Rattle.steps.specs.Filter.{filter_order}
use Rattle.turns.specs.Inner.Kept.{turn_of}
use Rattle.turns.proofs.Calendars.{same-found, same-judged}
use Rattle.turns.proofs.Keeping.{moved-there}
use Rattle.turns.proofs.Turning.{turn-settles, turn-found, judged-of}
use Rattle.turns.proofs.State.next_turn.Goals as goal

pub returns-in_err-step-clause-answer : goal.returns-in_err-step-clause-answer
returns-in_err-step-clause-answer c calendars task_calendars work_times each k =
    ap (turn_of c.args.self.now.boxes.now) c.from_residual.ensures
    ∙ turn-settles _ _ _ k _ (c.next_step.ensures ∙ same-found _ calendars task_calendars work_times _ _ each filter_order) (c.in_err-step.was)

pub returns-clause-answer : goal.returns-clause-answer
returns-clause-answer c calendars task_calendars work_times each k =
    turn-found _ _ _ k _ (c.next_step.ensures ∙ same-found _ calendars task_calendars work_times _ _ each filter_order) _ _ c.in_ok-step.was
    (c.judge_step-judged.ensures ∙ same-judged _ calendars task_calendars work_times _ _ each _)

pub returns-clause-there : goal.returns-clause-there
returns-clause-there c x i b e = moved-there _ _ _ c.args.self.now.pairs_ready.pair i b _ _ c.judge_step-judged.ensures (judged-of e)
