use Rattle.std.proofs.Common.{◌≡◌, None, Some, rules, arith}
use Rattle.std.proofs.lemmas.Slice.Eq.{text_from_reads}
use Rattle.text.specs.Words.{word_plan, word_cal, word_task, word_after}
use Rattle.plan_records.specs.Inner.Lines.{Finds}
use Rattle.plan_records.proofs.Recording.{plan-found, task-found, after-none, after-found, symbols-found}
use Rattle.plan_records.proofs.Recording.{word-plan, word-cal, word-task, word-after, word-other, same-reads}
use Rattle.plan_records.proofs.by_word.Goals.{In-plan, In-cal, In-task, In-after}
use Rattle.plan_records.proofs.by_word.Goals as goal

-- the arm of each word has its bytes
named-plan : (c : In-plan) → c.args.word.now ≡ word_plan
named-plan c = text_from_reads _ word_plan (omega arith) (search rules)

named-cal : (c : In-cal) → c.args.word.now ≡ word_cal
named-cal c = text_from_reads _ word_cal (omega arith) (search rules)

named-task : (c : In-task) → c.args.word.now ≡ word_task
named-task c = text_from_reads _ word_task (omega arith) (search rules)

named-after : (c : In-after) → c.args.word.now ≡ word_after
named-after c = text_from_reads _ word_after (omega arith) (search rules)

pub returns-in_err-numbers_if-in-plan : goal.returns-in_err-numbers_if-in-plan
returns-in_err-numbers_if-in-plan c =
    rw (c.from_residual-in_err-numbers_if-in-plan.ensures, word-plan _ _ (named-plan (goal.at.returns-in_err-numbers_if-in-plan c).In-plan))
    (plan-found _ _ _ _ c.in_err-numbers_if-in-plan.ensures)

pub returns-in_ok-numbers_if-in-plan : goal.returns-in_ok-numbers_if-in-plan
returns-in_ok-numbers_if-in-plan c =
    rw (word-plan _ _ (named-plan (goal.at.returns-in_ok-numbers_if-in-plan c).In-plan))
    (plan-found _ _ _ _ c.in_ok-numbers_if-in-plan.ensures)

pub returns-in_err-symbols_of-in-cal : goal.returns-in_err-symbols_of-in-cal
returns-in_err-symbols_of-in-cal c =
    rw (c.from_residual.ensures, word-cal _ _ (named-cal (goal.at.returns-in_err-symbols_of-in-cal c).In-cal))
    (symbols-found _ _ _ None c.in_err-symbols_of-in-cal.ensures)

pub returns-in_ok-symbols_of-in-cal : goal.returns-in_ok-symbols_of-in-cal
returns-in_ok-symbols_of-in-cal c =
    rw (word-cal _ _ (named-cal (goal.at.returns-in_ok-symbols_of-in-cal c).In-cal))
    (symbols-found _ _ _ (Some c.in_ok-symbols_of-in-cal.field-0) c.in_ok-symbols_of-in-cal.ensures)

pub returns-in_err-numbers_if-in-task : goal.returns-in_err-numbers_if-in-task
returns-in_err-numbers_if-in-task c =
    rw (c.from_residual-in_err-numbers_if-in-task.ensures, word-task _ _ (named-task (goal.at.returns-in_err-numbers_if-in-task c).In-task))
    (task-found _ _ _ _ c.in_err-numbers_if-in-task.ensures)

pub returns-in_ok-numbers_if-in-task : goal.returns-in_ok-numbers_if-in-task
returns-in_ok-numbers_if-in-task c =
    rw (word-task _ _ (named-task (goal.at.returns-in_ok-numbers_if-in-task c).In-task))
    (task-found _ _ _ _ c.in_ok-numbers_if-in-task.ensures)

pub returns-in_err-numbers_of-in-after : goal.returns-in_err-numbers_of-in-after
returns-in_err-numbers_of-in-after c =
    rw (c.from_residual-in_err-numbers_of-in-after.ensures, word-after _ _ (named-after (goal.at.returns-in_err-numbers_of-in-after c).In-after))
    (after-none _ _ _ c.in_err-numbers_of-in-after.ensures)

pub returns-in_ok-numbers_of-in-after : goal.returns-in_ok-numbers_of-in-after
returns-in_ok-numbers_of-in-after c =
    rw (c.then_some.ensures, word-after _ _ (named-after (goal.at.returns-in_ok-numbers_of-in-after c).In-after))
    (after-found _ _ _ _ c.in_ok-numbers_of-in-after.ensures)

-- each word differs from the four in its length or a byte
pub returns-in_default : goal.returns-in_default
unfolding Finds
returns-in_default c =
    word-other _ _ (λ e. grind (arith, same-reads e)) (λ e. grind (arith, same-reads e)) (λ e. grind (arith, same-reads e))
    (λ e. grind (arith, same-reads e))
