use Rattle.std.proofs.Common.{sym, ◌∙◌}
use Rattle.plan_format.proofs.Readings.{read-malformed, read_whole, too_small, not-passed}
use Rattle.plan_text.proofs.Judging.{read-passed}
use Rattle.plan_text.proofs.Entry.{scans-refused, scans-whole, all-cleared, has-room, few-calendars, kept}
use Rattle.plan_text.proofs.finish_plan.Goals as goal

pub returns-in-Err : goal.returns-in-Err
returns-in-Err c =
    λ text read.
    all-cleared _ _ _ _ _ _ _ _ c.clear_memory.ensures
    ∙ read-malformed _ _ _ _ _ _ _ _ _ (scans-refused _ _ _ _ (c.in-Err.ensures text read))

pub returns-then-not-is_enough : goal.returns-then-not-is_enough
returns-then-not-is_enough c =
    λ text read.
    let (r, e, held) = scans-whole _ _ _ _ (c.in-Ok.ensures text read) in
    too_small _ _ _ _ _ _ _ r (sym c.is_enough.ensures ∙ c.if-not-is_enough.true) ∙ read_whole _ _ _ _ _ _ _ _ r e

pub tested_plan-requires : goal.tested_plan-requires
tested_plan-requires c =
    let (text, read) = c.requires in
    let (r, e, held) = scans-whole _ _ _ _ (c.in-Ok.ensures text read) in
    record { text = r; held = held }

pub stored_boxes-requires : goal.stored_boxes-requires
stored_boxes-requires c =
    let (text, read) = c.requires in
    let (r, e, held) = scans-whole _ _ _ _ (c.in-Ok.ensures text read) in
    (read-passed held (c.in-Ok-tested_plan.ensures.tests r held)).tasks_few

pub store_plan-requires : goal.store_plan-requires
store_plan-requires c =
    let (text, read) = c.requires in
    let (r, e, held) = scans-whole _ _ _ _ (c.in-Ok.ensures text read) in
    let passed = rw (← c.stored_boxes.ensures) at c.in-Ok-tested_plan.ensures.passes in
    let few = few-calendars held c.in-Ok-tested_plan.ensures.plan (c.in-Ok-tested_plan.ensures.tests r held) in
    has-room _ _ _ _ _ _ _ _ passed few (sym c.is_enough.ensures ∙ c.if-not-is_enough.false)

pub returns-in-Ok-tested_plan : goal.returns-in-Ok-tested_plan
returns-in-Ok-tested_plan c =
    λ text read.
    let (r, e, held) = scans-whole _ _ _ _ (c.in-Ok.ensures text read) in
    kept _ _ _ _ _ _ _ held c.in-Ok-tested_plan.ensures.plan c.stored_boxes.ensures (sym c.is_enough.ensures ∙ c.if-not-is_enough.false)
    (c.in-Ok-tested_plan.ensures.tests r held) c.store_plan.ensures
    ∙ read_whole _ _ _ _ _ _ _ _ r e

pub returns-in-Err-tested_plan : goal.returns-in-Err-tested_plan
returns-in-Err-tested_plan c =
    λ text read.
    let (r, e, held) = scans-whole _ _ _ _ (c.in-Ok.ensures text read) in
    all-cleared _ _ _ _ _ _ _ _ c.clear_memory-in-Err-tested_plan.ensures
    ∙ not-passed _ _ _ _ _ _ _ r _ (sym c.is_enough.ensures ∙ c.if-not-is_enough.false) (c.in-Err-tested_plan.ensures.tests r held)
    ∙ read_whole _ _ _ _ _ _ _ _ r e
