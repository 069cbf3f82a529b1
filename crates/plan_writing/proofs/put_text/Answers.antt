use Rattle.plan_writing.proofs.Sections.{put_sections}
use Rattle.plan_writing.proofs.put_text.Goals as goal

pub returns : goal.returns
returns c = put_sections _ _ c.plan_numbers.ensures c.put_line-first.ensures c.put_calendars-middle.ensures c.put_tasks-last.ensures
    c.put_pairs.ensures
