-- A plan that was read is within the limits of a plan: so its parts can be taken from the memory that it was read into.
use Rattle.std.specs.Prelude.{◌≤◌}
use Rattle.units.specs.Limits.{most_hours, most_calendars, most_rooms, most_tasks, most_pairs}
use Rattle.plan_text.specs.declared.PlanRead.{PlanRead}

-- H, and how many rooms, calendars, tasks and pairs
abbrev pub WithinLimits : PlanRead → Type 0
WithinLimits read =
    (read.hours ≤ most_hours)
    × (read.rooms ≤ most_rooms)
    × (read.calendars ≤ most_calendars)
    × (read.tasks ≤ most_tasks)
    × (read.pairs ≤ most_pairs)
