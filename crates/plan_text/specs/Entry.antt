-- What reading a plan answers (01, "Refused because of the state").
use Rattle.std.specs.Prelude.{Result, Ok, Err}
use Rattle.plan.specs.declared.Refusal.{Refusal}
use Rattle.plan.specs.Refusals.{Answer, refused, answered, fault_of}
use Rattle.plan_format.specs.Reading.{PlanRead}
use Rattle.plan_text.specs.declared.PlanRead as Told

-- the number and the values of each case of the answer
abbrev pub reading_answer : Result Told.PlanRead Refusal → Answer PlanRead
reading_answer (Err r) = refused (fault_of r)
reading_answer (Ok p) = answered (record { hours = p.hours; rooms = p.rooms; calendars = p.calendars; tasks = p.tasks; pairs = p.pairs })
