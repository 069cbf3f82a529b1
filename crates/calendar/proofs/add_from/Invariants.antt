use Rattle.plan.specs.Calendars.{letters_in}
use Rattle.calendar.proofs.Finding.{Found}
use Rattle.calendar.proofs.add_from.Given as goal

abbrev pub invariant-loop-s : goal.invariant-loop-s
invariant-loop-s l = Found (letters_in l.task.calendar) l.task.work_time.0 l.task.bounds l.s l.shortest l.longest l.found
