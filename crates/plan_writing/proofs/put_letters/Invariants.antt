use lib.ListN.{take, drop}
use Rattle.text.specs.Putting.{Put}
use Rattle.plan.specs.Calendars.{letters_in}
use Rattle.plan_writing.proofs.put_letters.Given as goal

abbrev pub invariant-loop-i : goal.invariant-loop-i
invariant-loop-i l = Put (take l.i (drop l.first (letters_in l.calendar))) l.initial.end l.initial.out l.end l.out
