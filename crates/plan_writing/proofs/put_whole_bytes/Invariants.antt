use Prim.Native.Nat.{◌*◌}
use lib.ListN.{take}
use Rattle.text.specs.Putting.{Put}
use Rattle.plan.specs.Calendars.{letters_in}
use Rattle.plan_writing.proofs.put_whole_bytes.Given as goal

abbrev pub invariant-loop-byte : goal.invariant-loop-byte
invariant-loop-byte l = Put (take (l.byte * 4) (letters_in l.calendar)) l.at l.initial.out l.end l.out
