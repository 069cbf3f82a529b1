use Prim.Native.Nat.{◌+◌, ◌*◌, ◌≤◌}
use Rattle.listing.specs.Listing.{task_lines}
use Rattle.text.specs.Putting.{Put}
use Rattle.listing.proofs.put_tasks.Given as goal

abbrev pub invariant-loop-i : goal.invariant-loop-i
invariant-loop-i l = (l.end ≤ l.at + 47 * l.i) × (Put (task_lines l.boxes l.i) l.at l.initial.out l.end l.out)
