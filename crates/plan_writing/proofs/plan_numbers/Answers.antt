use native.Mathlib.Omega.{arith}
use lib.ListN.{length-set}
use lib.Seq.{take-suc-set}
use Rattle.plan_writing.proofs.plan_numbers.Goals as goal

pub loop-room-init : goal.loop-room-init
loop-room-init c =
    let a = c.args in
    (omega arith, simp length-set (omega arith), take-suc-set a.numbers.now 0 a.plan.now.shifts.hours.0 (omega arith))
