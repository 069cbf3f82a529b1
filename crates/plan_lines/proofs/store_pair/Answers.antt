use native.Mathlib.Omega.{arith}
use Rattle.plan_lines.proofs.Numbering.{begin-cell}
use Rattle.plan_lines.proofs.Storing.{pairs-over, pairs-more}
use Rattle.plan_lines.proofs.store_pair.Goals as goal

pub returns-then-pairs-lt-MOST : goal.returns-then-pairs-lt-MOST
returns-then-pairs-lt-MOST c =
    λ hours rs ns ps tasks count begin kept.
    rw (c.put_all.ensures.cells_left, begin-cell begin 0 (omega arith) (omega arith), begin-cell begin 1 (omega arith) (omega arith))
    (pairs-more hours rs ps tasks _ _ _ count _ kept c.told-cells c.if-pairs-lt-MOST.true)

pub returns-else-pairs-lt-MOST : goal.returns-else-pairs-lt-MOST
returns-else-pairs-lt-MOST c =
    λ hours rs ns ps tasks count begin kept. pairs-over hours rs ps tasks _ _ _ count _ kept c.if-pairs-lt-MOST.false
