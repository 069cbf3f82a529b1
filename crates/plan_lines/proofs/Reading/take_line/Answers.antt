use Prim.Native.Nat.{◌+◌, ◌<◌}
use native.Mathlib.Omega.{arith}
use lib.ListN.{length}
use Rattle.plan_format.specs.Text.{most_line}
use Rattle.plan_lines.proofs.Piecewise.{stays-broken, breaks, end-too-long, end-too-late, line-taken, held-none, held-cells, held-now, line-length}
use Rattle.plan_lines.proofs.Reading.take_line.Goals.{then-self-part-via-then-self-part, then-self-part-via-else-self-part+then-self-gt-MOST_LINES}
use Rattle.plan_lines.proofs.Reading.take_line.Goals as goal

pub returns-then-self : goal.returns-then-self
returns-then-self c = λ text read. stays-broken read _ c.if-self.true

pub returns-then-self-part : goal.returns-then-self-part
returns-then-self-part c = λ text read.
    elim c.then-self-part.branch [
      | then-self-part-via-then-self-part w ↦ breaks read c.if-self.false _ _ _ read.cells (λ after.
          end-too-long read c.if-self.false _ c.requires.1 after (omega (arith, w.if-self-part.true)))
      | then-self-part-via-else-self-part+then-self-gt-MOST_LINES w ↦ breaks read c.if-self.false _ _ _ read.cells (λ after.
          end-too-late read c.if-self.false _ c.requires.1 after w.if-self-gt-MOST_LINES.true)
    ]

pub returns-then-self-eq0 : goal.returns-then-self-eq0
returns-then-self-eq0 c = λ text read.
    let fits : c.args.self.now.length + length c.args.part.now < most_line = omega (arith, c.if-self-part.false) in
    let size = line-length read c.if-self.false _ c.requires.1 in
    let follows =
    rw (← held-none read c.if-self.false c.args.part.now c.requires.1 c.if-self-eq0.true)
    at (c.with_line-read.ensures read.so_far _ (read.holds c.if-self.false))
    in
    line-taken read c.if-self.false _ c.requires.1 fits c.if-self-gt-MOST_LINES.false _ _ _ read.cells follows (omega (arith, size, fits)) c.end_line.ensures

pub returns : goal.returns
returns c = λ text read.
    let fits : c.args.self.now.length + length c.args.part.now < most_line = omega (arith, c.if-self-part.false) in
    let now = held-now read c.if-self.false _ c.requires.1 fits c.put_all-end.ensures in
    let size = line-length read c.if-self.false _ c.requires.1 in
    let follows = rw now at (c.with_line-read-2.ensures read.so_far _ (read.holds c.if-self.false)) in
    line-taken read c.if-self.false _ c.requires.1 fits c.if-self-gt-MOST_LINES.false _ _ _
    (held-cells read c.if-self.false _ c.requires.1 fits c.put_all-end.ensures) follows (omega (arith, size, fits)) c.end_line-2.ensures
