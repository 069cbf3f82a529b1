use Prim.Native.Nat.{◌+◌}
use Rattle.std.proofs.lemmas.List.{take_rest}
use Rattle.plan_lines.proofs.Piecewise.{two-pieces}
use Rattle.plan_lines.proofs.Taking.{taken-none, part-no-lf, taken-line, taken-broken, taken-all}
use Rattle.plan_lines.proofs.Reading.take.Goals as goal

pub loop-end-init : goal.loop-end-init
loop-end-init c = taken-none c.requires

pub take_line-requires : goal.take_line-requires
take_line-requires c = (c.loop-end.invariant.ready, part-no-lf c.loop-end.rest.now _ c.in-Some.ensures)

pub hold-requires : goal.hold-requires
hold-requires c = (c.loop-end.invariant.ready, c.in_default.ensures)

pub loop-end-preserved : goal.loop-end-preserved
loop-end-preserved c = rw (take_rest c.loop-end.rest.now (c.in-Some.end + 1)) (taken-line c.loop-end.invariant _ c.in-Some.ensures c.take_line.ensures)

pub returns-clause-takes : goal.returns-clause-takes
returns-clause-takes c = taken-all c.loop-end.invariant c.hold.ensures

pub returns-then-self-clause-takes : goal.returns-then-self-clause-takes
returns-then-self-clause-takes c =
    taken-broken (taken-line c.loop-end.invariant _ c.in-Some.ensures c.take_line.ensures) c.if-self.true

pub returns-clause-pieces : goal.returns-clause-pieces
returns-clause-pieces c = two-pieces c.requires (taken-all c.loop-end.invariant c.hold.ensures)

pub returns-then-self-clause-pieces : goal.returns-then-self-clause-pieces
returns-then-self-clause-pieces c =
    two-pieces c.requires (taken-broken (taken-line c.loop-end.invariant _ c.in-Some.ensures c.take_line.ensures) c.if-self.true)
