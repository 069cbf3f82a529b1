use mathlib.Core.Path.{sym, ◌∙◌}
use native.Mathlib.Omega.{arith}
use Rattle.units.proofs.Hours.{le-cmp, at-most}
use Rattle.steps.specs.Load.{must_run}
use Rattle.turns.specs.Inner.Finding.{part_at, share_in}
use Rattle.turns.proofs.Loading.{part-never, part-empty, share-after}
use Rattle.turns.proofs.load.part_of.Goals as goal

pub returns-in_default : goal.returns-in_default
returns-in_default c height t = share-after _ height t (omega arith) ∙ sym (rw c.in_default.is (part-never height t))

pub returns-then-le : goal.returns-then-le
returns-then-le c height t =
    let empty = at-most c.in-Some.w.ect.0 c.in-Some.w.bounds.latest.0 (c.le.ensures ∙ le-cmp _ _) c.if-le.true in
    share-after _ height t (omega arith) ∙ sym (rw c.in-Some.is (part-empty c.in-Some.w height t empty))

pub returns : goal.returns
unfolding part_at share_in must_run
returns c height t = rw c.in-Some.is
