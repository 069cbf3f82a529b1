use mathlib.Core.Path.{◌≡◌, sym, ◌∙◌}
use mathlib.Core.Bool.{Bool}
use Prim.Native.Nat.{ℕ}
use lib.Dec.{leb}
use native.Mathlib.Omega.{arith}
use Rattle.units.specs.declared.Pair.{Pair}
use Rattle.units.proofs.Searching.{unfound-first, unfound-next, unfound-hit}
use Rattle.plan.proofs.Refusals.{unless-true, unless-false}
use Rattle.calendar.specs.declared.Triple.{Triple}
use Rattle.calendar.specs.Triples.{start_of, end_of}
use Rattle.schedule.specs.Schedule.{in_turn}
use Rattle.schedule.specs.Entry.{order_fault}
use Rattle.schedule.proofs.Scheduled.test_pairs.Goals as goal

-- what the code found of a pair's two triples
kept : (σ : ℕ → Triple) (x y : Pair) (a b : Triple) (r f : Bool) → y ≡ x → a ≡ σ y.earlier → b ≡ σ y.later
    → r ≡ leb (end_of a) (start_of b) → r ≡ f → in_turn x σ ≡ f
unfolding in_turn
kept σ x y a b r f p q s e g = rw (← p, ← q, ← s) (sym e ∙ g)

pub loop-k-init : goal.loop-k-init
loop-k-init c = unfound-first

pub returns-then-not-ends_by : goal.returns-then-not-ends_by
unfolding order_fault
returns-then-not-ends_by c =
    let broken = kept _ _ _ _ _ _ _ c.pair_of-pair.ensures c.triple_at.ensures c.triple_at-later.ensures c.ends_by.ensures c.if-not-ends_by.true in
    sym (unfound-hit c.loop-k.invariant (omega (arith, c.loop-k-test.true, c.pair_count-k-end.ensures)) (unless-false _ 20 _ broken))

pub loop-k-preserved : goal.loop-k-preserved
unfolding order_fault
loop-k-preserved c =
    let is = kept _ _ _ _ _ _ _ c.pair_of-pair.ensures c.triple_at.ensures c.triple_at-later.ensures c.ends_by.ensures c.if-not-ends_by.false in
    unfound-next c.loop-k.invariant (omega (arith, c.loop-k-test.true, c.pair_count-k-end.ensures)) (unless-true _ 20 _ is)
