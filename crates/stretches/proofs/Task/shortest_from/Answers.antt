use Rattle.std.proofs.lemmas.Option.{same_Some}
use mathlib.Core.Path.{◌≡◌, sym, ap, ◌∙◌}
use mathlib.Core.Bool.{Bool}
use mathlib.Core.List.{List}
use Prim.Native.Nat.{ℕ, ◌-◌, ◌≤◌, ◌<◌}
use native.Mathlib.Omega.{arith}
use lib.ListN.{length}
use Rattle.plan.specs.Calendars.{letters_in}
use Rattle.units.specs.declared.Bounds.{Bounds}
use Rattle.stretches.specs.declared.Reach.{Reach}
use Rattle.stretches.specs.Inner.Stretches.{IsReach, stretch_from, may_end, shortest_at}
use Rattle.stretches.proofs.Coded.{next-by}
use Rattle.stretches.proofs.Stretches.{next-ready, next-reach, reach-miss, reach-end, long-hit}
use Rattle.stretches.proofs.Task.shortest_from.Goals as goal

-- whether the task may end with a reach, by the reach and by its hours
may : {cal : List ℕ} {s : ℕ} {r : Reach} (p : ℕ) (b : Bounds) {x : Bool} → IsReach cal s r → x ≡ may_end p b (stretch_from s r)
    → shortest_at cal p b s (r.end.0 - s) ≡ x
may p b is e = ap (may_end p b) (sym is.stretch.is) ∙ sym e

pub with_next-at-requires : goal.with_next-at-requires
with_next-at-requires c = next-ready c.loop-s.invariant.0 (omega (arith, c.if-len-at.false, c.len.ensures))

pub loop-s-preserved : goal.loop-s-preserved
loop-s-preserved c =
    let (is, same) = c.loop-s.invariant in
    let inside : c.loop-s.at.end.0 < length (letters_in c.args.self.now.calendar) = omega (arith, c.if-len-at.false, c.len.ensures) in
    rw (c.with_next-at.ensures ∙ next-by (letters_in c.args.self.now.calendar) c.loop-s.at c.code_at.ensures) (next-reach is inside, reach-miss is _ inside (may _ _ is c.loop-s-test.ensures) ∙ same)

pub returns-then-len-at-clause-none : goal.returns-then-len-at-clause-none
returns-then-len-at-clause-none c = λ e.
    let (is, same) = c.loop-s.invariant in
    rw (← same) (rw (reach-end is _ (let past : length (letters_in c.args.self.now.calendar) ≤ c.loop-s.at.end.0 = omega (arith, c.if-len-at.true, c.len.ensures) in past)) (may _ _ is c.loop-s-test.ensures))

pub returns-clause-found : goal.returns-clause-found
returns-clause-found c = λ at e.
    let (is, same) = c.loop-s.invariant in
    rw (← same_Some _ _ e) (is, sym c.loop-s-test.ensures, sym (long-hit _ _ _ _ (may _ _ is c.loop-s-test.ensures)) ∙ same)
