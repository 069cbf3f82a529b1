use mathlib.Core.Path.{ap, sym, ◌∙◌}
use native.Mathlib.Omega.{arith}
use lib.Dec.{eqb, leb}
use borrow.Author.Tests.{eq-eqb, ne_eqb}
use Rattle.units.proofs.Choices.{if-true, if-false, and_both, not_left, not_right}
use Rattle.plan_format.specs.Text.{plan_section}
use Rattle.plan_lines.specs.declared.Section.TheVariants.{Plan}
use Rattle.plan_lines.specs.Inner.Scanning.{Scans}
use Rattle.plan_lines.proofs.Reaching.{le-section}
use Rattle.plan_lines.proofs.Following.{holds_later}
use Rattle.plan_lines.proofs.Piecewise.{told, told-broken}
use Rattle.plan_lines.proofs.Reading.finish.Goals.{else-not-self-via-then-not-self+then-le+else-self-eq0}
use Rattle.plan_lines.proofs.Reading.finish.Goals.{else-not-self-via-then-not-self+else-le, else-not-self-via-else-not-self}
use Rattle.plan_lines.proofs.Reading.finish.Goals as goal

pub returns-then-self-eq0 : goal.returns-then-self-eq0
unfolding Scans
returns-then-self-eq0 c = λ text read.
    let holds = read.holds c.if-not-self.true in
    let begun = ap (leb plan_section) (sym holds.reached) ∙ sym (le-section Plan _) ∙ sym c.if-le.ensures in (
      read.so_far,
      told read c.if-not-self.true ∙ if-true _ _ _ (and_both _ _ begun (eq-eqb _ _ c.if-self-eq0.true)),
      holds_later holds _ (let few = read.few in omega arith),
    )

pub returns-else-not-self : goal.returns-else-not-self
unfolding Scans
returns-else-not-self c = λ text read.
    let begun = leb plan_section read.so_far.reached in
    let nothing-left = eqb c.args.self.now.length 0 in
    elim c.else-not-self.branch [
      | else-not-self-via-then-not-self+then-le+else-self-eq0 w ↦
          told read w.if-not-self.true ∙ if-false _ _ _ (not_right begun nothing-left (ne_eqb _ _ w.if-self-eq0.false))
      | else-not-self-via-then-not-self+else-le w ↦
          told read w.if-not-self.true
          ∙ if-false _ _ _ (not_left begun nothing-left
          (ap (leb plan_section) (sym (read.holds w.if-not-self.true).reached) ∙ sym (le-section Plan _) ∙ sym w.if-le.ensures))
      | else-not-self-via-else-not-self w ↦ told-broken read w.if-not-self.false
    ]
