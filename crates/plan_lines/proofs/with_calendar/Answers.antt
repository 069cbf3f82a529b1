use mathlib.Core.Path.{◌≡◌, sym, ◌∙◌}
use lib.Dec.{eqb}
use lib.ListN.{length}
use Rattle.units.specs.Choice.{◌and◌}
use Rattle.units.proofs.Choices.{and-rest, not_left}
use Rattle.plan_lines.proofs.Following.{cal-broken, cal-next}
use Rattle.plan_lines.proofs.with_calendar.Goals.{then-scan, else-scan}
use Rattle.plan_lines.proofs.with_calendar.Goals as goal

pub returns-then-not-may_come : goal.returns-then-not-may_come
returns-then-not-may_come c = λ r n cells held. cal-broken held _ c.may_come.ensures _ _ c.if-not-may_come.true

pub returns : goal.returns
returns c =
    λ r n cells held.
    let even : c.if-scan.result ≡ (c.args.scan.even and eqb (length c.args.calendar.now) c.args.scan.hours) =
    elim c.if-scan.branch [
      | then-scan w ↦ w.result-is ∙ sym (and-rest _ _ w.if-scan.true)
      | else-scan w ↦ w.result-is ∙ w.if-scan.false ∙ sym (not_left _ _ w.if-scan.false)
    ]
    in
    cal-next held _ c.may_come.ensures _ _ _ _ c.if-not-may_come.false even c.packed_length.ensures.0 c.packed_length.ensures.1
    c.first_wrong_symbol.ensures c.store_calendar.ensures
