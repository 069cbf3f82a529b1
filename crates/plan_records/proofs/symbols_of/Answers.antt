use Rattle.std.proofs.Common.{◌≡◌, rules, eqb, length, not, ◌&&◌}
use Rattle.std.specs.List.{list_any}
use Rattle.text.specs.Fields.{tab}
use Rattle.plan_records.proofs.Recording.{symbols-made}
use Rattle.plan_records.proofs.symbols_of.Goals.{then-not-is_empty, else-not-is_empty}
use Rattle.plan_records.proofs.symbols_of.Goals as goal

pub returns : goal.returns
returns c =
    let test : c.if-not-is_empty.then_some ≡ (not (eqb (length c.args.fields.now) 0) && not (list_any (λ b. eqb b tab) c.args.fields.now)) =
    elim c.if-not-is_empty.branch [ then-not-is_empty w ↦ search rules | else-not-is_empty w ↦ search rules ]
    in
    rw c.then_some.ensures (symbols-made c.args.fields _ test)
