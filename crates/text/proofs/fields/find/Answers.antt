use Rattle.std.proofs.Common.{rules, ◌≡◌, tests}
use Rattle.std.specs.List.{position}
use lib.Dec.{eqb}
use Rattle.std.proofs.lemmas.Iterator.{YieldsList-from_slice}
use Rattle.std.proofs.lemmas.Iterator.Search.{position_from_yields_List}
use Rattle.text.proofs.Parts.{first_found}
use Rattle.text.proofs.fields.find.Goals as goal

pub returns : goal.returns
returns c =
    let found : c.position.result ≡ position (λ b. eqb b c.args.separator) c.args.bytes.now =
    position_from_yields_List (λ b. eqb b c.args.separator) _ _ c.position.result c.position.ensures.ran (YieldsList-from_slice _ c.iter.ensures.rest)
    (λ x b q k. search (rules, tests))
    in
    rw found (first_found c.args.separator c.args.bytes.now)
