use Rattle.std.proofs.Common.{◌≡◌, rules}
use lib.Dec.{leb}
use Rattle.std.specs.Option.{MatchOption}
use Rattle.units.specs.Choice.{some_if}
use Rattle.std.specs.Prelude.{None}
use Rattle.plan_records.proofs.Recording.{numbers-made}
use Rattle.plan_records.proofs.numbers_if.Goals as goal

pub returns : goal.returns
returns c =
    let kept : MatchOption c.numbers_of.result (c.filter.result ≡ None) (λ n. c.filter.result ≡ some_if (leb c.args.least n) n) = search rules in
    numbers-made c.args.least _ _ _ _ c.numbers_of.ensures kept
