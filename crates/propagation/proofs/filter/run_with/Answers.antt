use mathlib.Core.Path.{sym, ◌∙◌}
use Rattle.propagation.proofs.Filtering.{lent_length, lent-zero}
use Rattle.propagation.proofs.filter.run_with.Goals as goal

pub run_filter-requires-clause-loads : goal.run_filter-requires-clause-loads
run_filter-requires-clause-loads g c =
    let (all, few) = c.requires.loads in
    (sym (lent_length g.row.LOADS _ few) ∙ all, lent-zero g.row.LOADS _ few)
