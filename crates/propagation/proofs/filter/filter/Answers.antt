use Rattle.steps.proofs.Entry.{filter-holds-of}
use Rattle.propagation.proofs.filter.filter.Goals as goal

pub returns : goal.returns
returns c =
    let (answer, holds, letters) = filter-holds-of _ _ _ _ _ _ c.filter_from.ensures in
    record { answer = answer; holds = holds; letters = letters }
