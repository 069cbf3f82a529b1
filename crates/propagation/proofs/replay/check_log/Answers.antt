use Rattle.steps.proofs.Entry.{check-holds-of}
use Rattle.propagation.proofs.replay.check_log.Goals as goal

pub returns : goal.returns
returns c =
    let (answer, holds, same, leaves) = check-holds-of _ _ _ _ _ _ _ c.check_from.ensures in
    record { answer = answer; holds = holds; letters = (same, leaves) }
