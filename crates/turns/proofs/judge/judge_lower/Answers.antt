use Rattle.turns.proofs.Judging.{moved-either, lower-stops, lower-moves}
use Rattle.turns.proofs.judge.judge_lower.Goals as goal

pub returns : goal.returns
returns c =
    let a = c.args in
    moved-either _ a.b a.earliest.0 _ c.moved.ensures (lower-stops _ a.b a.earliest.0 _ c.starting_from.ensures)
    (lower-moves _ a.b a.earliest.0 _ c.starting_from.ensures)
