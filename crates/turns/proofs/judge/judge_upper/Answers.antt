use Rattle.std.proofs.Common.{rules}
use Rattle.turns.proofs.Judging.{upper-either}
use Rattle.turns.proofs.judge.judge_upper.Goals as goal

pub returns : goal.returns
returns c = upper-either _ c.args.b c.args.t.0 _ _ c.minus.ensures (search rules) c.moved.ensures
