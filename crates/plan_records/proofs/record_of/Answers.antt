use Rattle.std.proofs.Common.{◌+◌, arith}
use lib.ListN.{length-drop}
use Rattle.std.proofs.lemmas.List.{take_rest}
use Rattle.plan_records.specs.Inner.Lines.{Finds}
use Rattle.plan_records.proofs.Recording.{record-one, record-split, finds-more}
use Rattle.plan_records.proofs.record_of.Goals as goal

pub returns-in_err-end : goal.returns-in_err-end
unfolding Finds
returns-in_err-end c = rw c.from_residual.ensures (record-one _ c.in_err-end.ensures)

pub returns : goal.returns
returns c =
    let line = c.args.line.now in
    let end = c.in_ok-end.end in
    rw (record-split line end c.in_ok-end.ensures)
    (finds-more _ _ _ _ _ (omega (arith, length-drop (end + 1) line)) (rw (take_rest line (end + 1)) at c.by_word.ensures))
