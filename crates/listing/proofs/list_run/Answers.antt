use native.Mathlib.Omega.{arith}
use Rattle.text.proofs.Puts.{put_both, put_all}
use Rattle.listing.proofs.Lines.{run-lines}
use Rattle.listing.proofs.list_run.Goals as goal

pub returns-in-Ok : goal.returns-in-Ok
returns-in-Ok c =
    rw (c.in-Ok.is, run-lines, ← c.ending_word.ensures.0) (put_all (put_both (omega arith) c.put_line-first.ensures c.put_tasks.ensures))
