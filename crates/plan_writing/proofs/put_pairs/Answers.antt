use native.Mathlib.Omega.{arith}
use Rattle.text.proofs.Puts.{put-none}
use Rattle.plan_format.specs.Writing.{after_records}
use Rattle.plan_format.proofs.Growing.{text-none, text-put, text-room, pair-line}
use Rattle.plan_writing.proofs.put_pairs.Goals as goal

pub loop-k-init : goal.loop-k-init
unfolding after_records
loop-k-init c = rw (text-none _) (put-none _ _)

pub put_line-end-requires : goal.put_line-end-requires
unfolding after_records
put_line-end-requires c =
    text-room _ _ (pair-line c.numbers_of_pair.ensures) (omega (arith, c.loop-k-test.true, c.pair_count-k-end.ensures)) c.requires c.loop-k.invariant

pub loop-k-preserved : goal.loop-k-preserved
unfolding after_records
loop-k-preserved c = text-put _ _ (pair-line c.numbers_of_pair.ensures) (omega (arith, c.requires)) c.loop-k.invariant c.put_line-end.ensures
