use native.Mathlib.Omega.{arith}
use Rattle.text.proofs.Puts.{put_both}
use Rattle.plan_format.specs.Records.{record_line}
use Rattle.plan_writing.proofs.put_calendar.Goals as goal

pub returns : goal.returns
unfolding record_line
returns c =
    put_both (omega (arith, c.requires)) (put_both (omega (arith, c.requires)) c.put_all-letters.ensures c.put_letters-end.ensures) c.put_byte.ensures
