use mathlib.Core.Path.{◌∙◌}
use Prim.Native.Nat.{◌+◌, ◌*◌, ◌≤◌}
use native.Mathlib.Omega.{arith}
use lib.ListN.{length}
use Rattle.text.proofs.Puts.{put-none}
use Rattle.plan.specs.Calendars.{letters_in}
use Rattle.plan_writing.proofs.Lettering.{letter-up}
use Rattle.plan_writing.proofs.put_whole_bytes.Goals as goal

pub loop-byte-init : goal.loop-byte-init
loop-byte-init c = put-none _ _

pub loop-byte-preserved : goal.loop-byte-preserved
loop-byte-preserved c =
    let cal = letters_in c.args.calendar.now in
    let t = c.loop-byte.byte * 4 in
    let l : t + 4 ≤ length cal = omega (arith, c.loop-byte-test.true, c.len-byte-end.ensures) in
    let one = letter-up cal c.requires c.loop-byte.invariant (t + 1) (omega arith) (omega (arith, l)) (c.letter.ensures ∙ c.code_at.ensures) c.put_byte-one.ensures in
    let two =
    letter-up cal c.requires one (t + 2) (omega arith) (omega (arith, l)) (c.letter-in-loop-byte.ensures ∙ c.code_at-in-loop-byte.ensures)
    c.put_byte-two.ensures in
    let three =
    letter-up cal c.requires two (t + 3) (omega arith) (omega (arith, l)) (c.letter-in-loop-byte-2.ensures ∙ c.code_at-in-loop-byte-2.ensures)
    c.put_byte-three.ensures in
    letter-up cal c.requires three ((c.loop-byte.byte + 1) * 4) (omega arith) (omega (arith, l))
    (c.letter-in-loop-byte-3.ensures ∙ c.code_at-in-loop-byte-3.ensures) c.put_byte-end.ensures
