use mathlib.Core.Path.{sym, ◌∙◌}
use Prim.Native.Nat.{◌*◌, ◌/◌, ◌≤◌}
use native.Mathlib.Omega.{arith}
use lib.ListN.{length, drop}
use Rattle.std.proofs.lemmas.List.{get_or-drop, length-drop}
use Rattle.text.proofs.Puts.{put-none}
use Rattle.plan.specs.Calendars.{letters_in}
use Rattle.plan_writing.proofs.Lettering.{letter-put, rest-room, all-put}
use Rattle.plan_writing.proofs.put_letters.Goals as goal

pub loop-i-init : goal.loop-i-init
loop-i-init c = put-none _ _

pub loop-i-preserved : goal.loop-i-preserved
loop-i-preserved c =
    let cal = letters_in c.args.calendar.now in
    let first = c.len.result / 4 * 4 in
    let inside : first ≤ length cal = omega (arith, c.len.ensures) in
    letter-put (drop first cal) (rest-room cal c.requires inside (rw c.len.ensures c.put_whole_bytes-end.ensures)) c.loop-i.invariant
    (omega (arith, c.loop-i-test.true, c.len-2.ensures, length-drop first cal))
    (c.letter.ensures ∙ c.code_at.ensures ∙ sym (get_or-drop first cal c.loop-i.i 0)) c.put_byte-end.ensures

pub returns : goal.returns
returns c =
    let cal = letters_in c.args.calendar.now in
    let first = c.len.result / 4 * 4 in
    let inside : first ≤ length cal = omega (arith, c.len.ensures) in
    all-put cal c.requires inside (rw c.len.ensures c.put_whole_bytes-end.ensures) c.loop-i.invariant
    (omega (arith, c.loop-i.auto.i-end, c.loop-i-test.false, c.len-2.ensures, length-drop first cal))
