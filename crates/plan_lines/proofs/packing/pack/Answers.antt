use mathlib.Core.Path.{refl, ◌∙◌}
use Prim.Native.Nat.{◌/◌}
use native.Mathlib.Omega.{arith}
use lib.ListN.{length, length-set}
use Rattle.plan_lines.proofs.PackedBytes.{byte-put, bytes-put, byte-of, whole-byte, last-byte}
use Rattle.plan_lines.proofs.packing.pack.Goals as goal

pub bounds-out-i : goal.bounds-out-i
bounds-out-i c = omega (arith, c.loop-i.invariant.0, c.requires.0, whole-byte (length c.args.calendar.now) c.loop-i.i c.loop-i-test.true)

pub loop-i-preserved : goal.loop-i-preserved
loop-i-preserved c =
    let inside = whole-byte (length c.args.calendar.now) c.loop-i.i c.loop-i-test.true in (
      length-set _ _ _ ∙ c.loop-i.invariant.0,
      byte-put _ _ _ _ (c.byte_of.ensures ∙ byte-of _ c.loop-i.i _ _ _ _ refl refl refl refl)
          (omega (arith, c.loop-i.invariant.0, c.requires.0, inside)) c.loop-i.invariant.1,
    )

pub returns-then-whole-out : goal.returns-then-whole-out
returns-then-whole-out c =
    let size = c.loop-i.invariant.0 ∙ c.requires.0 in
    let whole = length c.args.calendar.now / 4 in
    let last = last-byte (length c.args.calendar.now) (omega (arith, size, c.if-whole-out.true)) in
    bytes-put _ _ (length-set _ _ _ ∙ size)
    (λ k l. byte-put _ _ _ _
    (c.byte_of-then-whole-out.ensures
    ∙ byte-of _ _ _ _ _ _ c.symbol_at.ensures c.symbol_at-then-whole-out.ensures c.symbol_at-then-whole-out-2.ensures
    c.symbol_at-then-whole-out-3.ensures)
    c.if-whole-out.true (λ j m. c.loop-i.invariant.1 j (omega (arith, m, c.loop-i-test.false))) k
    (omega (arith, l, last, size, length-set c.loop-i.out whole c.byte_of-then-whole-out.result)))

pub returns-else-whole-out : goal.returns-else-whole-out
returns-else-whole-out c =
    let size = c.loop-i.invariant.0 ∙ c.requires.0 in
    bytes-put _ _ size (λ k l. c.loop-i.invariant.1 k (omega (arith, l, c.if-whole-out.false, c.loop-i-test.false)))
