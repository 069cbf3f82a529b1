use mathlib.Core.Path.{◌≡◌, sym, ◌∙◌}
use Prim.Native.Nat.{ℕ, ◌+◌, ◌-◌, ◌<◌}
use native.Mathlib.Omega.{arith}
use lib.ListN.{length, get_or}
use Rattle.plan.specs.Packed.{bytes_of}
use Rattle.input.proofs.Packing.{codes-next, codes-no, codes-all}
use Rattle.input.proofs.is_packed.Goals as goal

pub returns-then-not-are_codes : goal.returns-then-not-are_codes
returns-then-not-are_codes c =
    sym (codes-no c.args.hours.0 c.args.bytes.now (λ i. omega (arith, c.type_inv.bytes i)) c.loop-byte.byte-index
    (omega (arith, c.loop-byte-test.true, c.requires.1)) (sym c.are_codes.ensures ∙ c.if-not-are_codes.true))

pub loop-byte-preserved : goal.loop-byte-preserved
loop-byte-preserved c =
    codes-next c.args.hours.0 c.args.bytes.now (λ i. omega (arith, c.type_inv.bytes i)) c.loop-byte.byte-index c.loop-byte.invariant
    (sym c.are_codes.ensures ∙ c.if-not-are_codes.false)

pub overflow_sub-bytes : goal.overflow_sub-bytes
unfolding bytes_of
overflow_sub-bytes c = omega (arith, c.requires.0, c.requires.1)

pub bounds-bytes-bytes : goal.bounds-bytes-bytes
unfolding bytes_of
bounds-bytes-bytes c = omega (arith, c.requires.0, c.requires.1)

pub returns : goal.returns
returns c =
    let last : length c.args.bytes.now - 1 + 1 ≡ bytes_of c.args.hours.0 = unfold bytes_of in omega (arith, c.requires.0, c.requires.1) in
    c.is_clear.ensures
    ∙ codes-all c.args.hours.0 c.args.bytes.now (λ i. omega (arith, c.type_inv.bytes i)) (length c.args.bytes.now - 1) last
    (λ t l. c.loop-byte.invariant t (omega (arith, l, c.loop-byte-test.false, c.requires.1)))
