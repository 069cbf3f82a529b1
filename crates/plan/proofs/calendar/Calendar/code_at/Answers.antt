use mathlib.Core.Path.{sym, ap, ◌∙◌}
use Prim.Native.Nat.{◌≤◌, ◌<◌}
use native.Mathlib.Omega.{arith}
use Rattle.plan.specs.Packed.{code_at, letter_of}
use Rattle.plan.proofs.Codes.{byte-within, letter-at}
use Rattle.plan.proofs.Packing.{letters-length}
use Rattle.plan.proofs.calendar.Calendar.code_at.Goals as goal

pub code_of-requires : goal.code_of-requires
code_of-requires c =
    let within : c.args.t < c.args.self.now.hours.0 = omega (arith, letters-length c.args.self.now.hours.0 c.args.self.now.bytes.now, c.requires) in
    omega (arith, byte-within c.args.self.now.hours.0 c.args.t within, c.args.self.now.packed.0)

pub invariant_of-result : goal.invariant_of-result
invariant_of-result c =
    let within : c.args.t < c.args.self.now.hours.0 = omega (arith, letters-length c.args.self.now.hours.0 c.args.self.now.bytes.now, c.requires) in
    record { kind = let small : code_at c.args.self.now.bytes.now c.args.t ≤ 2 = c.args.self.now.packed.1 c.args.t within in omega (arith, c.code_of.ensures, small) }

pub returns : goal.returns
returns c =
    let within : c.args.t < c.args.self.now.hours.0 = omega (arith, letters-length c.args.self.now.hours.0 c.args.self.now.bytes.now, c.requires) in
    ap letter_of c.code_of.ensures ∙ sym (letter-at _ _ _ within)
