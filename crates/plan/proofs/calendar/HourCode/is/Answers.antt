use mathlib.Core.Path.{◌≡◌, sym}
use lib.Dec.{eqb}
use Prim.Native.Nat.{ℕ}
use denote.Enum.Declared.{tag_of}
use Rattle.plan.specs.contracts.HourKind.{the_type}
use Rattle.plan.specs.declared.HourKind.{HourKind}
use Rattle.plan.specs.declared.HourKind.TheVariants.{Regular, Closed, Overtime}
use Rattle.plan.specs.HourKinds.{symbol_of}
use Rattle.plan.specs.Packed.{letter_of}
use Rattle.plan.proofs.Codes.{letter-closed, letter-regular, letter-overtime}
use Rattle.plan.proofs.calendar.HourCode.is.Goals as goal

by-kind : (n : ℕ) (k : HourKind) → eqb n (tag_of the_type k) ≡ eqb (letter_of n) (symbol_of k)
by-kind n Closed = sym (letter-closed n)
by-kind n Regular = sym (letter-regular n)
by-kind n Overtime = sym (letter-overtime n)

pub returns : goal.returns
returns c = by-kind c.args.self.number c.args.kind
