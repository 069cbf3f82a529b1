use Prim.Native.Nat.{◌<◌}
use native.Mathlib.Omega.{arith}
use mathlib.Core.Path.{◌∙◌}
use lib.ListN.{length}
use Rattle.turns.proofs.Loading.{share-none}
use Rattle.turns.proofs.load.mend_room.Goals as goal

pub change_part-requires : goal.change_part-requires
change_part-requires c t l =
    let asked = c.requires t l in let none = share-none c.args.was t in (asked.0, omega (arith, asked.0, asked.1, none))

pub change_part-requires-2 : goal.change_part-requires-2
change_part-requires-2 c t l =
    let before : t < length c.args.loads.now = omega (arith, l, c.change_part.ensures.0) in
    let asked = c.requires t before in
    let none = share-none c.args.is t in
    let taken = c.change_part.ensures.1 t before in
    (omega (arith, none), omega (arith, none, taken, share-none c.args.was t, asked.0, asked.1))

pub returns : goal.returns
returns c = (
  c.change_part-2.ensures.0 ∙ c.change_part.ensures.0,
  λ t l.
      let taken = c.change_part.ensures.1 t l in
      let added = c.change_part-2.ensures.1 t (omega (arith, l, c.change_part.ensures.0)) in
      omega (arith, taken, added, share-none c.args.was t, share-none c.args.is t),
)
