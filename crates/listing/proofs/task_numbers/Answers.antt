use mathlib.Core.List.{List, ◌∷◌, append-nil}
use mathlib.Core.Path.{◌≡◌, ap, ◌∙◌}
use Prim.Native.Nat.{ℕ}
use native.Mathlib.Omega.{arith}
use Rattle.std.proofs.lemmas.Grind.{common_steps}
use Rattle.listing.proofs.task_numbers.Goals as goal

pub returns : goal.returns
returns c =
    let six : c.map.result ≡ c.box_cells.result = grind (arith, common_steps) in
    ap (λ (l : List ℕ). c.args.i ∷ l) (append-nil _ ∙ c.copy_from_slice.ensures.after ∙ six ∙ c.box_cells.ensures)
