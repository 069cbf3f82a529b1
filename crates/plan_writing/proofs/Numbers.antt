-- Laws of the numbers of a task's line as they are put, one after the other, into an array that has room for the most. Assumes nothing.
use mathlib.Core.Path.{◌≡◌, ap, ap₂, ◌∙◌}
use mathlib.Core.List.{List, [], ◌∷◌, ◌++◌, append_assoc}
use Prim.Native.Nat.{ℕ, suc, ◌+◌, ◌≤◌, ◌<◌}
use native.Mathlib.Omega.{arith}
use lib.ListN.{length, get_or, take, set}
use lib.Seq.{take-suc-set}
use Rattle.units.specs.declared.Bounds.{Bounds}
use Rattle.units.proofs.Cells.{written-front}
use Rattle.units.proofs.Lists.{list-next}
use Rattle.text.specs.Putting.{Put}
use Rattle.plan.specs.Plan.{room_part}
use Rattle.plan.specs.Boxes.{bounds_at, box_cells}
use Rattle.plan_format.specs.Writing.{heights_at, task_numbers}

-- the heights, room by room, after the k numbers that stand first
pub height-next : (first numbers : List ℕ) (k room tasks : ℕ) (hs : List ℕ) (i : ℕ) {n : ℕ} → room + k < length numbers
    → n ≡ get_or (room_part tasks hs room) i 0
    → take (room + k) numbers ≡ first ++ heights_at room tasks hs i
    → take (room + 1 + k) (set numbers (room + k) n) ≡ first ++ heights_at (room + 1) tasks hs i
unfolding heights_at
height-next first numbers k room tasks hs i {n} l q e =
    let step : room + 1 + k ≡ suc (room + k) = omega arith in
    rw (step, list-next (λ r. get_or (room_part tasks hs r) i 0) room, ← q)
    (take-suc-set numbers (room + k) n l ∙ ap (λ m. m ++ (n ∷ [])) e ∙ append_assoc first _ (n ∷ []))

-- six bounds after them
pub all-numbers : (rooms : ℕ) (cs ws hs bs : List ℕ) (i : ℕ) (first all : List ℕ) {at next : ℕ} {six : List ℕ} {b : Bounds} → at ≡ rooms
    → rooms + 2 ≤ length first → take (rooms + 2) first ≡ get_or cs i 0 ∷ get_or ws i 0 ∷ heights_at rooms (length cs) hs i
    → b ≡ bounds_at bs i → six ≡ box_cells b → Put six (at + 2) first next all
    → take next all ≡ task_numbers rooms cs ws hs bs i
unfolding task_numbers
all-numbers rooms cs ws hs bs i first all {at} {next} {six} {b} e l p q s put =
    let cells : six ≡ box_cells (bounds_at bs i) = s ∙ ap box_cells q in
    rw (put.place, put.cells_left, e) (written-front (rooms + 2) six first l ∙ ap₂ (λ l r. l ++ r) p cells)
