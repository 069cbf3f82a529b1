use mathlib.Core.Path.{ap, ◌∙◌}
use mathlib.Core.List.{List}
use Prim.Native.Nat.{ℕ, ◌+◌, ◌*◌}
use Rattle.units.specs.Cells.{written_at}
use Rattle.std.proofs.lemmas.List.{take_rest}
use Rattle.plan_lines.specs.Inner.Scanning.{boxes_at}
use Rattle.plan_format.proofs.Boxes.{box-long, box-short}
use Rattle.plan_lines.proofs.store_box.Goals as goal

pub returns-then-numbers-rooms : goal.returns-then-numbers-rooms
returns-then-numbers-rooms c =
    c.put_all.ensures.cells_left
    ∙ ap (λ (xs : List ℕ). written_at (boxes_at + 6 * c.args.task) xs c.args.cells.now)
    (take_rest c.args.numbers.now (c.args.rooms + 2)
    ∙ box-long c.args.hours c.args.rooms c.args.numbers.now c.if-numbers-rooms.true)

pub returns-else-numbers-rooms : goal.returns-else-numbers-rooms
returns-else-numbers-rooms c =
    c.put_all-else-numbers-rooms.ensures.cells_left
    ∙ ap (λ (xs : List ℕ). written_at (boxes_at + 6 * c.args.task) xs c.args.cells.now)
    (box-short c.args.hours c.args.rooms _ c.args.numbers.now c.saturating_sub.ensures c.if-numbers-rooms.false)
