use mathlib.Core.Path.{ap, ◌∙◌}
use Prim.Native.Nat.{◌+◌, ◌*◌, ◌≤◌}
use native.Mathlib.Omega.{arith}
use lib.ListN.{length, take}
use Rattle.units.specs.Cells.{written_at}
use Rattle.plan_format.specs.Reading.{box_of}
use Rattle.plan_lines.specs.Inner.Scanning.{boxes_at}
use Rattle.plan_lines.proofs.Numbering.{begin-all, line_size}
use Rattle.plan_lines.proofs.Storing.{rooms-over, tasks-over, tasks-more}
use Rattle.plan_lines.proofs.store_task.Goals.{else-scan-le-MOST_ROOMS-via-then-scan-le-MOST_ROOMS+else-task-lt-MOST}
use Rattle.plan_lines.proofs.store_task.Goals.{else-scan-le-MOST_ROOMS-via-else-scan-le-MOST_ROOMS}
use Rattle.plan_lines.proofs.store_task.Goals as goal

pub returns-else-scan-le-MOST_ROOMS : goal.returns-else-scan-le-MOST_ROOMS
returns-else-scan-le-MOST_ROOMS c =
    λ rs ns ps tasks rooms count begin kept.
    elim c.else-scan-le-MOST_ROOMS.branch [
      | else-scan-le-MOST_ROOMS-via-then-scan-le-MOST_ROOMS+else-task-lt-MOST w ↦ tasks-over _ rs ps tasks ns _ count _ w.if-task-lt-MOST.false kept
      | else-scan-le-MOST_ROOMS-via-else-scan-le-MOST_ROOMS w ↦ rooms-over _ rs ps tasks ns _ count _ (omega (arith, w.if-scan-le-MOST_ROOMS.false))
    ]

pub returns-then-task-lt-MOST : goal.returns-then-task-lt-MOST
returns-then-task-lt-MOST c =
    λ rs ns ps tasks rooms count begin kept few.
    let scan = c.args.scan in
    let own = take c.args.count c.args.numbers.now in
    let fits : c.args.count ≤ length c.args.numbers.now = omega (arith, c.if-scan-le-MOST_ROOMS.true, (line_size _ _ c.requires).1) in
    rw (← begin-all begin fits)
    (tasks-more scan.hours rs ps tasks own scan.tasks count c.args.cells.now c.told-cells c.if-task-lt-MOST.true kept few rooms
    (c.store_box.ensures ∙ ap (written_at (boxes_at + 6 * scan.tasks) (box_of scan.hours scan.rooms own)) c.store_heights.ensures) few)
