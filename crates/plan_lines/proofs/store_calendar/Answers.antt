use mathlib.Core.Path.{◌≡◌, sym, ap, ◌∙◌}
use native.Mathlib.Omega.{arith}
use lib.ListN.{length, length-append}
use Rattle.plan.specs.Packed.{packed}
use Rattle.plan.proofs.Packing.{packed-length}
use Rattle.plan_format.specs.Reading.{most_packed}
use Rattle.plan_lines.proofs.Sections.{kept_more, kept-over}
use Rattle.plan_lines.proofs.PackedBytes.{part-written, packed-most}
use Rattle.plan_lines.proofs.store_calendar.Goals.{After-pack}
use Rattle.plan_lines.proofs.store_calendar.Goals as goal

packed-size : (c : After-pack) → c.packed_length.result ≡ length c.pack.new.out
packed-size c = c.packed_length.ensures.0 ∙ sym (packed-length c.args.calendar.now) ∙ sym (ap length c.pack.ensures)

pub returns-then-end-le-MOST_PACKED : goal.returns-then-end-le-MOST_PACKED
returns-then-end-le-MOST_PACKED c =
    λ before count kept.
    let size = packed-length c.args.calendar.now in
    rw (part-written c.args.at c.packed_length.result c.args.calendars.now c.pack.new.out (packed-size c), c.pack.ensures)
    (kept_more 0 most_packed c.args.at before (packed c.args.calendar.now) c.args.calendars.now
    (omega (arith, size, c.packed_length.ensures.0, c.told-calendars, c.if-end-le-MOST_PACKED.true)) kept (omega (arith, count)))

pub returns-else-end-le-MOST_PACKED : goal.returns-else-end-le-MOST_PACKED
returns-else-end-le-MOST_PACKED c =
    λ before count kept.
    let size = packed-length c.args.calendar.now in
    let all = length-append before (packed c.args.calendar.now) in
    kept-over 0 most_packed _ c.args.calendars.now
    (omega (arith, count, packed-most, c.packed_length.ensures.0, c.if-end-le-MOST_PACKED.false, all, size))
