use Rattle.std.proofs.Common.{refl}
use Rattle.text_listing.proofs.Room.{within-room, part_length}
use Rattle.shimlantern.proofs.main.Goals as goal

pub slice_bounds-out-end : goal.slice_bounds-out-end
slice_bounds-out-end c =
    let (text, taken, long, left) = c.in-Ok.ensures.listing in
    within-room _ _ _ _ long left

pub slice_bounds-write_all-end : goal.slice_bounds-write_all-end
slice_bounds-write_all-end c =
    let (text, taken, long, left) = c.in-Ok.ensures.listing in
    part_length _ _ _ refl (within-room _ _ _ _ long left)
