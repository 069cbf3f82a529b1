use mathlib.Core.List.{[]}
use Rattle.text_listing.proofs.list_input.Goals as goal

pub list_reading-requires : goal.list_reading-requires
list_reading-requires g c =
    let (bytes, taken, read) = c.in_ok-read_all.ensures.read [] c.begin-reading.ensures in
    (_, read)

pub returns-clause-listing : goal.returns-clause-listing
returns-clause-listing g c =
    let (bytes, taken, read) = c.in_ok-read_all.ensures.read [] c.begin-reading.ensures in
    let (long, left) = c.list_reading.ensures _ read in
    (bytes, taken, long, left)
