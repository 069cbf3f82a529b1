use mathlib.Core.List.{[]}
use Rattle.text_listing.proofs.list_text.Goals as goal

pub list_reading-requires : goal.list_reading-requires
list_reading-requires c = (_, c.take.ensures.takes [] c.begin-reading.ensures)

pub returns : goal.returns
returns c = c.list_reading.ensures _ (c.take.ensures.takes [] c.begin-reading.ensures)
