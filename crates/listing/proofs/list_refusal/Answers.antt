use Rattle.text.proofs.Puts.{put_all}
use Rattle.listing.specs.Listing.{refused_line}
use Rattle.listing.proofs.list_refusal.Goals as goal

pub returns : goal.returns
unfolding refused_line
returns c = rw (← c.from-fault.ensures) (put_all c.put_line.ensures)
