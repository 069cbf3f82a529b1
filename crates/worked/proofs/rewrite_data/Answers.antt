use Rattle.std.proofs.Common.{arith}
use Rattle.text.proofs.Parts.{first-within}
use Rattle.worked.proofs.rewrite_data.Goals as goal

pub returns : goal.returns
returns g c = omega (arith, c.end_of.ensures, first-within 46 c.rewrite-answer.new.out)
