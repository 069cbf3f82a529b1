use Rattle.worked.proofs.read_data.Goals as goal

pub loop-init : goal.loop-init
loop-init g c = c.requires.1

pub loop-preserved : goal.loop-preserved
loop-preserved g c = (_, c.take.ensures.takes _ c.loop.invariant.1)
