use native.Mathlib.Omega.{arith}
use Rattle.steps.specs.Entry.{step_at}
use Rattle.propagation.proofs.Answering.{answers-are}
use Rattle.propagation.proofs.Fits.{all-fitting}
use Rattle.propagation.proofs.Keeping.{ready, pairs_ready}
use Rattle.propagation.proofs.Replaying.{replay-opens, replay-done, replay-13, replay-11, replay-12, replay-stops, replay-may-move, replay-moves}
use Rattle.propagation.proofs.replay.replay_log.Goals as goal

pub put_answers-requires : goal.put_answers-requires
put_answers-requires c = all-fitting _ _ c.requires.passed.0

pub loop-k-init : goal.loop-k-init
loop-k-init c =
    let answered = c.put_answers.ensures in
    (replay-opens c.requires.passed (answers-are answered) answered.fits, answered)

pub returns-then-impossible : goal.returns-then-impossible
returns-then-impossible c = replay-13 c.loop-k.invariant.0 c.loop-k-test.true c.if-impossible.true

pub invariant_of-state : goal.invariant_of-state
invariant_of-state c = let p = c.loop-k.invariant.0.keeps.passed in record { ready = ready _ _ p; short = p.hours; pairs_ready = pairs_ready _ _ p }

pub returns-in-Unknown : goal.returns-in-Unknown
unfolding step_at
returns-in-Unknown c = replay-11 c.loop-k.invariant.0 c.loop-k-test.true c.if-impossible.false c.judge_step.ensures c.in-Unknown.is

pub returns-in-NotAdmitted : goal.returns-in-NotAdmitted
unfolding step_at
returns-in-NotAdmitted c = replay-12 c.loop-k.invariant.0 c.loop-k-test.true c.if-impossible.false c.judge_step.ensures c.in-NotAdmitted.is

pub loop-k-preserved-in-Impossible : goal.loop-k-preserved-in-Impossible
unfolding step_at
loop-k-preserved-in-Impossible c = (
  replay-stops c.loop-k.invariant.0 c.loop-k-test.true c.if-impossible.false c.judge_step.ensures c.in-Impossible.is,
  c.loop-k.invariant.1,
)

pub move_bounds-requires-clause-fits : goal.move_bounds-requires-clause-fits
unfolding step_at
move_bounds-requires-clause-fits c =
    replay-may-move c.loop-k.invariant.0 c.loop-k-test.true c.if-impossible.false c.judge_step.ensures c.in-Moved.is

pub loop-k-preserved : goal.loop-k-preserved
unfolding step_at
loop-k-preserved c = (
  replay-moves c.loop-k.invariant.0 c.loop-k-test.true c.if-impossible.false c.judge_step.ensures c.in-Moved.is c.move_bounds.ensures.moves,
  c.move_bounds.ensures.answered,
)

pub returns : goal.returns
returns c = replay-done c.loop-k.invariant.0 (omega (arith, c.loop-k-test.false, c.loop-k.auto.k-end))
