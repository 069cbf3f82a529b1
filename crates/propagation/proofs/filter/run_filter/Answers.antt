use mathlib.Core.Path.{refl}
use Rattle.steps.specs.Entry.{ending_answer}
use Rattle.propagation.proofs.Answering.{answers-are}
use Rattle.propagation.proofs.Fits.{all-fitting}
use Rattle.propagation.proofs.Keeping.{ready, pairs_ready}
use Rattle.propagation.proofs.Filtering.{filter-opens, settles, fills, stops_at, filter-may-move, moved_task, put-back, goes_on}
use Rattle.propagation.proofs.filter.run_filter.Goals as goal

pub put_answers-requires : goal.put_answers-requires
put_answers-requires c = all-fitting _ _ c.requires.passed.0

pub fill_loads-requires-clause-ready : goal.fill_loads-requires-clause-ready
fill_loads-requires-clause-ready c = (ready _ _ c.requires.passed.0).rooms_ready

pub loop-next-init : goal.loop-next-init
loop-next-init c =
    let answered = c.put_answers.ensures in
    (filter-opens c.requires.passed (answers-are answered) answered.fits, answered, c.fill_loads.ensures)

pub invariant_of-state : goal.invariant_of-state
invariant_of-state c = let p = c.loop-next.invariant.0.keeps.passed in record { ready = ready _ _ p; short = p.hours; pairs_ready = pairs_ready _ _ p }

pub bounds-answers-task : goal.bounds-answers-task
bounds-answers-task c =
    (filter-may-move c.loop-next.invariant.0 (c.next_turn.ensures.answer _ _ _ refl) 0 c.in-Some.is c.if-log_kinds-count.false c.in-Moved.is
    (c.next_turn.ensures.there _ _ _)).0

pub mend_loads-requires-clause-task : goal.mend_loads-requires-clause-task
mend_loads-requires-clause-task c =
    moved_task c.loop-next.invariant.0 (c.next_turn.ensures.answer _ _ _ refl) 0 c.in-Some.is c.if-log_kinds-count.false c.in-Moved.is
    (c.next_turn.ensures.there _ _ _)

pub mend_loads-requires-clause-loaded : goal.mend_loads-requires-clause-loaded
mend_loads-requires-clause-loaded c = rw (put-back _ _ _ c.move_bounds.ensures.moves.1) c.loop-next.invariant.2

pub move_bounds-requires-clause-fits : goal.move_bounds-requires-clause-fits
move_bounds-requires-clause-fits c =
    filter-may-move c.loop-next.invariant.0 (c.next_turn.ensures.answer _ _ _ refl) 0 c.in-Some.is c.if-log_kinds-count.false c.in-Moved.is
    (c.next_turn.ensures.there _ _ _)

pub loop-next-preserved : goal.loop-next-preserved
loop-next-preserved c = (
  goes_on c.loop-next.invariant.0 (c.next_turn.ensures.answer _ _ _ refl) 0 c.in-Some.is c.if-log_kinds-count.false c.in-Moved.is
      (c.next_turn.ensures.there _ _ _) c.move_bounds.ensures.moves,
  c.move_bounds.ensures.answered,
  c.mend_loads.ensures,
)

pub returns-in_default : goal.returns-in_default
unfolding ending_answer
returns-in_default c = settles c.loop-next.invariant.0 (c.next_turn.ensures.answer _ _ _ refl) _ c.in_default.is

pub returns-then-log_kinds-count : goal.returns-then-log_kinds-count
unfolding ending_answer
returns-then-log_kinds-count c = fills c.loop-next.invariant.0 (c.next_turn.ensures.answer _ _ _ refl) _ c.in-Some.is c.if-log_kinds-count.true

pub returns-in_default-judged : goal.returns-in_default-judged
unfolding ending_answer
returns-in_default-judged c =
    stops_at c.loop-next.invariant.0 (c.next_turn.ensures.answer _ _ _ refl) _ c.in-Some.is c.if-log_kinds-count.false c.in_default-judged.not-Moved
