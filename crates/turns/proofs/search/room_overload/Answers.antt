use mathlib.Core.Path.{sym, ◌∙◌}
use native.Mathlib.Omega.{arith}
use lib.Dec.{ltb}
use lib.ListN.{get_or}
use Rattle.steps.specs.Steps.{step, letter_o}
use Rattle.turns.specs.Inner.Finding.{room_overload}
use Rattle.turns.proofs.Scanning.{first-passes, made-none, made-of}
use Rattle.turns.proofs.search.room_overload.Goals as goal

pub returns-in_err-hour : goal.returns-in_err-hour
unfolding room_overload
returns-in_err-hour c =
    c.from_residual.ensures
    ∙ sym
    (made-none (step letter_o c.args.room) (λ t. ltb c.args.capacity.0 (get_or c.args.loads.now t 0)) _
    (sym c.first_above.ensures ∙ c.in_err-hour.was))

pub overflow_cast-result : goal.overflow_cast-result
overflow_cast-result c =
    let found = first-passes (λ t. ltb c.args.capacity.0 (get_or c.args.loads.now t 0)) _ _ (sym c.first_above.ensures ∙ c.in_ok-hour.was) in
    omega (arith, found.0, c.requires)

pub returns : goal.returns
unfolding room_overload
returns c =
    rw c.letter.ensures
    (sym
    (made-of (step letter_o c.args.room) (λ t. ltb c.args.capacity.0 (get_or c.args.loads.now t 0)) _ _
    (sym c.first_above.ensures ∙ c.in_ok-hour.was)))
