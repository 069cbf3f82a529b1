use Rattle.std.specs.Prelude.{ℕ, List, ◌≡◌, ◌+◌, ◌++◌, length}
use Rattle.units.proofs.Searching.{Unfound}
use Rattle.plan.specs.Faults.{symbol_fault}
use Rattle.plan_lines.specs.Inner.Scanning.{wrong_symbol_fault, symbols_fault}
use Rattle.plan_lines.proofs.first_wrong_symbol.Given as goal

abbrev pub invariant-loop-i : goal.invariant-loop-i
invariant-loop-i l = (xs : List ℕ) → l.symbols ≡ length xs → wrong_symbol_fault l.fn.before ≡ symbols_fault xs
    → Unfound (symbol_fault (xs ++ l.calendar)) (length (xs ++ l.calendar)) (length xs + l.i)
