use mathlib.Core.Path.{◌≡◌}
use lib.ListN.{length}
use Rattle.text.specs.Fields.{tab, parts}
use Rattle.text.proofs.Gathering.{Gathered}
use Rattle.text.proofs.fields.numbers_of.Given as goal

abbrev pub invariant-loop-field : goal.invariant-loop-field
invariant-loop-field l =
    (l.count ≡ length l.yielded) × (length l.cells ≡ length l.initial.cells) × Gathered (parts tab l.fields) l.count l.cells
