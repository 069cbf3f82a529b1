-- The word that opens the listing of a run, by how it ended.
use Rattle.std.specs.Prelude.{List, ℕ}
use Rattle.steps.specs.declared.Ending.{Ending}
use Rattle.steps.specs.declared.Ending.TheVariants.{Settled, Impossible, NoRoom}
use Rattle.text.specs.Words.{word_settled, word_impossible, word_room}

abbrev pub word_of : Ending → List ℕ
word_of Settled = word_settled
word_of Impossible = word_impossible
word_of NoRoom = word_room
