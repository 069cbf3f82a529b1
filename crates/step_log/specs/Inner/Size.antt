-- The most steps of a part of a log. In a module of its own: the parts' type has a fact about it.
use Rattle.std.specs.Prelude.{ℕ}

abbrev pub part_size : ℕ
part_size = 64
