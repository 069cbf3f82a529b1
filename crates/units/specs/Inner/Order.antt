-- Two bounds as their constructor made them. Only contracts of private functions cite this.
use Rattle.std.specs.Prelude.{Bool, false, Option, None, Some}
use Rattle.std.specs.Ordering.{is_le}
use Rattle.std.specs.declared.cmp.Ordering.{Ordering}

-- both are there, and the lower is at most the upper
abbrev pub in_order : {A : Type 0} → (A → A → Ordering) → Option A → Option A → Bool
in_order cmp (Some l) (Some u) = is_le (cmp l u)
in_order cmp (Some l) None = false
in_order cmp None upper = false
