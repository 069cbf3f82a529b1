-- A reach with an hour more or less by the hour's code is the same by the calendar's hour. Assumes nothing.
use Rattle.std.specs.Prelude.{if◌then◌else◌}
use mathlib.Core.Path.{◌≡◌, refl, sym, ap, ◌∙◌}
use mathlib.Core.Bool.{Bool, true, false}
use mathlib.Core.List.{List}
use Prim.Native.Nat.{ℕ, ◌+◌, ◌≤◌, ◌<◌}
use native.Mathlib.Omega.{arith}
use lib.Dec.{eqb, leb, ltb}
use lib.ListN.{get_or}
use Rattle.units.specs.Sums.{one_if}
use Rattle.plan.specs.HourKinds.{is_kind, regular, overtime}
use Rattle.plan.specs.Packed.{letter_of}
use Rattle.plan.specs.declared.calendar.HourCode.{HourCode}
use Rattle.stretches.specs.declared.Reach.{Reach}
use Rattle.stretches.specs.Inner.Stretches.{IsReach, IsCodeOf, HasFirst, with_letter, without_letter, with_next, without_start}
use Rattle.stretches.proofs.Stretches.{has_first}

module _ {x : ℕ} (cal : List ℕ) (t : ℕ) (is : x ≡ get_or cal t 0) where
  -- it is of a kind, and counts for it, as the hour
  pub kind-by : (kind : ℕ) → eqb x kind ≡ is_kind kind cal t
  unfolding is_kind
  kind-by kind = ap (λ (y : ℕ). eqb y kind) is

  pub counts-as : (kind : ℕ) → one_if (eqb x kind) ≡ one_if (is_kind kind cal t)
  unfolding is_kind
  counts-as kind = ap (λ (y : ℕ). one_if (eqb y kind)) is

  pub without-by : (r : Reach) → without_letter x t r ≡ without_start cal t r
  unfolding is_kind
  without-by r = ap (λ (y : ℕ). without_letter y t r) is

pub has-first : (code : HourCode) (cal : List ℕ) (t : ℕ) {r : Reach} → IsCodeOf code cal t → IsReach cal t r → HasFirst code t r
has-first code cal t is reach = λ later.
    let (regulars, overtimes) = has_first reach.stretch (omega (arith, later)) in
    (omega (arith, regulars, counts-as cal t is regular), omega (arith, overtimes, counts-as cal t is overtime))

-- the hour after the end of a reach
module _ {x : ℕ} (cal : List ℕ) (r : Reach) (is : x ≡ get_or cal r.end.0 0) where
  pub next-by : with_letter x r ≡ with_next cal r
  unfolding is_kind
  next-by = ap (λ (y : ℕ). with_letter y r) is

  pub leaves-by : (fewest p : ℕ)
      → leb (r.regular + one_if (eqb x regular) + fewest) p ≡ leb (r.regular + one_if (is_kind regular cal r.end.0) + fewest) p
  leaves-by fewest p = ap (λ (n : ℕ). leb (r.regular + n + fewest) p) (counts-as cal r.end.0 is regular)

-- a reach without hours ends at the start, so that the start is the hour after its end
pub at-end : (x : ℕ) (cal : List ℕ) (s : ℕ) (r : Reach) → IsReach cal s r → r.end.0 ≤ s → x ≡ get_or cal s 0 → x ≡ get_or cal r.end.0 0
at-end x cal s r is ends first =
    let same : s ≡ r.end.0 = omega (arith, is.from, ends) in
    first ∙ ap (λ (t : ℕ). get_or cal t 0) same

-- a count of one is of an hour of the kind
pub count-some : (b : Bool) (n : ℕ) → n ≡ one_if b → 0 < n → b ≡ true
count-some true n e l = refl
count-some false n e l = absurd (omega (arith, e))

pub count-none : (b : Bool) (n : ℕ) → n ≡ one_if b → n ≤ 0 → b ≡ false
count-none true n e l = absurd (omega (arith, e))
count-none false n e l = refl
