-- A reach lengthened by four hours at once is lengthened by each of them. Assumes nothing.
use mathlib.Core.Path.{◌≡◌, refl, sym, ap, ◌∙◌}
use mathlib.Core.Bool.{Bool, true, false, not}
use mathlib.Core.Logic.{inl, inr}
use mathlib.Core.List.{List}
use Prim.Native.Nat.{ℕ, min, ◌+◌, ◌-◌, ◌≤◌, ◌<◌}
use native.Mathlib.Omega.{arith}
use lib.ListN.{length, get_or}
use borrow.Author.Tests.{not-false}
use Rattle.units.specs.Sums.{one_if}
use Rattle.units.specs.Limits.{most_hours}
use Rattle.units.specs.declared.Bounds.{Bounds}
use Rattle.units.proofs.Choices.{untrue}
use Rattle.units.proofs.Summing.{one-le}
use Rattle.plan.specs.HourKinds.{is_kind, regular, overtime}
use Rattle.stretches.specs.declared.Reach.{Reach}
use Rattle.stretches.specs.Inner.Stretches.{IsReach, stretch_of, stretch_from, nothing_at, with_letter, with_next, with_four, WithMore, may_end, may_last, shortest_at, longest_at, lengthened}
use Rattle.stretches.proofs.Coded.{next-by}
use Rattle.stretches.proofs.Stretches.{next-reach, reach-miss, more-lasts, may-end, nothing-is, is-stretch, long-none, long-least}

-- one hour more, by its code, of a reach that is known
pub code-next : {x : ℕ} (cal : List ℕ) (r before : Reach) (t : ℕ) {next : Reach} → before ≡ r → t ≡ r.end.0 → x ≡ get_or cal t 0
    → next ≡ with_letter x before → next ≡ with_next cal r
code-next {x} cal r before t same at is made =
    made ∙ ap (with_letter x) same ∙ next-by cal r (is ∙ ap (λ (k : ℕ). get_or cal k 0) at)

-- with one hour more the counts grow by one at most
grown : (cal : List ℕ) (r : Reach) → ((with_next cal r).regular ≤ r.regular + 1) × ((with_next cal r).overtime ≤ r.overtime + 1)
grown cal r = omega (arith, one-le (is_kind regular cal r.end.0), one-le (is_kind overtime cal r.end.0))

-- of no hours
pub nothing-reach : (cal : List ℕ) (s : ℕ) → s ≤ length cal → length cal ≤ most_hours → IsReach cal s (nothing_at s)
nothing-reach cal s inside short =
    let none : s - s ≡ 0 = omega arith in
    record {
      from = omega arith;
      stretch = is-stretch _ _ _ _ (nothing-is cal s) (record { inside = omega (arith, inside); short = short });
    }

-- a reach from s on, lengthened to where another is
abbrev Same : List ℕ → ℕ → (ℕ → Bool) → Reach → Reach → Type 0
Same cal s test more r = IsReach cal s more × (lengthened cal s test (more.end.0 - s) ≡ lengthened cal s test (r.end.0 - s))

module _ (cal : List ℕ) (s p : ℕ) (b : Bounds) where
  -- ---- a task can't end that has not worked enough

  short-of : (r : Reach) → IsReach cal s r → r.regular + r.overtime < p → shortest_at cal p b s (r.end.0 - s) ≡ false
  short-of r is l =
      ap (may_end p b) (sym is.stretch.is) ∙ untrue (may_end p b (stretch_from s r)) false (λ h. absurd (let works = (may-end p b (stretch_from s r) h).works in omega (arith, works, l))) refl

  work-step : (r : Reach) → IsReach cal s r → r.end.0 < length cal → r.regular + r.overtime < p
      → Same cal s (shortest_at cal p b s) (with_next cal r) r
  work-step r is inside l = (next-reach is inside, reach-miss is _ inside (short-of r is l))

  work-four : (r : Reach) → IsReach cal s r → r.end.0 + 4 ≤ length cal → r.regular + r.overtime + 6 < p
      → Same cal s (shortest_at cal p b s) (with_four cal r) r
  work-four r is inside l =
      let r₁ = with_next cal r in
      let r₂ = with_next cal r₁ in
      let r₃ = with_next cal r₂ in
      let (is₁, same₁) = work-step r is (omega arith) (omega arith) in
      let (is₂, same₂) = work-step r₁ is₁ (omega (arith, inside)) (omega (arith, l, grown cal r)) in
      let (is₃, same₃) = work-step r₂ is₂ (omega (arith, inside)) (omega (arith, l, grown cal r, grown cal r₁)) in
      let (is₄, same₄) = work-step r₃ is₃ (omega (arith, inside)) (omega (arith, l, grown cal r, grown cal r₁, grown cal r₂)) in
      (is₄, same₄ ∙ same₃ ∙ same₂ ∙ same₁)

  -- ---- a task may last one hour more

  last-step : (r : Reach) → IsReach cal s r → r.end.0 < length cal → s < r.end.0 → r.end.0 < s + b.longest.0
      → r.regular + 2 ≤ p + one_if (is_kind regular cal s) → r.regular + 1 + b.fewest.0 ≤ p
      → Same cal s (longest_at cal p b s) (with_next cal r) r
  last-step r is inside some long ends work =
      let lasts = more-lasts is inside p b some long ends (omega (arith, work, one-le (is_kind regular cal r.end.0))) in
      (next-reach is inside, reach-miss is _ inside (ap not lasts))

  last-four : (r : Reach) → IsReach cal s r → r.end.0 + 4 ≤ length cal → s < r.end.0 → r.end.0 + 4 ≤ s + b.longest.0
      → r.regular + 5 ≤ p + one_if (is_kind regular cal s) → r.regular + 4 + b.fewest.0 ≤ p
      → Same cal s (longest_at cal p b s) (with_four cal r) r
  last-four r is inside some long ends work =
      let r₁ = with_next cal r in
      let r₂ = with_next cal r₁ in
      let r₃ = with_next cal r₂ in
      let (is₁, same₁) = last-step r is (omega arith) some (omega arith) (omega arith) (omega arith) in
      let (is₂, same₂) = last-step r₁ is₁ (omega arith) (omega arith) (omega arith) (omega (arith, ends, grown cal r)) (omega (arith, work, grown cal r)) in
      let (is₃, same₃) =
      last-step r₂ is₂ (omega arith) (omega arith) (omega arith) (omega (arith, ends, grown cal r, grown cal r₁))
      (omega (arith, work, grown cal r, grown cal r₁)) in
      let (is₄, same₄) =
      last-step r₃ is₃ (omega arith) (omega arith) (omega arith) (omega (arith, ends, grown cal r, grown cal r₁, grown cal r₂))
      (omega (arith, work, grown cal r, grown cal r₁, grown cal r₂)) in
      (is₄, same₄ ∙ same₃ ∙ same₂ ∙ same₁)

  -- ---- with one hour more or with four

  pub work-more : (limit : ℕ) (at more : Reach) → IsReach cal s at → at.end.0 < limit → limit ≤ length cal → at.regular + at.overtime + 6 < p
      → WithMore cal limit at more → Same cal s (shortest_at cal p b s) more at × (at.end.0 < more.end.0)
  work-more limit at more is inside within far (inl one) = rw one (work-step at is (omega (arith, inside, within)) (omega (arith, far)), omega arith)
  work-more limit at more is inside within far (inr (four, fits)) = rw four (work-four at is (omega (arith, fits, within)) far, omega arith)

  pub last-more : (limit most : ℕ) (at more : Reach) → IsReach cal s at → s < at.end.0 → at.end.0 < limit → limit ≡ min (length cal) (s + b.longest.0)
      → most ≡ p + one_if (is_kind regular cal s) → at.regular + 5 ≤ most → at.regular + 4 + b.fewest.0 ≤ p → WithMore cal limit at more
      → Same cal s (longest_at cal p b s) more at × (at.end.0 < more.end.0)
  last-more limit most at more is some inside least ends many spare (inl one) =
      rw one
      (last-step at is (omega (arith, inside, least)) some (omega (arith, inside, least)) (omega (arith, many, ends)) (omega (arith, spare)), omega arith)
  last-more limit most at more is some inside least ends many spare (inr (four, fits)) =
      rw four (last-four at is (omega (arith, fits, least)) some (omega (arith, fits, least)) (omega (arith, many, ends)) spare, omega arith)

  -- ---- from no hours on

  -- a task that far from working enough can't end before
  pub none-ends : (r : Reach) → lengthened cal s (shortest_at cal p b s) (r.end.0 - s) ≡ lengthened cal s (shortest_at cal p b s) (s - s)
      → (e : ℕ) → e < r.end.0 - s → may_end p b (stretch_of cal s e) ≡ false
  none-ends r same e l =
      long-none cal s (shortest_at cal p b s) (s - s) e (omega arith) (omega (arith, l, same, long-least cal s (shortest_at cal p b s) (r.end.0 - s)))

  -- and one that lasts so long lasts each shorter time
  pub each-lasts : (r : Reach) → lengthened cal s (longest_at cal p b s) (r.end.0 - s) ≡ lengthened cal s (longest_at cal p b s) 0
      → (e : ℕ) → 1 ≤ e → e ≤ r.end.0 - s → may_last cal p b s e ≡ true
  each-lasts r same e some l =
      let one : e - 1 + 1 ≡ e = omega (arith, some) in
      let k = long-none cal s (longest_at cal p b s) 0 (e - 1) (omega arith) (omega (arith, some, l, same, long-least cal s (longest_at cal p b s) (r.end.0 - s))) in
      not-false _ (ap (λ (m : ℕ). not (may_last cal p b s m)) (sym one) ∙ k)
