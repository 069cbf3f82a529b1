-- Laws of a line's numbers: what the first cells hold of them, and how many a task line may have. Assumes nothing.
use mathlib.Core.Path.{◌≡◌, sym, ap, ◌∙◌}
use mathlib.Core.Bool.{true}
use mathlib.Core.List.{List}
use Prim.Native.Nat.{ℕ, ◌+◌, ◌-◌, ◌≤◌, ◌<◌}
use native.Mathlib.Omega.{arith}
use lib.ListN.{length, get_or, take, drop}
use lib.Seq.{get_or-take, take_all}
use lib.Dec.{eqb}
use borrow.Author.Tests.{eqb-true}
use Rattle.units.proofs.Choices.{if-case}
use Rattle.plan_format.specs.Text.{is_task_line}
use Rattle.text.specs.Reading.{Begin}
use Rattle.plan_lines.proofs.Sections.{section-part, section-swap}

-- ---- a line's numbers, from the first cells

module _ {ns cells : List ℕ} {count : ℕ} (begin : Begin ns count cells) where
  pub begin-cell : (k : ℕ) → k < count → k < length cells → get_or cells k 0 ≡ get_or ns k 0
  begin-cell k h m =
      sym (get_or-take count cells k 0 h) ∙ ap (λ (l : List ℕ). get_or l k 0) begin.kept ∙ get_or-take (length cells) ns k 0 m

  -- all of them, if there is room
  pub begin-all : count ≤ length cells → take count cells ≡ ns
  begin-all h = begin.kept ∙ take_all (length cells) ns (omega (arith, begin.counted))

  -- one of them, and one for each room
  pub begin-rooms : 1 ≤ count → Begin ns (1 + (count - 1)) cells
  begin-rooms h = let e : 1 + (count - 1) ≡ count = omega arith in rw e begin

-- H, and the numbers after it
pub capacities-are : (rooms : ℕ) {ns cells : List ℕ} → Begin ns (1 + rooms) cells → 1 + rooms ≤ length cells
    → take (1 + rooms - 1) (drop 1 cells) ≡ drop 1 ns
capacities-are rooms {cells = cells} begin h =
    section-part 1 rooms cells ∙ section-swap 1 rooms cells (omega arith) ∙ ap (drop 1) (begin-all begin h)

-- ---- how many numbers a task line may have

pub line_size : (rooms numbers : ℕ) → is_task_line rooms numbers ≡ true → (rooms + 2 ≤ numbers) × (numbers ≤ rooms + 8)
unfolding is_task_line
line_size rooms numbers e =
    if-case (eqb numbers (rooms + 2)) true (eqb numbers (rooms + 8)) true e
    (λ p q. let size = eqb-true numbers (rooms + 2) p in (omega arith, omega arith))
    (λ p q. let size = eqb-true numbers (rooms + 8) q in (omega arith, omega arith))
