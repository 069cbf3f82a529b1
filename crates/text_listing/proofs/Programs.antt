-- Laws of what the program prints: from what its parts leave. Assumes nothing.
use mathlib.Core.Path.{◌≡◌, ap, ◌∙◌}
use mathlib.Core.List.{List}
use Prim.Native.Nat.{ℕ, ◌*◌}
use lib.ListN.{length, take}
use Rattle.units.specs.Cells.{written}
use Rattle.plan.specs.Plan.{task_count}
use Rattle.plan.specs.Packed.{bytes_of}
use Rattle.plan.specs.Over.{PackedPlan, packed_plan, unpacked}
use Rattle.plan.specs.declared.Fault.{Fault}
use Rattle.plan.specs.Refusals.{refused, answered, on_answer}
use Rattle.steps.specs.Entry.{FilterAnswer, FilterEnd, filter_end, filter_packed}
use Rattle.plan_format.specs.Reading.{PlanRead, end_with}
use Rattle.listing.specs.Listing.{refused_line, listing}
use Rattle.text_listing.specs.Program.{empty_memory, step_room, plan_listing, read_end, read_listing, listing_of_text}

-- the bytes put are those of the listing
pub put_as : {xs ys left : List ℕ} {n : ℕ} (cells : List ℕ) → xs ≡ ys → n ≡ length xs → left ≡ written xs cells
    → (n ≡ length ys) × (left ≡ written ys cells)
put_as cells e p q = (p ∙ ap length e, q ∙ ap (λ (l : List ℕ). written l cells) e)

pub plan-listed : (P : PackedPlan) (boxes : List ℕ) (answer : FilterAnswer) (left ks ts hs : List ℕ)
    → filter_end answer left ks ts hs ≡ filter_packed P boxes (empty_memory step_room) (empty_memory step_room) (empty_memory step_room)
    → listing answer left (task_count (unpacked P)) ≡ plan_listing P boxes
unfolding plan_listing
plan-listed P boxes answer left ks ts hs e = ap (λ (l : FilterEnd). listing l.answer l.boxes (task_count (unpacked P))) e

module _ (text : List ℕ) where
  pub text-refused : (f : Fault) (rs cs ts ws hs ps bs : List ℕ) → end_with (refused f) rs cs ts ws hs ps bs ≡ read_end text
      → refused_line f ≡ listing_of_text text
  unfolding listing_of_text on_answer
  text-refused f rs cs ts ws hs ps bs e = rw (← e)

  -- a plan that was read, listed from the first cells of what was lent
  pub text-read : (a : PlanRead) (rs cs ts ws hs ps bs : List ℕ) → end_with (answered a) rs cs ts ws hs ps bs ≡ read_end text
      → plan_listing
      (packed_plan a.hours (take a.rooms rs) (take (a.calendars * bytes_of a.hours) cs) (take a.tasks ts) (take a.tasks ws) (take (a.rooms * a.tasks) hs)
      (take (2 * a.pairs) ps))
      (take (6 * a.tasks) bs)
      ≡ listing_of_text text
  unfolding listing_of_text read_listing on_answer
  text-read a rs cs ts ws hs ps bs e = rw (← e)
