-- Laws of what writing a plan leaves, refused and written. Assumes nothing.
use mathlib.Core.Path.{◌≡◌, sym, ap, ◌∙◌}
use mathlib.Core.Bool.{Bool}
use Rattle.std.specs.Prelude.{None, Some}
use mathlib.Core.List.{List}
use Prim.Native.Nat.{ℕ, ◌≤◌, ◌<◌}
use lib.ListN.{length}
use borrow.Author.Tests.{le-leb, lt-leb}
use Rattle.units.specs.Choice.{on_option}
use Rattle.units.proofs.Choices.{else-none, else-some}
use Rattle.text.specs.Putting.{Put}
use Rattle.text.proofs.Puts.{put_all}
use Rattle.plan.specs.Plan.{Plan}
use Rattle.plan.specs.declared.Fault.{Fault}
use Rattle.plan.specs.Refusals.{fault, refused, answered}
use Rattle.plan.specs.Faults.{is_right_size, input_fault}
use Rattle.plan.specs.Over.{PackedPlan, unpacked, over_letters, memory_fault, IsLettered, packed_of}
use Rattle.plan.proofs.Over.{refused-over, passed-over, letters-none, unpacked-again, same-tested}
use Rattle.plan.proofs.Refusals.{unless-true, unless-false}
use Rattle.plan_format.specs.Writing.{text_of_plan, write_fault, WriteEnd, write_end, write_plan, write_packed}

module _ (P : Plan) (boxes out : List ℕ) where
  by-fault : {f : Fault} → write_fault P boxes out ≡ Some f → write_end (refused f) out ≡ write_plan P boxes out
  unfolding write_plan on_option
  by-fault e = rw e

  by-input : {f : Fault} → input_fault P boxes ≡ Some f → write_end (refused f) out ≡ write_plan P boxes out
  unfolding write_fault
  by-input e = by-fault (else-some _ _ _ e)

  module _ (passes : input_fault P boxes ≡ None) where
    by-room : length out < length (text_of_plan P boxes) → write_end (refused (fault 33 0)) out ≡ write_plan P boxes out
    unfolding write_fault
    by-room l = by-fault (else-none _ _ passes ∙ unless-false _ 33 0 (lt-leb _ _ l))

    no-fault : length (text_of_plan P boxes) ≤ length out → write_fault P boxes out ≡ None
    unfolding write_fault
    no-fault l = else-none _ _ passes ∙ unless-true _ 33 0 (le-leb _ _ l)

    by-text : {n : ℕ} {left : List ℕ} → length (text_of_plan P boxes) ≤ length out → Put (text_of_plan P boxes) 0 out n left
        → write_end (answered n) left ≡ write_plan P boxes out
    unfolding write_plan on_option
    by-text l p = let (count, cells) = put_all p in rw (no-fault l, count, cells)

-- ---- of a plan in memory

module _ (P : PackedPlan) (boxes out : List ℕ) where
  abbrev sized : Bool
  sized = is_right_size (unpacked P) boxes

  abbrev refuse : Fault → WriteEnd
  refuse f = write_end (refused f) out

  -- what is refused of the letters
  letters-refused : (f : Fault) → input_fault (unpacked P) boxes ≡ Some f → write_plan (unpacked P) boxes out ≡ refuse f
  letters-refused f e = sym (by-input (unpacked P) boxes out e)

  pub writes-refused : {f : Fault} → memory_fault sized P boxes ≡ Some f → write_end (refused f) out ≡ write_packed P boxes out
  unfolding write_packed input_fault
  writes-refused e = sym (refused-over sized P boxes refuse (λ Q. write_plan Q boxes out) _ e letters-refused)

  module _ (passes : memory_fault sized P boxes ≡ None) where
    over : write_plan (unpacked P) boxes out ≡ write_packed P boxes out
    unfolding write_packed
    over = sym (passed-over sized P boxes refuse (λ Q. write_plan Q boxes out) passes)

    pub letters-pass : input_fault (unpacked P) boxes ≡ None
    unfolding input_fault
    letters-pass = letters-none sized P boxes passes

    pub writes_short : length out < length (text_of_plan (unpacked P) boxes) → write_end (refused (fault 33 0)) out ≡ write_packed P boxes out
    writes_short l = by-room (unpacked P) boxes out letters-pass l ∙ over

    pub writes-text : {n : ℕ} {left : List ℕ} → length (text_of_plan (unpacked P) boxes) ≤ length out
        → Put (text_of_plan (unpacked P) boxes) 0 out n left → write_end (answered n) left ≡ write_packed P boxes out
    writes-text l p = by-text (unpacked P) boxes out letters-pass l p ∙ over

-- a plan of letters, packed, is written as it was
pub packed-alike : (Q : Plan) (boxes out : List ℕ) → IsLettered Q → write_packed (packed_of Q) boxes out ≡ write_plan Q boxes out
unfolding write_packed input_fault
packed-alike Q boxes out lettered =
    let answer = λ (R : Plan). write_plan R boxes out in
    ap (λ (b : Bool). over_letters b (packed_of Q) (refuse (packed_of Q) boxes out) answer)
    (ap (λ R. is_right_size R boxes) (unpacked-again Q lettered))
    ∙ same-tested Q lettered (is_right_size Q boxes) boxes (refuse (packed_of Q) boxes out) answer (λ f e. sym (by-input Q boxes out e))
