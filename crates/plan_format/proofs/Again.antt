-- A plan's text read again is the plan: so two plans have two texts, and what the writer leaves can be read back. Assumes
-- nothing.
use mathlib.Core.Path.{◌≡◌, refl, sym, ap, ap₂, subst, ◌∙◌}
use mathlib.Core.Bool.{true}
use Rattle.std.specs.Prelude.{None}
use mathlib.Core.List.{List, [], map}
use Prim.Native.Nat.{ℕ, ◌<◌}
use lib.ListN.{length, get_or, take}
use lib.Seq.{take-append_seam}
use Rattle.units.specs.Cells.{written}
use Rattle.units.specs.Lists.{joined}
use Rattle.units.proofs.Lists.{list-map}
use Rattle.units.proofs.Choices.{option-case, else-none, neither}
use Rattle.plan.specs.Plan.{Plan, pair_count, calendar_count, calendar_at}
use Rattle.plan.specs.Packed.{packed}
use Rattle.plan.specs.Over.{PackedPlan, unpacked, over_letters, packed_plan_fault, memory_fault, IsLettered, packed_of}
use Rattle.plan.specs.Passed.{Passed}
use Rattle.plan.specs.Refusals.{Answer, answered}
use Rattle.plan.specs.Faults.{is_right_size, plan_fault, input_fault}
use Rattle.plan.proofs.Over.{packed-again}
use Rattle.plan.proofs.Passed.{input-passed}
use Rattle.plan.proofs.Refusals.{go_on, refused≢answered}
use Rattle.plan_format.specs.Text.{read_text}
use Rattle.plan_format.specs.Reading.{plan_in, boxes_in, read_fault, end_with, stored}
use Rattle.plan_format.specs.Writing.{text_of_plan, write_fault, WriteEnd, write_end, write_plan, write_packed, plan_read, ReadsBack}
use Rattle.plan_format.proofs.Written.{read_of, calendars-count, tasks-count, plan-held, boxes-held, lines-pass}
use Rattle.plan_format.proofs.Texts.{read-few, read-short}
use Rattle.plan_format.proofs.Writings.{letters-pass, packed-alike}
use Rattle.plan_format.proofs.Rereading.{text-read}
use Rattle.plan_format.proofs.Readings.{read_whole, not-refused}

-- ---- read into memory

module _ (P : PackedPlan) (boxes : List ℕ) (passes : memory_fault (is_right_size (unpacked P) boxes) P boxes ≡ None)
    (bytes : (i : ℕ) → get_or P.calendars i 0 < 256) where
  the-input : input_fault (unpacked P) boxes ≡ None
  the-input = letters-pass P boxes [] passes

  the-plan : Passed (unpacked P) boxes
  the-plan = input-passed (unpacked P) boxes the-input

  -- packed from its letters, it is the plan that was lent
  same-plan : packed_of (unpacked P) ≡ P
  unfolding memory_fault packed_plan_fault
  same-plan = packed-again P (neither _ _ (neither _ _ passes).1).0 bytes

  -- and so are the calendars of its text
  same-calendars : joined (map packed (read_of (unpacked P) boxes).calendars) ≡ P.calendars
  unfolding read_of packed_of
  same-calendars =
      ap joined (list-map (calendar_at (unpacked P).shifts) packed (calendar_count (unpacked P).shifts))
      ∙ ap (λ (Q : PackedPlan). Q.calendars) same-plan

  module _ (rs cs ts ws hs ps bs : List ℕ) where
    no-fault : read_fault true (read_of (unpacked P) boxes) ≡ None
    unfolding read_fault input_fault
    no-fault =
        go_on true 31 0 _ refl
        ∙ else-none _ _ (lines-pass the-plan)
        ∙ ap₂ plan_fault (plan-held the-plan) (boxes-held the-plan)
        ∙ (neither _ _ the-input).1

    -- memory then holds the plan
    stored-plan : stored rs cs ts ws hs ps bs (read_of (unpacked P) boxes) ≡ plan_read rs cs ts ws hs ps bs P boxes
    unfolding stored read_of
    stored-plan =
        λ k. end_with
        (answered
        (record {
          hours = P.hours;
          rooms = length P.capacities;
          calendars = calendars-count (unpacked P) boxes k;
          tasks = tasks-count (unpacked P) boxes k;
          pairs = pair_count (plan-held the-plan k);
        }))
        (written (plan-held the-plan k).capacities rs)
        (written (same-calendars k) cs)
        (written (plan-held the-plan k).shifts.task_calendars ts)
        (written (plan-held the-plan k).shifts.work_times ws)
        (written (plan-held the-plan k).heights hs)
        (written (plan-held the-plan k).pairs ps)
        (written (boxes-held the-plan k) bs)

  pub reads-back : ReadsBack P boxes (text_of_plan (unpacked P) boxes)
  reads-back =
      let is = text-read (unpacked P) boxes the-plan in
      record {
        few = read-few _ is;
        short = read-short _ is;
        again = (read_of (unpacked P) boxes, is, plan-held the-plan, boxes-held the-plan);
        read = λ rs cs ts ws hs ps bs enough.
            sym (read_whole rs cs ts ws hs ps bs _ _ is)
            ∙ sym (not-refused rs cs ts ws hs ps bs _ enough (no-fault rs cs ts ws hs ps bs))
            ∙ stored-plan rs cs ts ws hs ps bs;
      }

-- ---- the goals

-- two plans that pass have two texts
pub text-once : (P Q : Plan) (boxes others : List ℕ) → input_fault P boxes ≡ None → input_fault Q others ≡ None
    → text_of_plan P boxes ≡ text_of_plan Q others → (P ≡ Q) × (boxes ≡ others)
text-once P Q boxes others e f same =
    let p = input-passed P boxes e in
    let q = input-passed Q others f in
    let first : answered (read_of P boxes) ≡ answered (read_of Q others) =
    sym (text-read P boxes p) ∙ ap read_text same ∙ text-read Q others q in
    let one : read_of P boxes ≡ read_of Q others = cc in
    (sym (plan-held p) ∙ ap plan_in one ∙ plan-held q, sym (boxes-held p) ∙ ap boxes_in one ∙ boxes-held q)

-- and so have two plans in memory: another byte is another text
pub packed-once : (P Q : PackedPlan) (boxes others : List ℕ) → memory_fault (is_right_size (unpacked P) boxes) P boxes ≡ None
    → memory_fault (is_right_size (unpacked Q) others) Q others ≡ None → ((i : ℕ) → get_or P.calendars i 0 < 256)
    → ((i : ℕ) → get_or Q.calendars i 0 < 256) → text_of_plan (unpacked P) boxes ≡ text_of_plan (unpacked Q) others → (P ≡ Q) × (boxes ≡ others)
packed-once P Q boxes others e f small less same =
    let (letters, cells) = text-once (unpacked P) (unpacked Q) boxes others (the-input P boxes e small) (the-input Q others f less) same in
    (sym (same-plan P boxes e small) ∙ ap packed_of letters ∙ same-plan Q others f less, cells)

-- an answer means that nothing is refused, and is the length of the text, which is what the memory then begins with
module _ (P : PackedPlan) (boxes out : List ℕ) (bytes : (i : ℕ) → get_or P.calendars i 0 < 256) (a : Answer ℕ) (left : List ℕ)
    (e : write_end a left ≡ write_packed P boxes out) where
  from-letters : (n : ℕ) → a ≡ answered n → memory_fault (is_right_size (unpacked P) boxes) P boxes ≡ None
      → write_plan (unpacked P) boxes out ≡ write_end a left → ReadsBack P boxes (take n left)
  unfolding write_plan write_fault written
  from-letters n q none is =
      option-case _ _ _ _ is
      (λ free same.
      let count : length (text_of_plan (unpacked P) boxes) ≡ n = cc (ap (λ (w : WriteEnd). w.answer) same) in
      let first = sym (take-append_seam (text_of_plan (unpacked P) boxes) _) ∙ ap₂ take count (ap (λ (w : WriteEnd). w.out) same) in
      subst (ReadsBack P boxes) first (reads-back P boxes none bytes))
      (λ f found same. refused≢answered (ap (λ (w : WriteEnd). w.answer) same ∙ q))

  writes-back : (n : ℕ) → a ≡ answered n → ReadsBack P boxes (take n left)
  unfolding write_packed over_letters write_plan write_fault input_fault memory_fault packed_plan_fault
  writes-back n q =
      option-case _ _ _ _ (sym e)
      (λ bytes-pass is.
      option-case _ _ _ _ is
      (λ free same.
      let (size, packing) = neither _ _ bytes-pass in
      let letters = neither _ _ (neither _ _ free).0 in
      from-letters n q (else-none _ _ size ∙ else-none _ _ packing ∙ letters.1) is)
      (λ f found same. refused≢answered (ap (λ (w : WriteEnd). w.answer) same ∙ q)))
      (λ f found is. refused≢answered (ap (λ (w : WriteEnd). w.answer) is ∙ q))

  -- a plan of letters, packed
  as-letters : (Q : Plan) → IsLettered Q → P ≡ packed_of Q → write_end a left ≡ write_plan Q boxes out
  as-letters Q lettered is = e ∙ ap (λ R. write_packed R boxes out) is ∙ packed-alike Q boxes out lettered

  -- what writing leaves, what of it can be read back, and that the letters of a plan leave the same
  pub writes-hold : (write_end a left ≡ write_packed P boxes out) × ((n : ℕ) → a ≡ answered n → ReadsBack P boxes (take n left))
      × ((Q : Plan) → IsLettered Q → P ≡ packed_of Q → write_end a left ≡ write_plan Q boxes out)
  writes-hold = (e, writes-back, as-letters)
