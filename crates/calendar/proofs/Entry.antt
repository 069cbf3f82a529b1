-- Laws of the calendar rule's own tests: what each outcome of the plan's tests makes of the answer, and that it is the same of a calendar's letters and
-- of its bytes. Assumes nothing.
use mathlib.Core.Path.{◌≡◌, refl, sym, ap, ap₂, ◌∙◌}
use mathlib.Core.Bool.{Bool, true, false}
use Rattle.std.specs.Prelude.{Option, None, Some}
use mathlib.Core.List.{List, [], ◌∷◌, append-nil}
use Prim.Native.Nat.{ℕ, ◌/◌, ◌≤◌, ◌<◌}
use native.Mathlib.Nat.{div_self, mod_self, zero-mul}
use native.Mathlib.Omega.{arith}
use lib.Dec.{eqb}
use lib.ListN.{length, take}
use lib.Seq.{take-length}
use borrow.Author.Tests.{eq-eqb}
use Rattle.units.specs.Choice.{◌or_else◌, on_option, first_of}
use Rattle.units.specs.Limits.{within, most_hours, is_plan_length}
use Rattle.units.specs.Lists.{list_to, joined}
use Rattle.units.specs.declared.Bounds.{Bounds}
use Rattle.units.proofs.Choices.{and_both, else-none, else-some, else-end, else-case, neither}
use Rattle.units.proofs.Ranges.{from-least}
use Rattle.plan.specs.Plan.{Plan, plan, room_part}
use Rattle.plan.specs.Boxes.{bounds_at, box_cells, with_bounds}
use Rattle.plan.specs.Packed.{bytes_of, code_at, letters_of, letters, part_of, packed, is_packed}
use Rattle.plan.specs.declared.Fault.{Fault}
use Rattle.plan.specs.Refusals.{fault, unless, refused, answered, answer_unless}
use Rattle.plan.specs.Faults.{one_for_each_task, is_whole_pairs, is_right_size, is_calendars, calendars_fault, packing_fault, packed_fault, plan_fault, input_fault}
use Rattle.plan.specs.Over.{PackedPlan, packed_plan, unpacked, packed_plan_fault, memory_fault}
use Rattle.plan.proofs.Bytes.{some-bytes}
use Rattle.plan.proofs.Packing.{letters-length, letters-are, packed-length, is-packed, letters-packed}
use Rattle.plan.proofs.Passed.{passed}
use Rattle.plan.proofs.Refusals.{go_on, refuse, unless-true, unless-false, unless-none}
use Rattle.calendar.specs.Rule.{witnessed_rule}
use Rattle.calendar.specs.Inner.Ready.{RuleReady}
use Rattle.calendar.specs.Entry.{AreLetters, one_task, calendar_rule, one_calendar_fault, packed_rule}

-- the memory of one task is of the right size
sized-of : (h : ℕ) (cal : List ℕ) (p : ℕ) (b : Bounds) → is_right_size (plan h (0 ∷ []) cal (0 ∷ []) (p ∷ []) (0 ∷ []) []) (box_cells b) ≡ true
unfolding one_for_each_task is_whole_pairs
sized-of h cal p b = refl

module _ (cal : List ℕ) (p : ℕ) (b : Bounds) where
  one_each : is_right_size (plan (length cal) (0 ∷ []) cal (0 ∷ []) (p ∷ []) (0 ∷ []) []) (box_cells b) ≡ true
  one_each = sized-of (length cal) cal p b

  -- a box that is stored for one task is its cells
  stored : with_bounds (0 ∷ 0 ∷ 0 ∷ 0 ∷ 0 ∷ 0 ∷ []) 0 b ≡ box_cells b
  unfolding with_bounds
  stored = refl

  pub refused-by : (f : Fault) → input_fault (one_task cal p) (box_cells b) ≡ Some f → calendar_rule cal p b ≡ refused f
  unfolding calendar_rule answer_unless
  refused-by f e = rw e

  pub answered-by : input_fault (one_task cal p) (box_cells b) ≡ None → calendar_rule cal p b ≡ answered (witnessed_rule cal p b)
  unfolding calendar_rule answer_unless
  answered-by e = rw e

  -- a calendar that is no plan's length gets 2
  no_length : is_plan_length (length cal) ≡ false → calendar_rule cal p b ≡ refused (fault 2 0)
  no_length e =
      refused-by (fault 2 0)
      (unfold input_fault plan_fault calendars_fault one_task in
      (else-none _ _ (unless-true _ 31 0 one_each) ∙ else-some _ _ _ (else-some _ _ _ (unless-false _ 2 0 e))))

  -- what the core asks
  pub ready : input_fault (one_task cal p) (box_cells b) ≡ None → RuleReady cal b
  unfolding input_fault one_task bounds_at
  ready e =
      let faults = neither _ _ e in
      let known = passed (one_task cal p) (box_cells b) one_each faults.1 in
      let box = (known.task 0 (omega arith)).box in
      record { shortest = box.shortest; latest = box.latest; short = known.hours; symbols = known.symbols }

-- ---- of a packed calendar

module _ (h : ℕ) (bytes : List ℕ) (p : ℕ) (b : Bounds) where
  pub by-two : is_plan_length h ≡ false → packed_rule h bytes p b ≡ refused (fault 2 0)
  unfolding packed_rule one_calendar_fault on_option
  by-two e = rw (refuse _ 2 0 _ e) refl

  module _ (long : is_plan_length h ≡ true) where
    pub by-three : eqb (length bytes) (bytes_of h) ≡ false → packed_rule h bytes p b ≡ refused (fault 3 0)
    unfolding packed_rule one_calendar_fault on_option
    by-three e = rw (go_on _ 2 0 _ long, refuse _ 3 0 _ e) refl

    module _ (size : length bytes ≡ bytes_of h) where
      some : 1 ≤ h
      some = from-least 1 most_hours h long

      -- one calendar
      one-count : length bytes / bytes_of h ≡ 1
      one-count = ap (λ (n : ℕ). n / bytes_of h) size ∙ div_self (some-bytes h some)

      one-part : part_of h bytes 0 ≡ bytes
      unfolding room_part
      one-part = rw zero-mul (ap (λ (n : ℕ). take n bytes) (sym size) ∙ take-length bytes)

      one-letters : letters h bytes ≡ letters_of h bytes
      unfolding letters joined list_to
      one-letters =
          ap (λ (n : ℕ). joined (list_to (λ k. letters_of h (part_of h bytes k)) n)) one-count
          ∙ append-nil _
          ∙ ap (letters_of h) one-part

      whole : is_calendars (bytes_of h) bytes ≡ true
      unfolding is_calendars within
      whole = rw (one-count, size) (and_both _ _ (eq-eqb _ _ (mod_self (bytes_of h))) refl)

      one-packing : first_of (packing_fault h bytes) (length bytes / bytes_of h) ≡ unless (is_packed h bytes) 21 0
      unfolding packing_fault first_of ◌or_else◌
      one-packing = ap (first_of (packing_fault h bytes)) one-count ∙ ap (λ (xs : List ℕ). unless (is_packed h xs) 21 0) one-part

      abbrev rest : Option Fault
      rest = unless (is_packed h bytes) 21 0 or_else plan_fault (one_task (letters_of h bytes) p) (box_cells b)

      -- the tests that the code asks for
      asked-of : memory_fault true (packed_plan h (0 ∷ []) bytes (0 ∷ []) (p ∷ []) (0 ∷ []) []) (box_cells b) ≡ rest
      unfolding memory_fault packed_plan_fault packed_fault one_task
      asked-of =
          go_on _ 31 0 _ refl
          ∙ ap₂ ◌or_else◌ (go_on _ 2 0 _ long ∙ go_on _ 3 0 _ whole ∙ one-packing)
          (ap₂ (λ (n : ℕ) (cs : List ℕ). plan_fault (plan n (0 ∷ []) cs (0 ∷ []) (p ∷ []) (0 ∷ []) []) (box_cells b))
          (sym (letters-length h bytes)) one-letters)

      pub asked : {P : PackedPlan} → P ≡ packed_plan h (0 ∷ []) bytes (0 ∷ []) (p ∷ []) (0 ∷ []) [] → {cells : List ℕ}
          → cells ≡ with_bounds (0 ∷ 0 ∷ 0 ∷ 0 ∷ 0 ∷ 0 ∷ []) 0 b → memory_fault (is_right_size (unpacked P) cells) P cells ≡ rest
      asked q r =
          ap₂ (λ (P : PackedPlan) (cells : List ℕ). memory_fault (is_right_size (unpacked P) cells) P cells) q (r ∙ stored [] p b)
          ∙ ap (λ (x : Bool). memory_fault x (packed_plan h (0 ∷ []) bytes (0 ∷ []) (p ∷ []) (0 ∷ []) []) (box_cells b)) one-sized
          ∙ asked-of
        where
          one-sized : is_right_size (unpacked (packed_plan h (0 ∷ []) bytes (0 ∷ []) (p ∷ []) (0 ∷ []) [])) (box_cells b) ≡ true
          one-sized = sized-of h (letters h bytes) p b

      by-input : input_fault (one_task (letters_of h bytes) p) (box_cells b) ≡ plan_fault (one_task (letters_of h bytes) p) (box_cells b)
      unfolding input_fault one_task
      by-input = else-none _ _ (unless-true _ 31 0 (one_each (letters_of h bytes) p b))

      past-three : one_calendar_fault h bytes ≡ unless (is_packed h bytes) 21 0
      unfolding one_calendar_fault
      past-three = go_on _ 2 0 _ long ∙ go_on _ 3 0 _ (eq-eqb _ _ size)

      -- what the tests find is what is answered
      pub by-test : (f : Fault) → rest ≡ Some f → packed_rule h bytes p b ≡ refused f
      unfolding packed_rule on_option
      by-test f e =
          else-case _ _ _ e
          (λ none found. ap (λ o. on_option o (calendar_rule (letters_of h bytes) p b) refused) (past-three ∙ none)
          ∙ refused-by (letters_of h bytes) p b f (by-input ∙ found))
          (λ g found same. ap (λ o. on_option o (calendar_rule (letters_of h bytes) p b) refused) (past-three ∙ found ∙ same))

      module _ (none : rest ≡ None) where
        letters-none : input_fault (one_task (letters_of h bytes) p) (box_cells b) ≡ None
        letters-none = by-input ∙ (neither _ _ none).1

        pub by-none : packed_rule h bytes p b ≡ answered (witnessed_rule (letters_of h bytes) p b)
        unfolding packed_rule on_option
        by-none =
            ap (λ o. on_option o (calendar_rule (letters_of h bytes) p b) refused) (past-three ∙ (neither _ _ none).0)
            ∙ answered-by (letters_of h bytes) p b letters-none

        pub ready-packed : RuleReady (letters_of h bytes) b
        ready-packed = ready (letters_of h bytes) p b letters-none

        -- each code is a kind's
        pub codes-packed : (t : ℕ) → t < h → code_at bytes t ≤ 2
        codes-packed = letters-are h bytes (unless-none _ 21 0 (neither _ _ none).0)

-- ---- over letters

module _ (cal : List ℕ) (p : ℕ) (b : Bounds) (are : AreLetters cal) where
  -- letters that are packed pass 3 and 21, and 2 finds the same of both
  packed-fault : one_calendar_fault (length cal) (packed cal) ≡ unless (is_plan_length (length cal)) 2 0
  unfolding one_calendar_fault
  packed-fault =
      ap (λ o. unless (is_plan_length (length cal)) 2 0 or_else o)
      (go_on _ 3 0 _ (eq-eqb _ _ (packed-length cal)) ∙ unless-true _ 21 0 (is-packed cal))
      ∙ else-end _

  packed-same : packed_rule (length cal) (packed cal) p b ≡ calendar_rule cal p b
  unfolding packed_rule on_option
  packed-same = ap (λ o. on_option o (calendar_rule (letters_of (length cal) (packed cal)) p b) refused) packed-fault ∙ go (is_plan_length (length cal)) refl
    where
      go : (x : Bool) → is_plan_length (length cal) ≡ x
          → on_option (unless (is_plan_length (length cal)) 2 0) (calendar_rule (letters_of (length cal) (packed cal)) p b) refused ≡ calendar_rule cal p b
      go true e =
          ap (λ o. on_option o (calendar_rule (letters_of (length cal) (packed cal)) p b) refused) (unless-true _ 2 0 e)
          ∙ ap (λ l. calendar_rule l p b) (letters-packed cal are)
      go false e =
          ap (λ o. on_option o (calendar_rule (letters_of (length cal) (packed cal)) p b) refused) (unless-false _ 2 0 e)
          ∙ sym (no_length cal p b e)

pub same_rule : (h : ℕ) (bytes : List ℕ) (p : ℕ) (b : Bounds) (cal : List ℕ) → AreLetters cal → h ≡ length cal → bytes ≡ packed cal
    → packed_rule h bytes p b ≡ calendar_rule cal p b
same_rule h bytes p b cal are long same = ap₂ (λ (m : ℕ) (bs : List ℕ). packed_rule m bs p b) long same ∙ packed-same cal p b are
