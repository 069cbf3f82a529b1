-- What the tests of a plan in memory make of an entry point's answer, and that what is answered over packed calendars is what is answered over their
-- letters. Assumes nothing.
use mathlib.Core.Path.{◌≡◌, refl, sym, ap, ap₂, ◌∙◌, subst}
use mathlib.Core.Bool.{Bool, true, false}
use mathlib.Core.List.{List}
use Rattle.std.specs.Prelude.{Option, None, Some}
use Prim.Native.Nat.{ℕ, ◌+◌, ◌*◌, ◌/◌, ◌%◌, ◌≤◌, ◌<◌}
use native.Mathlib.Nat.{div-add-mod', mul-div_cancel, mul-mod_left}
use native.Mathlib.Omega.{arith}
use lib.Dec.{eqb, ltb}
use lib.ListN.{length, get_or, drop}
use lib.Seq.{get_or-take, get_or-drop}
use borrow.Author.Tests.{eqb-true, ltb-true, ltb-false}
use Rattle.std.proofs.lemmas.List.{get_or_past}
use Rattle.units.specs.Choice.{◌and◌, ◌or_else◌, on_option, first_of}
use Rattle.units.specs.Limits.{most_hours, is_plan_length, is_calendar_count}
use Rattle.units.specs.Lists.{list_to, joined}
use Rattle.units.proofs.Choices.{else-none, else-some, else-case, neither, and_left, first-none, first-all-none}
use Rattle.units.proofs.Lists.{list-eq}
use Rattle.units.proofs.Joined.{joined_length, joined-part, joined-parts}
use Rattle.units.proofs.Ranges.{from-least}
use Rattle.plan.specs.HourKinds.{is_symbol}
use Rattle.plan.specs.Plan.{Plan, calendar_count, calendar_at, first_symbol, room_part}
use Rattle.plan.specs.Packed.{bytes_of, letters_of, letters, part_of, packed, is_packed}
use Rattle.plan.specs.declared.Fault.{Fault}
use Rattle.plan.specs.Refusals.{unless}
use Rattle.plan.specs.Faults.{is_right_size, is_calendars, symbol_fault, calendars_fault, packing_fault, packed_fault, plan_fault}
use Rattle.plan.specs.Passed.{Passed}
use Rattle.plan.specs.Over.{PackedPlan, packed_plan, unpacked, over_letters, packed_plan_fault, memory_fault, IsLettered, packed_of}
use Rattle.plan.proofs.Bytes.{some-bytes}
use Rattle.plan.proofs.HourKinds.{symbol-part}
use Rattle.plan.proofs.Letters.{letters-part, letters-count}
use Rattle.plan.proofs.Packing.{packed-length, is-packed, letters-packed, packed-letters}
use Rattle.plan.proofs.Passed.{calendar-in, calendar-hours, room-length, passed}
use Rattle.plan.proofs.Refusals.{unless-true, unless-none}

-- ---- the tests

module _ (sized : Bool) (P : PackedPlan) (boxes : List ℕ) where
  -- a plan in memory that passes
  pub memory-passed : is_right_size (unpacked P) boxes ≡ true → memory_fault sized P boxes ≡ None → Passed (unpacked P) boxes
  unfolding memory_fault packed_plan_fault
  memory-passed one e = passed (unpacked P) boxes one (neither _ _ (neither _ _ e).1).1

  -- what is found of the letters then
  pub letters-none : memory_fault sized P boxes ≡ None → (unless sized 31 0 or_else plan_fault (unpacked P) boxes) ≡ None
  unfolding memory_fault packed_plan_fault
  letters-none e =
      let (size, rest) = neither _ _ e in
      else-none _ _ size ∙ (neither _ _ rest).1

  module _ {A : Type 0} (refuse : Fault → A) (answer : Plan → A) where
    pub passed-over : memory_fault sized P boxes ≡ None → over_letters sized P refuse answer ≡ answer (unpacked P)
    unfolding memory_fault packed_plan_fault over_letters on_option
    passed-over e =
        let (size, rest) = neither _ _ e in
        ap (λ o. on_option o (answer (unpacked P)) refuse) (else-none _ _ size ∙ (neither _ _ rest).0)

    -- a fault refuses, of bytes or of letters, where the answer of the letters refuses by theirs
    pub refused-over : (f : Fault) → memory_fault sized P boxes ≡ Some f
        → ((g : Fault) → (unless sized 31 0 or_else plan_fault (unpacked P) boxes) ≡ Some g → answer (unpacked P) ≡ refuse g)
        → over_letters sized P refuse answer ≡ refuse f
    unfolding memory_fault packed_plan_fault over_letters on_option
    refused-over f e first =
        let go = λ (o : Option Fault). on_option o (answer (unpacked P)) refuse in
        else-case _ _ _ e
        (λ size rest.
        else-case _ _ _ rest
        (λ bytes letters. ap go (else-none _ _ size ∙ bytes) ∙ first f (else-none _ _ size ∙ letters))
        (λ g some same. ap go (else-none _ _ size ∙ some ∙ same)))
        (λ g some same. ap go (else-some _ _ g some ∙ same))

-- an answer that is a refusal by the plan's tests, or what comes past them: in memory it refuses by the tests there
pub over-tested : {A : Type 0} (sized : Bool) (P : PackedPlan) (boxes : List ℕ) (refuse : Fault → A) (answer : Plan → A) (past : A)
    → answer (unpacked P) ≡ on_option (unless sized 31 0 or_else plan_fault (unpacked P) boxes) past refuse
    → over_letters sized P refuse answer ≡ on_option (memory_fault sized P boxes) past refuse
unfolding on_option
over-tested {A} sized P boxes refuse answer past e = go (memory_fault sized P boxes) refl
  where
    by-letters : (o : Option Fault) → (unless sized 31 0 or_else plan_fault (unpacked P) boxes) ≡ o → answer (unpacked P) ≡ on_option o past refuse
    by-letters o q = e ∙ ap (λ (x : Option Fault). on_option x past refuse) q

    go : (o : Option Fault) → memory_fault sized P boxes ≡ o → over_letters sized P refuse answer ≡ on_option (memory_fault sized P boxes) past refuse
    go None q = passed-over sized P boxes refuse answer q ∙ by-letters None (letters-none sized P boxes q) ∙ rw q refl
    go (Some f) q = refused-over sized P boxes refuse answer f q (λ g r. by-letters (Some g) r) ∙ rw q refl

-- with memory tested for the plan alone
pub input-passed : (P : PackedPlan) (boxes : List ℕ) → memory_fault (is_right_size (unpacked P) boxes) P boxes ≡ None → Passed (unpacked P) boxes
unfolding memory_fault
input-passed P boxes e = memory-passed _ P boxes (unless-none _ 31 0 (neither _ _ e).0) e

-- ---- calendars of letters, packed

by-fault : {A : Type 0} (x : Option Fault) (refuse : Fault → A) (a b : A) → a ≡ b → ((f : Fault) → x ≡ Some f → b ≡ refuse f) → on_option x a refuse ≡ b
unfolding on_option
by-fault None refuse a b e h = e
by-fault (Some f) refuse a b e h = sym (h f refl)

module _ (Q : Plan) (lettered : IsLettered Q) where
  abbrev h : ℕ
  h = Q.shifts.hours

  abbrev n : ℕ
  n = calendar_count Q.shifts

  abbrev all_bytes : List ℕ
  all_bytes = joined (list_to (λ k. packed (calendar_at Q.shifts k)) n)

  each-long : (k : ℕ) → k < n → length (packed (calendar_at Q.shifts k)) ≡ bytes_of h
  each-long k l = packed-length (calendar_at Q.shifts k) ∙ ap bytes_of (calendar-hours Q.shifts k l)

  bytes-long : length all_bytes ≡ n * bytes_of h
  bytes-long = joined_length (λ k. packed (calendar_at Q.shifts k)) (bytes_of h) n each-long

  -- as many calendars, and each where it was
  bytes-count : length all_bytes / bytes_of h ≡ n
  bytes-count = ap (λ (m : ℕ). m / bytes_of h) bytes-long ∙ mul-div_cancel n (some-bytes h lettered.some_hours)

  part-packed : (k : ℕ) → k < n → part_of h all_bytes k ≡ packed (calendar_at Q.shifts k)
  unfolding room_part
  part-packed k l = joined-part (λ k. packed (calendar_at Q.shifts k)) (bytes_of h) n k each-long l

  symbol-at : (k : ℕ) → k < n → (t : ℕ) → t < length (calendar_at Q.shifts k) → is_symbol (calendar_at Q.shifts k) t ≡ true
  unfolding calendar_at
  symbol-at k l t m =
      let inside : t < h = omega (arith, m, calendar-hours Q.shifts k l) in
      symbol-part Q.shifts.calendars (first_symbol h k) h t inside ∙ lettered.symbols _ (omega (arith, inside, calendar-in Q.shifts k l))

  letters-again : (k : ℕ) → k < n → letters_of h (part_of h all_bytes k) ≡ calendar_at Q.shifts k
  letters-again k l =
      ap (letters_of h) (part-packed k l)
      ∙ ap (λ (m : ℕ). letters_of m (packed (calendar_at Q.shifts k))) (sym (calendar-hours Q.shifts k l))
      ∙ letters-packed (calendar_at Q.shifts k) (symbol-at k l)

  -- the letters of the bytes are the letters that were packed
  same-letters : letters h all_bytes ≡ Q.shifts.calendars
  unfolding letters calendar_at first_symbol
  same-letters =
      ap joined (
      ap (λ (m : ℕ). list_to (λ k. letters_of h (part_of h all_bytes k)) m) bytes-count ∙ list-eq _ (calendar_at Q.shifts) n letters-again
      )
      ∙ joined-parts h Q.shifts.calendars n lettered.whole

  pub unpacked-again : unpacked (packed_of Q) ≡ Q
  unfolding packed_of
  unpacked-again =
      ap (λ cs. record { shifts = record { hours = h; calendars = cs; task_calendars = Q.shifts.task_calendars; work_times = Q.shifts.work_times }; capacities = Q.capacities; heights = Q.heights; pairs = Q.pairs })
      same-letters

  whole-by : (x : ℕ) (xs : List ℕ) → 1 ≤ x → length xs ≡ n * x → is_calendars x xs ≡ (eqb 0 0 and is_calendar_count n)
  unfolding is_calendars
  whole-by x xs l e = rw e (rw (mul-mod_left n x) (rw (mul-div_cancel n l) refl))

  codes-pass : first_of (packing_fault h all_bytes) (length all_bytes / bytes_of h) ≡ None
  unfolding packing_fault
  codes-pass = first-all-none _ _ (λ k l.
      let m : k < n = subst (λ (c : ℕ). k < c) bytes-count l in
      unless-true _ 21 k (
      ap (is_packed h) (part-packed k m)
      ∙ ap (λ (c : ℕ). is_packed c (packed (calendar_at Q.shifts k))) (sym (calendar-hours Q.shifts k m))
      ∙ is-packed (calendar_at Q.shifts k)
      ))

  symbols-pass : first_of (symbol_fault Q.shifts.calendars) (length Q.shifts.calendars) ≡ None
  unfolding symbol_fault
  symbols-pass = first-all-none _ _ (λ k l. unless-true _ 4 k (lettered.symbols k l))

  -- the tests of H and the calendars find the same
  pub same-fault : packed_fault h (packed_of Q).calendars ≡ calendars_fault h Q.shifts.calendars
  unfolding packed_of packed_fault calendars_fault
  same-fault =
      ap₂ (λ (a : Bool) (o : Option Fault). unless (is_plan_length h) 2 0 or_else unless a 3 0 or_else o)
      (whole-by (bytes_of h) all_bytes (some-bytes h lettered.some_hours) bytes-long ∙ sym (whole-by h Q.shifts.calendars lettered.some_hours lettered.whole))
      (codes-pass ∙ sym symbols-pass)

  same-hours : (packed_of Q).hours ≡ h
  unfolding packed_of
  same-hours = refl

  -- An entry point's answer, where its answer of letters refuses first by the sizes, H and the calendars.
  pub same-answer : {A : Type 0} (sized : Bool) (refuse : Fault → A) (answer : Plan → A)
      → ((f : Fault) → (unless sized 31 0 or_else calendars_fault h Q.shifts.calendars) ≡ Some f → answer Q ≡ refuse f)
      → over_letters sized (packed_of Q) refuse answer ≡ answer Q
  unfolding over_letters
  same-answer sized refuse answer first =
      by-fault (unless sized 31 0 or_else packed_fault (packed_of Q).hours (packed_of Q).calendars) refuse _ _
      (ap answer unpacked-again)
      (λ f e. first f (ap (λ o. unless sized 31 0 or_else o) (sym same-fault ∙ ap (λ (x : ℕ). packed_fault x (packed_of Q).calendars) (sym same-hours)) ∙ e))

  -- The same where it refuses by the plan's tests, and then by its own.
  pub same-tested : {A : Type 0} (sized : Bool) (boxes : List ℕ) (refuse : Fault → A) (answer : Plan → A)
      → ((f : Fault) → (unless sized 31 0 or_else plan_fault Q boxes) ≡ Some f → answer Q ≡ refuse f)
      → over_letters sized (packed_of Q) refuse answer ≡ answer Q
  unfolding plan_fault
  same-tested sized boxes refuse answer first =
      same-answer sized refuse answer
      (λ f e.
      first f (else-case _ _ _ e
      (λ size letters. else-none _ _ size ∙ else-some _ _ f letters)
      (λ g some same. else-some _ _ g some ∙ same)))

-- of packed calendars such an answer is the one of their letters
pub same-over : {A : Type 0} (Q : Plan) (lettered : IsLettered Q) (sized : Bool) (boxes : List ℕ) (refuse : Fault → A) (answer : Plan → A) (past : A)
    → answer Q ≡ on_option (unless sized 31 0 or_else plan_fault Q boxes) past refuse
    → over_letters sized (packed_of Q) refuse answer ≡ answer Q
unfolding on_option
same-over Q lettered sized boxes refuse answer past e =
    same-tested Q lettered sized boxes refuse answer (λ f q. e ∙ ap (λ (x : Option Fault). on_option x past refuse) q)

-- ---- bytes that pass, unpacked and packed again

module _ (P : PackedPlan) (none : packed_fault P.hours P.calendars ≡ None) (small : (i : ℕ) → get_or P.calendars i 0 < 256) where
  told : (1 ≤ P.hours) × (length P.calendars ≡ length P.calendars / bytes_of P.hours * bytes_of P.hours)
      × ((k : ℕ) → k < length P.calendars / bytes_of P.hours → is_packed P.hours (part_of P.hours P.calendars k) ≡ true)
  unfolding packed_fault packing_fault is_calendars
  told =
      let (two, rest) = neither _ _ none in
      let (three, codes) = neither _ _ rest in
      let even : length P.calendars % bytes_of P.hours ≡ 0 = eqb-true _ _ (and_left _ _ (unless-none _ 3 0 three)) in (
        from-least 1 most_hours _ (unless-none _ 2 0 two),
        omega (arith, even, div-add-mod' (length P.calendars) (bytes_of P.hours)),
        λ k l. unless-none _ 21 k (first-none _ _ codes k l),
      )

  count : calendar_count (unpacked P).shifts ≡ length P.calendars / bytes_of P.hours
  count = letters-count P.hours P.calendars told.0

  part-long : (k : ℕ) → k < length P.calendars / bytes_of P.hours → length (part_of P.hours P.calendars k) ≡ bytes_of P.hours
  part-long k l = room-length (length P.calendars / bytes_of P.hours) (bytes_of P.hours) P.calendars told.1 k l

  part-small : (k : ℕ) → k < length P.calendars / bytes_of P.hours → (i : ℕ) → get_or (part_of P.hours P.calendars k) i 0 < 256
  unfolding room_part
  part-small k l i = go (ltb i (bytes_of P.hours)) refl
    where
      go : (b : Bool) → ltb i (bytes_of P.hours) ≡ b → get_or (part_of P.hours P.calendars k) i 0 < 256
      go true q =
          let inside = get_or-take (bytes_of P.hours) (drop (k * bytes_of P.hours) P.calendars) i 0 (ltb-true _ _ q) in
          omega (arith, inside, get_or-drop (k * bytes_of P.hours) P.calendars i 0, small (k * bytes_of P.hours + i))
      go false q =
          let past = get_or_past (part_of P.hours P.calendars k) i 0 (omega (arith, ltb-false _ _ q, part-long k l)) in
          omega (arith, past)

  calendar-again : (k : ℕ) → k < calendar_count (unpacked P).shifts → packed (calendar_at (unpacked P).shifts k) ≡ part_of P.hours P.calendars k
  unfolding calendar_at first_symbol
  calendar-again k l =
      let m : k < length P.calendars / bytes_of P.hours = subst (λ (c : ℕ). k < c) count l in
      ap packed (letters-part P.hours P.calendars k m) ∙ packed-letters P.hours _ (told.2 k m) (part-long k m) (part-small k m)

  pub packed-again : packed_of (unpacked P) ≡ P
  unfolding packed_of room_part
  packed-again =
      ap (λ cs. packed_plan P.hours P.capacities cs P.task_calendars P.work_times P.heights P.pairs)
      (ap joined (list-eq _ _ _ calendar-again ∙ ap (λ (m : ℕ). list_to (part_of P.hours P.calendars) m) count)
      ∙ joined-parts (bytes_of P.hours) P.calendars (length P.calendars / bytes_of P.hours) told.1)
