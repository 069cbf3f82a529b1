-- Laws of the tests of a plan that was read, from what is stored of it. Assumes nothing.
use mathlib.Core.Path.{◌≡◌, refl, sym, ap, ap₂, ◌∙◌}
use mathlib.Core.Bool.{true, false}
use Rattle.std.specs.Prelude.{None, Some}
use mathlib.Core.List.{List, [], ◌∷◌, map}
use Prim.Native.Nat.{ℕ, ◌*◌, ◌≤◌, ◌<◌}
use native.Mathlib.Nat.{suc-mul, mul-le-mul, mul-div_cancel, mul-mod_left}
use native.Mathlib.Omega.{arith}
use lib.ListN.{length, length-append}
use borrow.Author.Tests.{eqb-true, eq-eqb, le-leb, lt-leb}
use Rattle.units.specs.Choice.{◌or_else◌}
use Rattle.units.specs.Limits.{most_hours, most_calendars, most_rooms, most_tasks, most_pairs, pair_numbers}
use Rattle.units.specs.Limits.{is_plan_length, is_calendar_count, is_room_count, is_task_count}
use Rattle.units.specs.Lists.{joined}
use Rattle.units.proofs.Choices.{and_both, and_left, and_right, not_left, not_right, neither, else-none, else-some, else-case}
use Rattle.units.proofs.Joined.{joined_length}
use Rattle.units.proofs.Ranges.{to-most}
use Rattle.plan.specs.Plan.{task_count, pair_count}
use Rattle.plan.specs.Packed.{bytes_of, packed}
use Rattle.plan.specs.Over.{unpacked, packed_plan, packed_plan_fault, IsLettered, packed_of}
use Rattle.plan.specs.declared.Fault.{Fault}
use Rattle.plan.specs.Refusals.{fault}
use Rattle.plan.specs.Faults.{one_for_each_task, is_whole_pairs, is_right_size, is_calendars, calendars_fault, counts_fault}
use Rattle.plan.specs.Faults.{plan_fault}
use Rattle.plan.proofs.Refusals.{unless-true, unless-none, unless-false, go_on, refuse}
use Rattle.plan.proofs.Over.{unpacked-again, same-fault}
use Rattle.plan.proofs.Packing.{packed-length}
use Rattle.plan.proofs.Passed.{counts-passed}
use Rattle.plan_lines.specs.declared.Scan.{Scan}
use Rattle.plan_format.specs.Text.{Read}
use Rattle.plan_format.specs.Reading.{plan_in, boxes_in, all_of, most_packed, line_fault, read_fault}
use Rattle.plan_format.proofs.Calendars.{some-hours, symbols-length, packed-read, lettered}
use Rattle.plan_lines.specs.Inner.Scanning.{calendars_at, work_times_at, boxes_at, capacities_at, pairs_at, store_size, room_at, section}
use Rattle.plan_lines.specs.Inner.Scanning.{stored_heights, stored_plan, stored_boxes, all_packed, packed_read, wrong_symbol_fault, symbols_fault, Holds}
use Rattle.plan_lines.proofs.Sections.{section-length}
use Rattle.plan_lines.proofs.Following.{task-count, pair-count, plan-held, boxes-held}

-- calendar lines of H symbols each, packed
packed_all : (h : ℕ) (ls : List (List ℕ)) → all_of h ls ≡ true → length (all_packed ls) ≡ length ls * bytes_of h
unfolding joined all_of
packed_all h [] e = omega arith
packed_all h (l ∷ ls) e =
    omega (
      arith,
      length-append (packed l) (joined (map packed ls)),
      packed-length l,
      ap bytes_of (eqb-true (length l) h (and_left _ _ e)),
      packed_all h ls (and_right _ _ e),
      suc-mul (length ls) (bytes_of h),
    )

fewer-bytes : (h k : ℕ) → h ≤ k → bytes_of h ≤ bytes_of k
unfolding bytes_of
fewer-bytes h k l = omega (arith, l)

-- as many calendars of so many hours as a plan may have
pub bytes-within : (n h b : ℕ) → n ≤ most_calendars → h ≤ most_hours → b ≡ bytes_of h → n * b ≤ 35136
unfolding bytes_of
bytes-within n h b l m e = mul-le-mul {n₁ = n} {m₁ = b} {n₂ = most_calendars} {m₂ = 2196} l (omega (arith, m, e))

-- ---- parts for as many rooms, tasks and pairs as are stored

module _ (rooms n : ℕ) (cells : List ℕ) (few : rooms ≤ most_rooms) (l : n ≤ most_tasks) (size : length cells ≡ store_size) where
  heights-size : length (stored_heights rooms n cells) ≡ rooms * n
  unfolding stored_heights
  heights-size =
      let parts : ℕ → List ℕ = λ room. section (room_at room) n cells in
      joined_length parts n rooms (λ room h. section-length (room_at room) n cells (omega arith))

  pub parts-each : (hours pairs : ℕ) (calendars : List ℕ) → pairs ≤ most_pairs
      → is_right_size (unpacked (stored_plan hours rooms n pairs calendars cells)) (stored_boxes n cells) ≡ true
  unfolding one_for_each_task is_whole_pairs
  parts-each hours pairs calendars p =
      let t = section-length calendars_at n cells (omega arith) in
      let b = section-length boxes_at (6 * n) cells (omega arith) in
      let two = section-length pairs_at (pair_numbers * pairs) cells (omega arith) in
      and_both _ _
      (and_both _ _ (eq-eqb _ _ (section-length work_times_at n cells (omega arith) ∙ sym t))
      (and_both _ _ (eq-eqb _ _ (heights-size ∙ ap₂ ◌*◌ (sym (section-length capacities_at rooms cells (omega arith))) (sym t)))
      (eq-eqb _ _ (b ∙ ap (λ (k : ℕ). 6 * k) (sym t)))))
      (eq-eqb _ _ (omega (arith, two)))

-- ---- 2, 3 and 4

-- a text whose lines pass is tested as its symbols joined
module _ (r : Read) (lines : line_fault r ≡ None) where
  whole : is_calendars r.hours (joined r.calendars) ≡ true
  unfolding is_calendars line_fault
  whole =
      let count = and_left _ _ (unless-none _ 3 0 (neither _ _ lines).1) in
      rw (symbols-length r lines)
      (rw (mul-mod_left (length r.calendars) r.hours)
      (rw (mul-div_cancel (length r.calendars) (some-hours r lines)) (and_both _ _ refl count)))

  by-symbols : calendars_fault r.hours (joined r.calendars) ≡ symbols_fault (joined r.calendars)
  unfolding calendars_fault line_fault
  by-symbols = go_on _ 2 0 _ (unless-none _ 2 0 (neither _ _ lines).0) ∙ go_on _ 3 0 _ whole

  by-plan : read_fault true r ≡ plan_fault (plan_in r) (boxes_in r)
  unfolding read_fault
  by-plan = go_on true 31 0 _ refl ∙ else-none _ _ lines

  -- and packed as the plan that it holds
  pub packed-same : packed_read r ≡ packed_of (plan_in r)
  unfolding packed_of plan_in
  packed-same =
      ap (λ cs. packed_plan r.hours r.capacities cs (plan_in r).shifts.task_calendars (plan_in r).shifts.work_times (plan_in r).heights r.pairs)
      (sym (packed-read r lines))

  module _ (symbols : symbols_fault (joined r.calendars) ≡ None) where
    none : calendars_fault (plan_in r).shifts.hours (plan_in r).shifts.calendars ≡ None
    unfolding plan_in
    none = by-symbols ∙ symbols

    letters : IsLettered (plan_in r)
    letters = lettered r lines none

    -- the tests in memory find what those of the letters find
    tested : packed_plan_fault (packed_read r) (boxes_in r) ≡ plan_fault (plan_in r) (boxes_in r)
    unfolding packed_plan_fault packed_of
    tested =
        ap (λ P. packed_plan_fault P (boxes_in r)) packed-same
        ∙ else-none _ _ (same-fault (plan_in r) letters ∙ none)
        ∙ ap (λ Q. plan_fault Q (boxes_in r)) (unpacked-again (plan_in r) letters)

    -- refused by its counts
    by-counts : (f : Fault) → counts_fault (task_count (plan_in r)) (pair_count (plan_in r)) (plan_in r).capacities ≡ Some f → Some f ≡ read_fault true r
    unfolding plan_fault
    by-counts f e = sym (by-plan ∙ else-none _ _ none ∙ else-some _ _ f e)

module _ {r : Read} {s : Scan} {n : ℕ} {calendars cells : List ℕ} (held : Holds r s n calendars cells) where
  -- ---- 2, 3 and 4, in their order

  pub no-hours : is_plan_length s.hours ≡ false → Some (fault 2 0) ≡ (line_fault r or_else symbols_fault (joined r.calendars))
  unfolding line_fault
  no-hours e = sym (else-some _ _ _ (refuse _ 2 0 _ (rw held.hours at e)))

  module _ (h : is_plan_length s.hours ≡ true) where
    three : is_plan_length r.hours ≡ true
    three = rw held.hours at h

    pub no-calendars : is_calendar_count s.calendars ≡ false → Some (fault 3 0) ≡ (line_fault r or_else symbols_fault (joined r.calendars))
    unfolding line_fault
    no-calendars e = sym (else-some _ _ _ (go_on _ 2 0 _ three ∙ unless-false _ 3 0 (not_left _ _ (rw held.calendars at e))))

    pub uneven : s.even ≡ false → Some (fault 3 0) ≡ (line_fault r or_else symbols_fault (joined r.calendars))
    unfolding line_fault
    uneven e = sym (else-some _ _ _ (go_on _ 2 0 _ three ∙ unless-false _ 3 0 (not_right _ _ (sym held.even ∙ e))))

    -- then the first symbol that is none, if there is one
    pub by-symbol : is_calendar_count s.calendars ≡ true → s.even ≡ true
        → wrong_symbol_fault s.wrong_symbol ≡ (line_fault r or_else symbols_fault (joined r.calendars))
    unfolding line_fault
    by-symbol c e =
        held.wrong_symbol
        ∙ sym (else-none _ _ (go_on _ 2 0 _ three ∙ unless-true _ 3 0 (and_both _ _ (rw held.calendars at c) (sym held.even ∙ e))))

  pub lines-refuse : (f : Fault) → Some f ≡ (line_fault r or_else symbols_fault (joined r.calendars)) → Some f ≡ read_fault true r
  unfolding read_fault plan_fault plan_in
  lines-refuse f e =
      sym (go_on true 31 0 _ refl
      ∙ else-case _ _ _ (sym e)
      (λ lines symbols. else-none _ _ lines ∙ else-some _ _ f (by-symbols r lines ∙ symbols))
      (λ g some same. else-some _ _ g some ∙ same))

  -- ---- the plan's own tests

  module _ (passed : None ≡ (line_fault r or_else symbols_fault (joined r.calendars))) where
    lines : line_fault r ≡ None
    lines = (neither _ _ (sym passed)).0

    symbols : symbols_fault (joined r.calendars) ≡ None
    symbols = (neither _ _ (sym passed)).1

    pub bytes-fit : s.bytes ≤ most_packed
    unfolding line_fault
    bytes-fit =
        let (two, rest) = neither _ _ lines in
        let three = unless-none _ 3 0 rest in
        let most : length r.calendars * bytes_of r.hours ≤ most_packed =
        mul-le-mul {n₁ = length r.calendars} {m₁ = bytes_of r.hours} {n₂ = most_calendars} {m₂ = bytes_of most_hours}
        (to-most 1 most_calendars (length r.calendars) (and_left _ _ three))
        (fewer-bytes _ _ (to-most 1 most_hours r.hours (unless-none _ 2 0 two)))
        in
        omega (arith, held.byte_count, packed_all r.hours r.calendars (and_right _ _ three))

    pub stored-bytes : s.bytes ≤ 35136
    unfolding bytes_of
    stored-bytes = bytes-fit

    pub read-plan : s.tasks ≤ most_tasks → s.pairs ≤ most_pairs → s.rooms ≤ most_rooms
        → packed_plan_fault (stored_plan s.hours s.rooms s.tasks s.pairs (section 0 s.bytes calendars) cells) (stored_boxes s.tasks cells)
        ≡ read_fault true r
    read-plan t p m =
        ap₂ packed_plan_fault (plan-held held bytes-fit t p m) (boxes-held held bytes-fit t p m) ∙ tested r lines symbols ∙ sym (by-plan r lines)

    pub read-too-many : most_tasks < s.tasks → Some (fault 5 0) ≡ read_fault true r
    unfolding counts_fault
    read-too-many t = by-counts r lines symbols _ (refuse _ 5 0 _ (lt-leb (task_count (plan_in r)) most_tasks (omega (arith, task-count held))))

    -- once there are no more tasks than are stored
    module _ (t : s.tasks ≤ most_tasks) where
      few_tasks : is_task_count (task_count (plan_in r)) ≡ true
      few_tasks = le-leb _ most_tasks (omega (arith, task-count held))

      pub read-too-many-pairs : most_pairs < s.pairs → Some (fault 19 0) ≡ read_fault true r
      unfolding counts_fault
      read-too-many-pairs p =
          by-counts r lines symbols _
          (go_on _ 5 0 _ few_tasks ∙ refuse _ 19 0 _ (lt-leb (pair_count (plan_in r)) most_pairs (omega (arith, pair-count held))))

      pub read-no-rooms : s.pairs ≤ most_pairs → is_room_count s.rooms ≡ false → Some (fault 17 0) ≡ read_fault true r
      unfolding counts_fault plan_in
      read-no-rooms p e =
          let few_pairs = le-leb (pair_count (plan_in r)) most_pairs (omega (arith, pair-count held)) in
          by-counts r lines symbols _
          (go_on _ 5 0 _ few_tasks ∙ go_on _ 19 0 _ few_pairs ∙ refuse _ 17 0 _ (rw (← held.rooms) e))

  -- what a plan that passes has
  pub record ReadPassed : Type 0 where
    pub bytes_few : s.bytes ≤ most_packed
    pub tasks_few : s.tasks ≤ most_tasks
    pub pairs_few : s.pairs ≤ most_pairs
    pub rooms_few : s.rooms ≤ most_rooms

  pub read-passed : None ≡ read_fault true r → ReadPassed
  unfolding read_fault plan_fault plan_in
  read-passed e =
      let (size, after-31) = neither _ _ (sym e) in
      let (lines, own) = neither _ _ after-31 in
      let (letters, after-4) = neither _ _ own in
      let counts = counts-passed (neither _ _ after-4).0 in
      record {
        bytes_few = bytes-fit (sym (else-none _ _ lines ∙ sym (by-symbols r lines) ∙ letters));
        tasks_few = omega (arith, task-count held, counts.tasks);
        pairs_few = omega (arith, pair-count held, counts.few_pairs);
        rooms_few = omega (arith, held.rooms, counts.rooms);
      }
