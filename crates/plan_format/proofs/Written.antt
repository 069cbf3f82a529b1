-- What the text of a plan that passed holds: the plan, its boxes, and lines that no test refuses. Assumes nothing.
use Rattle.std.specs.Prelude.{if◌then◌else◌}
use mathlib.Core.Path.{◌≡◌, refl, sym, ap, ◌∙◌}
use Rattle.std.specs.Prelude.{None}
use mathlib.Core.List.{List, [], ◌∷◌, map}
use Prim.Native.Nat.{ℕ, ◌+◌, ◌*◌, ◌≤◌, ◌<◌}
use native.Mathlib.Nat.{add-zero, mul_comm}
use native.Mathlib.Numerals.{add-two}
use native.Mathlib.Omega.{arith}
use lib.Dec.{eqb}
use lib.ListN.{length, get_or, take, drop, length-append, length-drop, get_or-append}
use lib.Seq.{get_or-drop, drop_at}
use Rattle.units.specs.Limits.{most_hours, most_calendars, most_tasks, most_capacity, box_numbers, pair_numbers}
use Rattle.units.specs.Lists.{list_to, joined}
use Rattle.units.proofs.Choices.{and_both}
use Rattle.units.proofs.Lists.{list_length, list_at, list-map, list-eq, list-take, list-cells}
use Rattle.units.proofs.Ranges.{is_within}
use Rattle.plan.specs.Plan.{Plan, plan, room_count, task_count, pair_count, calendar_count, first_symbol, calendar_at, room_part}
use Rattle.plan.specs.Plan.{heights_of, height_of, pair_at, pair_of}
use Rattle.plan.specs.Boxes.{bounds_at, box_cells}
use Rattle.plan.specs.Passed.{Passed}
use Rattle.plan.proofs.Passed.{room-length, calendar-hours}
use Rattle.plan.proofs.Refusals.{unless-true, go_on}
use Rattle.text.proofs.Lines.{Below, below_both, below-to, below_each}
use Rattle.plan_format.specs.Text.{Read, cal_section, task_section, after_section}
use Rattle.plan_format.specs.Reading.{box_of, heights_in, plan_in, boxes_in, line_fault}
use Rattle.plan_format.specs.Writing.{heights_at, task_numbers}
use Rattle.plan_format.proofs.Boxes.{box-long}
use Rattle.units.proofs.Joined.{joined-parts}
use Rattle.plan_format.proofs.Each.{all_list}

-- ---- what has been read after all of its records

-- the section that so many tasks end in, after the calendars, and the section that so many pairs then end in
abbrev pub tasks_section : ℕ → ℕ
tasks_section tasks = if eqb tasks 0 then cal_section else task_section

abbrev pub pairs_section : ℕ → ℕ → ℕ
pairs_section tasks pairs = if eqb pairs 0 then tasks_section tasks else after_section

-- the numbers of a pair's line, and of the first n
abbrev pub paired : Plan → ℕ → List ℕ
paired P k = (pair_of P k).earlier ∷ (pair_of P k).later ∷ []

abbrev pub pairs_to : Plan → ℕ → List ℕ
pairs_to P n = joined (list_to (paired P) n)

unfoldable pub read_of : Plan → List ℕ → Read
read_of P boxes =
    record {
      reached = pairs_section (task_count P) (pair_count P);
      hours = P.shifts.hours;
      capacities = P.capacities;
      calendars = list_to (calendar_at P.shifts) (calendar_count P.shifts);
      tasks = list_to (task_numbers (room_count P) P.shifts.task_calendars P.shifts.work_times P.heights boxes) (task_count P);
      pairs = pairs_to P (pair_count P);
    }

-- ---- how many lines

module _ (P : Plan) (boxes : List ℕ) where
  pub calendars-count : length (read_of P boxes).calendars ≡ calendar_count P.shifts
  unfolding read_of
  calendars-count = list_length (calendar_at P.shifts) (calendar_count P.shifts)

  pub tasks-count : length (read_of P boxes).tasks ≡ task_count P
  unfolding read_of
  tasks-count = list_length _ (task_count P)

-- ---- the numbers of a line

module _ (rooms : ℕ) (cs ws hs bs : List ℕ) where
  heights-count : (i : ℕ) → length (heights_at rooms (length cs) hs i) ≡ rooms
  unfolding heights_at
  heights-count i = list_length _ rooms

  -- how many there are: all that a line may have
  pub numbers-count : (i : ℕ) → length (task_numbers rooms cs ws hs bs i) ≡ rooms + 8
  unfolding task_numbers
  numbers-count i =
      omega (arith, length-append (heights_at rooms (length cs) hs i) (box_cells (bounds_at bs i)), heights-count i)

  -- those after the heights are the box
  numbers-box : (i : ℕ) → drop (rooms + 2) (task_numbers rooms cs ws hs bs i) ≡ box_cells (bounds_at bs i)
  unfolding task_numbers
  numbers-box i = rw add-two (drop_at (heights_at rooms (length cs) hs i) (box_cells (bounds_at bs i)) rooms (heights-count i))

  -- and the height in a room stands in the room's place
  numbers-height : (room : ℕ) → room < rooms → (i : ℕ)
      → get_or (task_numbers rooms cs ws hs bs i) (room + 2) 0 ≡ get_or (room_part (length cs) hs room) i 0
  unfolding task_numbers heights_at
  numbers-height room l i =
      rw add-two
      (get_or-append (heights_at rooms (length cs) hs i) (box_cells (bounds_at bs i)) 0 room (omega (arith, heights-count i))
      ∙ list_at _ rooms room 0 l)

-- ---- the boxes and the pairs

-- a part of so many cells of memory, cell by cell
part-cells : (each : ℕ) (cells : List ℕ) (i : ℕ) → each * i + each ≤ length cells
    → list_to (λ j. get_or cells (each * i + j) 0) each ≡ take each (drop (i * each) cells)
part-cells each cells i l =
    list-eq _ _ each (λ j m. sym (get_or-drop (each * i) cells j 0))
    ∙ list-take (drop (each * i) cells) 0 each (omega (arith, length-drop (each * i) cells))
    ∙ ap (λ (at : ℕ). take each (drop at cells)) (mul_comm each i)

module _ {P : Plan} {boxes : List ℕ} (p : Passed P boxes) where
  abbrev numbers : ℕ → List ℕ
  numbers = task_numbers (room_count P) P.shifts.task_calendars P.shifts.work_times P.heights boxes

  -- a box is six cells of memory
  box-part : (i : ℕ) → box_numbers * i + box_numbers ≤ length boxes
      → box_cells (bounds_at boxes i) ≡ take box_numbers (drop (i * box_numbers) boxes)
  unfolding bounds_at list_to
  box-part i l = simp add-zero at (part-cells box_numbers boxes i l)

  -- the last six numbers of a line are the box
  box-line : (i : ℕ) → i < task_count P → box_of P.shifts.hours (room_count P) (numbers i) ≡ take box_numbers (drop (i * box_numbers) boxes)
  box-line i l =
      sym (box-long P.shifts.hours (room_count P) (numbers i) (numbers-count (room_count P) _ _ _ _ i))
      ∙ numbers-box (room_count P) _ _ _ _ i
      ∙ box-part i (omega (arith, p.boxes))

  pub boxes-held : boxes_in (read_of P boxes) ≡ boxes
  unfolding boxes_in read_of
  boxes-held =
      ap joined (list-map numbers (box_of P.shifts.hours (room_count P)) (task_count P) ∙ list-eq _ _ (task_count P) box-line)
      ∙ joined-parts box_numbers boxes (task_count P) (p.boxes ∙ mul_comm box_numbers (task_count P))

  -- a pair is two cells of memory
  pair-part : (k : ℕ) → k < pair_count P → paired P k ≡ take pair_numbers (drop (k * pair_numbers) P.pairs)
  unfolding pair_at list_to
  pair-part k l = simp add-zero at (part-cells pair_numbers P.pairs k (omega (arith, p.pairs)))

  pairs-held : pairs_to P (pair_count P) ≡ P.pairs
  pairs-held =
      ap joined (list-eq _ _ (pair_count P) pair-part)
      ∙ joined-parts pair_numbers P.pairs (pair_count P) (p.pairs ∙ mul_comm pair_numbers (pair_count P))

  -- ---- the plan

  calendars-held : joined (read_of P boxes).calendars ≡ P.shifts.calendars
  unfolding read_of calendar_at first_symbol
  calendars-held = joined-parts P.shifts.hours P.shifts.calendars (calendar_count P.shifts) p.whole

  -- one number of each line is a field of the plan
  column : (k : ℕ) (cells : List ℕ) → ((i : ℕ) → get_or (numbers i) k 0 ≡ get_or cells i 0) → task_count P ≡ length cells
      → map (λ t. get_or t k 0) (read_of P boxes).tasks ≡ cells
  unfolding read_of
  column k cells e n = list-map numbers (λ t. get_or t k 0) (task_count P) ∙ list-eq _ _ (task_count P) (λ i l. e i) ∙ list-cells cells 0 n

  -- room by room, the heights of all tasks
  heights-held : heights_in (room_count P) (read_of P boxes).tasks ≡ P.heights
  unfolding heights_in room_part
  heights-held =
      ap joined
      (list-eq _ _ (room_count P) (λ room l.
      column (room + 2) (room_part (task_count P) P.heights room)
      (numbers-height (room_count P) _ _ _ _ room l)
      (sym (room-length (room_count P) (task_count P) P.heights p.heights room l))))
      ∙ joined-parts (task_count P) P.heights (room_count P) p.heights

  pub plan-held : plan_in (read_of P boxes) ≡ P
  unfolding plan_in read_of task_numbers
  plan-held =
      λ k. plan P.shifts.hours P.capacities (calendars-held k)
      (column 0 P.shifts.task_calendars (λ i. refl) refl k)
      (column 1 P.shifts.work_times (λ i. refl) (sym p.work_times) k)
      (heights-held k)
      (pairs-held k)

  -- ---- its lines

  -- their numbers are below any that is above the limits: H is the greatest limit of a task's numbers
  pub numbers-below : (most : ℕ) → most_hours < most → (i : ℕ) → i < task_count P → Below most (numbers i)
  unfolding task_numbers heights_at Below height_of heights_of
  numbers-below most h i l =
      let t = p.task i l in
      let heights = heights_at (room_count P) (task_count P) P.heights i in
      let low = below-to most (λ room. height_of P room i) (room_count P) (λ room m. omega (arith, h, t.height room m)) in
      let box : Below most (box_cells (bounds_at boxes i)) = omega (arith, h, p.hours, t.work_time, t.box) in
      (omega (arith, h, t.number, p.calendars), (omega (arith, h, p.hours, t.work_time), below_both most heights _ low box))

  pub paired-below : (most : ℕ) → most_tasks ≤ most → (k : ℕ) → k < pair_count P → Below most (paired P k)
  unfolding Below
  paired-below most h k l =
      let x = p.pair k l in
      (omega (arith, h, p.tasks, x.earlier), (omega (arith, h, p.tasks, x.later), _))

  pub capacities-below : (most : ℕ) → most_capacity < most → Below most P.capacities
  capacities-below most h = below_each most P.capacities (λ room l. omega (arith, h, p.capacity room l))

  pub lines-pass : line_fault (read_of P boxes) ≡ None
  unfolding line_fault read_of
  lines-pass =
      go_on _ 2 0 _ (is_within 1 most_hours P.shifts.hours p.some_hours p.hours)
      ∙ unless-true _ 3 0
      (and_both _ _ (rw (calendars-count P boxes) (is_within 1 most_calendars (calendar_count P.shifts) p.some_calendar p.calendars))
      (all_list P.shifts.hours (calendar_at P.shifts) (calendar_count P.shifts) (calendar-hours P.shifts)))
