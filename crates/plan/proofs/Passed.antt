-- What each group of the plan's tests gives once it finds no fault, and so what a plan that passes has. Assumes nothing.
use mathlib.Core.Path.{◌≡◌, ◌∙◌}
use mathlib.Core.Bool.{true}
use Rattle.std.specs.Prelude.{None}
use mathlib.Core.List.{List}
use Prim.Native.Nat.{ℕ, ◌+◌, ◌*◌, ◌/◌, ◌%◌, ◌≤◌, ◌<◌}
use native.Mathlib.Nat.{div-add-mod'}
use native.Mathlib.Omega.{arith}
use lib.ListN.{length, get_or, drop, length-take, length-drop}
use lib.Seq.{get_or-take, get_or-drop}
use borrow.Author.Tests.{eqb-true, eqb-false, leb-true, ltb-true, not-true}
use Rattle.units.specs.Limits.{most_hours, most_calendars, most_rooms, most_tasks, most_pairs, most_capacity, box_numbers, pair_numbers}
use Rattle.units.specs.Limits.{within, is_pair}
use Rattle.units.proofs.Choices.{and_left, and_right, else-none, neither, first-none, first-all-none}
use Rattle.units.proofs.Multiples.{part-within}
use Rattle.units.proofs.Ranges.{boxed, is-boxed, from-least, to-most}
use Rattle.plan.specs.Plan.{Shifts, Plan, room_count, task_count, calendar_count, first_symbol, calendar_at, calendar_of, room_part}
use Rattle.plan.specs.Plan.{heights_of, height_of}
use Rattle.plan.specs.HourKinds.{is_symbol}
use Rattle.plan.specs.Faults.{one_for_each_task, is_whole_pairs, is_right_size, is_calendars, symbol_fault, calendars_fault}
use Rattle.plan.specs.Faults.{capacity_fault, counts_fault, height_fault, one_task_fault, task_fault, tasks_fault, pair_fault, pairs_fault}
use Rattle.plan.specs.Faults.{plan_fault, input_fault}
use Rattle.plan.specs.Passed.{PassedTask, PassedPair, Passed}
use Rattle.plan.proofs.Refusals.{unless-true, unless-none}

-- ---- memory of the right size

-- the lengths of the work times, the heights and the boxes, by those of the capacities and the tasks' calendars
pub record Sized (rs cs ws hs bs : List ℕ) : Type 0 where
  pub work_times : length ws ≡ length cs
  pub heights : length hs ≡ length rs * length cs
  pub boxes : length bs ≡ box_numbers * length cs

pub sized : (rs cs ws hs bs : List ℕ) → one_for_each_task rs cs ws hs bs ≡ true → Sized rs cs ws hs bs
unfolding one_for_each_task
sized rs cs ws hs bs e =
    record {
      work_times = eqb-true _ _ (and_left _ _ e);
      heights = eqb-true _ _ (and_left _ _ (and_right _ _ e));
      boxes = eqb-true _ _ (and_right _ _ (and_right _ _ e));
    }

-- two numbers a pair are as many as are lent
pub pairs_whole : (pairs : List ℕ) → is_whole_pairs pairs ≡ true → length pairs ≡ pair_numbers * (length pairs / pair_numbers)
unfolding is_whole_pairs
pairs_whole pairs e =
    let even : length pairs % pair_numbers ≡ 0 = eqb-true _ _ e in
    omega (arith, div-add-mod' (length pairs) pair_numbers)

-- a pair's two numbers lie among those lent
pub pair-within : (pairs : List ℕ) {k : ℕ} → k < length pairs / pair_numbers → pair_numbers * k + pair_numbers ≤ length pairs
pair-within pairs l = omega (arith, div-add-mod' (length pairs) pair_numbers)

-- ---- H and the calendars

pub record CalendarsPassed (hours : ℕ) (calendars : List ℕ) : Type 0 where
  pub some_hours : 1 ≤ hours
  pub short : hours ≤ most_hours
  pub whole : is_calendars hours calendars ≡ true
  pub symbols : (k : ℕ) → k < length calendars → is_symbol calendars k ≡ true

pub calendars-passed : {hours : ℕ} {calendars : List ℕ} → calendars_fault hours calendars ≡ None → CalendarsPassed hours calendars
unfolding calendars_fault symbol_fault
calendars-passed e =
    let (two, rest) = neither _ _ e in
    let (three, four) = neither _ _ rest in
    let long = unless-none _ 2 0 two in
    record {
      some_hours = from-least 1 most_hours _ long;
      short = to-most 1 most_hours _ long;
      whole = unless-none _ 3 0 three;
      symbols = λ k l. unless-none _ 4 k (first-none _ _ four k l);
    }

-- ---- counts and the capacities

pub record CountsPassed (n pairs : ℕ) (cs : List ℕ) : Type 0 where
  pub tasks : n ≤ most_tasks
  pub few_pairs : pairs ≤ most_pairs
  pub some_room : 1 ≤ length cs
  pub rooms : length cs ≤ most_rooms
  pub capacity : (r : ℕ) → r < length cs → get_or cs r 0 ≤ most_capacity

pub counts-passed : {tasks pairs : ℕ} {capacities : List ℕ} → counts_fault tasks pairs capacities ≡ None → CountsPassed tasks pairs capacities
unfolding counts_fault capacity_fault
counts-passed e =
    let (five, rest) = neither _ _ e in
    let (nineteen, rest) = neither _ _ rest in
    let (seventeen, ten) = neither _ _ rest in
    let count = unless-none _ 17 0 seventeen in
    record {
      tasks = leb-true _ _ (unless-none _ 5 0 five);
      few_pairs = leb-true _ _ (unless-none _ 19 0 nineteen);
      some_room = from-least 1 most_rooms _ count;
      rooms = to-most 1 most_rooms _ count;
      capacity = λ r l. leb-true _ _ (unless-none _ 10 0 (first-none _ _ ten r l));
    }

-- ---- rooms

-- a room's numbers lie among those of all rooms, and there are as many as there are a room
module _ (rooms each : ℕ) (xs : List ℕ) (e : length xs ≡ rooms * each) (r : ℕ) (l : r < rooms) where
  pub room_in : r * each + each ≤ length xs
  room_in = omega (arith, part-within each rooms r l)

  pub room-length : length (room_part each xs r) ≡ each
  unfolding room_part
  room-length = simp (length-take, length-drop) (omega (arith, room_in))

-- a number of a room's, among those of all rooms
pub room_at : (each : ℕ) (xs : List ℕ) (r i : ℕ) → i < each → get_or (room_part each xs r) i 0 ≡ get_or xs (r * each + i) 0
unfolding room_part
room_at each xs r i l = get_or-take each (drop (r * each) xs) i 0 l ∙ get_or-drop (r * each) xs i 0

-- ---- a task

-- a calendar among those there are ends within the symbols, and has H of them
module _ (S : Shifts) (k : ℕ) (l : k < calendar_count S) where
  pub calendar-in : first_symbol S.hours k + S.hours ≤ length S.calendars
  unfolding first_symbol
  calendar-in =
      omega (
        arith,
        div-add-mod' (length S.calendars) S.hours,
        part-within S.hours (length S.calendars / S.hours) k l,
      )

  pub calendar-hours : length (calendar_at S k) ≡ S.hours
  unfolding calendar_at
  calendar-hours = simp (length-take, length-drop) (omega (arith, calendar-in))

module _ (P : Plan) (boxes : List ℕ) where
  passed-task : (i : ℕ) → task_fault P.shifts (room_count P) P.heights boxes i ≡ None → PassedTask P boxes i
  unfolding task_fault one_task_fault height_fault calendar_of heights_of height_of
  passed-task i e =
      let (six, rest) = neither _ _ e in
      let (seven, rest) = neither _ _ rest in
      let (eight, nine) = neither _ _ rest in
      let there = ltb-true _ _ (unless-none _ 6 i six) in
      let work = unless-none _ 7 i seven in
      record {
        number = there;
        calendar = calendar-in P.shifts _ there;
        calendar_length = calendar-hours P.shifts _ there;
        some_work = from-least 1 P.shifts.hours _ work;
        work_time = to-most 1 P.shifts.hours _ work;
        height = λ r l. leb-true _ _ (unless-none _ 8 i (first-none _ _ eight r l));
        box = boxed _ _ _ (unless-none _ 9 i nine);
      }

  -- ---- a pair

  passed-pair : (k : ℕ) → pair_fault (task_count P) P.pairs k ≡ None → PassedPair P k
  unfolding pair_fault is_pair
  passed-pair k e =
      let is = unless-none _ 18 k e in
      let rest = and_right _ _ is in
      record {
        earlier = ltb-true _ _ (and_left _ _ is);
        later = ltb-true _ _ (and_left _ _ rest);
        two = eqb-false _ _ (not-true _ (and_right _ _ rest));
      }

  -- ---- all

  count : is_calendars P.shifts.hours P.shifts.calendars ≡ true → within 1 most_calendars (calendar_count P.shifts) ≡ true
  unfolding is_calendars
  count e = and_right _ _ e

  joins : is_calendars P.shifts.hours P.shifts.calendars ≡ true
      → length P.shifts.calendars ≡ calendar_count P.shifts * P.shifts.hours
  unfolding is_calendars
  joins e =
      let even : length P.shifts.calendars % P.shifts.hours ≡ 0 = eqb-true _ _ (and_left _ _ e) in
      omega (arith, div-add-mod' (length P.shifts.calendars) P.shifts.hours)

  pub passed : is_right_size P boxes ≡ true → plan_fault P boxes ≡ None → Passed P boxes
  unfolding plan_fault tasks_fault pairs_fault
  passed one e =
      let size = sized _ _ _ _ _ (and_left _ _ one) in
      let (calendars, rest) = neither _ _ e in
      let (counts, rest) = neither _ _ rest in
      let (tasks, pairs) = neither _ _ rest in
      let c = calendars-passed calendars in
      let n = counts-passed counts in
      record {
        some_hours = c.some_hours;
        hours = c.short;
        some_calendar = from-least 1 most_calendars _ (count c.whole);
        calendars = to-most 1 most_calendars _ (count c.whole);
        whole = joins c.whole;
        symbols = c.symbols;
        tasks = n.tasks;
        some_room = n.some_room;
        rooms = n.rooms;
        capacity = n.capacity;
        work_times = size.work_times;
        heights = size.heights;
        boxes = size.boxes;
        few_pairs = n.few_pairs;
        pairs = pairs_whole P.pairs (and_right _ _ one);
        task = λ i l. passed-task i (first-none _ _ tasks i l);
        pair = λ k l. passed-pair k (first-none _ _ pairs k l);
      }

  pub input-sized : input_fault P boxes ≡ None → is_right_size P boxes ≡ true
  unfolding input_fault
  input-sized e = unless-none _ 31 0 (neither _ _ e).0

  pub input-passed : input_fault P boxes ≡ None → Passed P boxes
  unfolding input_fault
  input-passed e = passed (input-sized e) (neither _ _ e).1

  -- one height a task in each room
  pub room-heights : Passed P boxes → (r : ℕ) → r < room_count P → length (heights_of P r) ≡ task_count P
  unfolding heights_of
  room-heights p r l = room-length (room_count P) (task_count P) P.heights p.heights r l

  -- ---- with other boxes

  -- only 31 and 9 read the boxes, so that a plan passes with others of which it has all that it has when it passes
  module _ (others : List ℕ) (again : Passed P others) (same : length others ≡ length boxes) where
    task-again : (i : ℕ) → i < task_count P → task_fault P.shifts (room_count P) P.heights boxes i ≡ None
        → task_fault P.shifts (room_count P) P.heights others i ≡ None
    unfolding task_fault one_task_fault
    task-again i l e =
        let (six, rest) = neither _ _ e in
        let (seven, rest) = neither _ _ rest in
        let (eight, nine) = neither _ _ rest in
        else-none _ _ six ∙ else-none _ _ seven ∙ else-none _ _ eight ∙ unless-true _ 9 i (is-boxed _ _ _ (again.task i l).box)

    plan-again : plan_fault P boxes ≡ None → plan_fault P others ≡ None
    unfolding plan_fault tasks_fault
    plan-again e =
        let (calendars, rest) = neither _ _ e in
        let (counts, rest) = neither _ _ rest in
        let (tasks, pairs) = neither _ _ rest in
        else-none _ _ calendars
        ∙ else-none _ _ counts
        ∙ else-none _ _ (first-all-none _ _ (λ i l. task-again i l (first-none _ _ tasks i l)))
        ∙ pairs

    pub input-again : input_fault P boxes ≡ None → input_fault P others ≡ None
    unfolding input_fault one_for_each_task
    input-again e = let (one, rest) = neither _ _ e in else-none _ _ (rw same one) ∙ plan-again rest
