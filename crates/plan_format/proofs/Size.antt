-- How long the text of a plan that passed is: no line is longer than the limits of a plan let it be, and there are no more lines than they let there
-- be. Assumes nothing.
use mathlib.Core.Path.{◌≡◌, refl, ap}
use mathlib.Core.List.{List, ◌∷◌, ◌++◌}
use Prim.Native.Nat.{ℕ, zero, suc, ◌+◌, ◌*◌, ◌≤◌, ◌<◌}
use native.Mathlib.Nat.{suc-mul}
use native.Mathlib.Omega.{arith}
use lib.ListN.{length, get_or, length-append}
use Rattle.units.proofs.Lists.{list_length}
use Rattle.units.specs.Limits.{most_calendars, most_tasks, most_pairs}
use Rattle.units.specs.Lists.{list_to}
use Rattle.text.specs.Words.{word_plan, word_task, word_after}
use Rattle.text.specs.Numbers.{decimal_text}
use Rattle.text.specs.Lines.{number_fields, ended, line_of}
use Rattle.text.proofs.Decimals.{reach, decimal-width}
use Rattle.text.proofs.Lines.{Below, fields-width, line-length}
use Rattle.plan.specs.Plan.{Plan, room_count, task_count, pair_count, calendar_count, calendar_at, pair_of}
use Rattle.plan.specs.Boxes.{bounds_at, box_cells}
use Rattle.plan.specs.Passed.{Passed}
use Rattle.plan.proofs.Passed.{calendar-hours}
use Rattle.plan_format.specs.Records.{Record, cal_record, task_record, after_record, record_line}
use Rattle.plan_format.specs.Text.{text_of}
use Rattle.plan_format.specs.Writing.{cal_records, heights_at, task_numbers, task_records, after_records, records_of, text_of_plan}
use Rattle.plan_format.specs.Writing.{most_plan_line, most_cal_line, most_task_line, most_pair_line, most_text}
use Rattle.plan_format.proofs.Growing.{cal-length, text-none, text_last, alone, plan-length}
use Rattle.plan_format.proofs.Texts.{Each, each_both, each_to, Short}
use Rattle.plan_format.proofs.Written.{paired, numbers-count, numbers-below, paired-below, capacities-below}

-- the most bytes of a text
pub most-text : most_text ≡ 149066
most-text = refl

-- ---- line by line

-- a tab and at most k + 1 digits, before the other numbers
first_width : (k n : ℕ) (ns : List ℕ) → n < reach (suc k) → length (number_fields (n ∷ ns)) ≤ k + 2 + length (number_fields ns)
unfolding number_fields
first_width k n ns l = omega (arith, length-append (decimal_text n) (number_fields ns), decimal-width k n l)

-- the lines of a loop
lines-size : (f : ℕ → Record) (n most : ℕ) → ((i : ℕ) → i < n → length (ended (record_line (f i))) ≤ most)
    → length (text_of (list_to f n)) ≤ n * most
lines-size f zero most e = omega (arith, ap length (text-none f))
lines-size f (suc n) most e =
    omega (arith, text_last f n, lines-size f n most (λ i l. e i (omega arith)), e n (omega arith), suc-mul n most)

module _ (P : Plan) (boxes : List ℕ) (p : Passed P boxes) where
  plan-width : length (line_of word_plan (P.shifts.hours ∷ P.capacities)) ≤ most_plan_line
  plan-width =
      omega (
        arith,
        line-length word_plan (P.shifts.hours ∷ P.capacities),
        first_width 3 P.shifts.hours P.capacities (omega (arith, p.hours)),
        fields-width 4 P.capacities (capacities-below p (reach 5) (omega arith)),
        p.rooms,
      )

  cal-width : (k : ℕ) → k < calendar_count (alone P) → length (ended (record_line (cal_record (calendar_at (alone P) k)))) ≤ most_cal_line
  cal-width k l = omega (arith, cal-length (calendar_at (alone P) k), calendar-hours (alone P) k l, p.hours)

  cals-size : length (text_of (cal_records (alone P) (calendar_count (alone P)))) ≤ calendar_count (alone P) * most_cal_line
  unfolding cal_records
  cals-size = lines-size _ _ most_cal_line cal-width

  few : calendar_count (alone P) ≤ most_calendars
  few = p.calendars

  task-width : (i : ℕ) → i < task_count P
      → length (ended (record_line (task_record (task_numbers (room_count P) P.shifts.task_calendars P.shifts.work_times P.heights boxes i))))
      ≤ most_task_line
  unfolding record_line line_of task_numbers Below
  task-width i l =
      let t = p.task i l in
      let heights = heights_at (room_count P) (length P.shifts.task_calendars) P.heights i in
      let rest = get_or P.shifts.work_times i 0 ∷ (heights ++ box_cells (bounds_at boxes i)) in
      omega (
        arith,
        line-length word_task (get_or P.shifts.task_calendars i 0 ∷ rest),
        first_width 1 (get_or P.shifts.task_calendars i 0) rest (omega (arith, t.number, p.calendars)),
        fields-width 3 rest (numbers-below p (reach 4) (omega arith) i l).1,
        numbers-count (room_count P) P.shifts.task_calendars P.shifts.work_times P.heights boxes i,
        p.rooms,
      )

  tasks-size : length (text_of (task_records (room_count P) P.shifts.task_calendars P.shifts.work_times P.heights boxes (task_count P)))
      ≤ task_count P * most_task_line
  unfolding task_records
  tasks-size = lines-size _ (task_count P) most_task_line task-width

  pair-width : (k : ℕ) → k < pair_count P → length (ended (record_line (after_record (pair_of P k).earlier (pair_of P k).later))) ≤ most_pair_line
  unfolding record_line line_of
  pair-width k l = omega (arith, line-length word_after (paired P k), fields-width 1 (paired P k) (paired-below p (reach 2) (omega arith) k l))

  pairs-size : length (text_of (after_records P (pair_count P))) ≤ pair_count P * most_pair_line
  unfolding after_records
  pairs-size = lines-size _ (pair_count P) most_pair_line pair-width

  -- ---- all

  pub text-size : length (text_of_plan P boxes) ≤ most_text
  text-size =
      omega (
        arith,
        plan-length P boxes,
        plan-width,
        cals-size,
        few,
        tasks-size,
        p.tasks,
        pairs-size,
        p.few_pairs,
      )

  -- each line is one that may be read, and there are few
  pub records-short : Each Short (records_of P boxes)
  unfolding Each records_of cal_records calendar_at task_records after_records line_of record_line
  records-short = (
    omega (arith, plan-width),
    each_both Short _ _
        (each_both Short _ _
        (each_to Short _ (calendar_count P.shifts) (λ k l. omega (arith, cal-width k l)))
        (each_to Short _ (task_count P) (λ i l. omega (arith, task-width i l))))
        (each_to Short _ (pair_count P) (λ k l. omega (arith, pair-width k l))),
  )

  pub records-few : length (records_of P boxes) ≤ 1 + most_calendars + most_tasks + most_pairs
  unfolding records_of cal_records task_records after_records
  records-few =
      let cals = cal_records P.shifts (calendar_count P.shifts) in
      let tasks = task_records (room_count P) P.shifts.task_calendars P.shifts.work_times P.heights boxes (task_count P) in
      let pairs = after_records P (pair_count P) in
      omega (
        arith,
        length-append (cals ++ tasks) pairs,
        length-append cals tasks,
        list_length (λ k. cal_record (calendar_at P.shifts k)) (calendar_count P.shifts),
        list_length (λ i. task_record (task_numbers (room_count P) P.shifts.task_calendars P.shifts.work_times P.heights boxes i)) (task_count P),
        list_length (λ k. after_record (pair_of P k).earlier (pair_of P k).later) (pair_count P),
        few,
        p.tasks,
        p.few_pairs,
      )
