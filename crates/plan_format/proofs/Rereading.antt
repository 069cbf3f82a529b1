-- A plan's text, read again, holds the plan's records. Assumes nothing.
use Rattle.std.specs.Prelude.{if◌then◌else◌}
use mathlib.Core.Path.{◌≡◌, refl, ap, ◌∙◌}
use mathlib.Core.Bool.{true, false}
use Rattle.std.specs.Prelude.{Some}
use mathlib.Core.List.{List, [], ◌++◌}
use Prim.Native.Nat.{ℕ, zero, suc, ◌+◌, ◌≤◌, ◌<◌}
use native.Mathlib.Omega.{arith}
use lib.Dec.{eqb}
use lib.ListN.{length, get_or}
use borrow.Author.Tests.{eq-eqb, eqb-true, ne_eqb}
use Rattle.units.specs.Choice.{on_option}
use Rattle.units.specs.Limits.{within}
use Rattle.units.specs.Lists.{list_to, joined}
use Rattle.units.proofs.Choices.{if-case, if-all}
use Rattle.plan.specs.Plan.{Plan, room_count, task_count, pair_count, calendar_count, first_symbol, calendar_at, pair_of}
use Rattle.plan.specs.HourKinds.{is_kind, is_symbol, regular, closed, overtime}
use Rattle.plan.specs.Passed.{Passed}
use Rattle.plan.specs.Refusals.{answered}
use Rattle.plan.proofs.HourKinds.{symbol-part}
use Rattle.plan.proofs.Passed.{calendar-in, calendar-hours}
use Rattle.text.specs.Fields.{tab, lf, first_at}
use Rattle.text.specs.Numbers.{most_number}
use Rattle.text.proofs.Parting.{without-each}
use Rattle.text.proofs.Lines.{Below}
use Rattle.plan_format.specs.Records.{Record, cal_record, task_record, after_record}
use Rattle.plan_format.specs.Text.{plan_section, cal_section, task_section, after_section, Read, nothing, comes, is_task_line}
use Rattle.plan_format.specs.Text.{with_record, read_text}
use Rattle.plan_format.specs.Writing.{cal_records, task_numbers, task_records, after_records, records_of, text_of_plan}
use Rattle.plan_format.proofs.Written.{tasks_section, pairs_section, paired, pairs_to, read_of}
use Rattle.plan_format.proofs.Written.{numbers-count, numbers-below, paired-below, capacities-below}
use Rattle.units.proofs.Joined.{joined-more}
use Rattle.plan_format.proofs.Size.{records-short, records-few}
use Rattle.plan_format.proofs.Lines.{Readable}
use Rattle.plan_format.proofs.Texts.{Each, each_both, each_to, with_records, records-both, records-to, lines-read}

-- r, c and o are letters, above tab and LF
symbol_high : (l : List ℕ) (t : ℕ) → is_symbol l t ≡ true → closed ≤ get_or l t 0
unfolding is_symbol is_kind
symbol_high l t e =
    if-case _ _ _ _ e (λ r q. omega (arith, eqb-true (get_or l t 0) regular r))
    (λ r q. if-case _ _ _ _ q (λ c k. omega (arith, eqb-true (get_or l t 0) closed c)) (λ c k. omega (arith, eqb-true (get_or l t 0) overtime k)))

-- after a record of a section, that section is reached
not_none : (n : ℕ) → eqb (suc n) 0 ≡ false
not_none n = ne_eqb (suc n) 0 (λ e. omega arith)

module _ (P : Plan) (boxes : List ℕ) where
  -- the plan's records after its first, and the numbers of a task
  abbrev calendars : List Record
  calendars = cal_records P.shifts (calendar_count P.shifts)

  abbrev tasks : List Record
  tasks = task_records (room_count P) P.shifts.task_calendars P.shifts.work_times P.heights boxes (task_count P)

  abbrev pairs : List Record
  pairs = after_records P (pair_count P)

  abbrev numbers : ℕ → List ℕ
  numbers = task_numbers (room_count P) P.shifts.task_calendars P.shifts.work_times P.heights boxes

  line-count : (i : ℕ) → length (numbers i) ≡ room_count P + 8
  line-count = numbers-count (room_count P) _ _ _ _

  -- ---- each record is read as it is

  module _ (p : Passed P boxes) where
    -- each symbol of a calendar is one of the plan's
    calendar-symbol : (k t : ℕ) → k < calendar_count P.shifts → t < P.shifts.hours → is_symbol (calendar_at P.shifts k) t ≡ true
    unfolding calendar_at
    calendar-symbol k t l m =
        symbol-part P.shifts.calendars (first_symbol P.shifts.hours k) P.shifts.hours t m
        ∙ p.symbols _ (omega (arith, calendar-in P.shifts k l))

    calendar-without : (separator : ℕ) → separator < closed → (k : ℕ) → k < calendar_count P.shifts
        → first_at separator (calendar_at P.shifts k) ≡ length (calendar_at P.shifts k)
    calendar-without separator h k l =
        without-each separator _ (λ t m e. omega (
          arith,
          symbol_high (calendar_at P.shifts k) t (calendar-symbol k t l (omega (arith, calendar-hours P.shifts k l))),
        ))

    calendars-readable : Each Readable calendars
    unfolding cal_records Readable
    calendars-readable =
        each_to Readable _ _ (λ k l. (
          omega (arith, calendar-hours P.shifts k l, p.some_hours),
          calendar-without tab (omega arith) k l,
          calendar-without lf (omega arith) k l,
        ))

    tasks-readable : Each Readable tasks
    unfolding task_records Readable
    tasks-readable = each_to Readable _ _ (λ i l. (omega (arith, line-count i), numbers-below p (suc most_number) (omega arith) i l))

    pairs-readable : Each Readable pairs
    unfolding after_records Readable
    pairs-readable = each_to Readable _ _ (λ k l. paired-below p (suc most_number) (omega arith) k l)

    records-readable : Each Readable (records_of P boxes)
    unfolding Each records_of Readable Below
    records-readable = (
      (omega (arith, p.hours), capacities-below p (suc most_number) (omega arith)),
      each_both Readable (calendars ++ tasks) pairs (each_both Readable calendars tasks calendars-readable tasks-readable) pairs-readable,
    )

  -- ---- the records taken one after the other

  -- what has been read after the plan line and n calendars, after all calendars and n tasks, and after all tasks and n pairs
  abbrev after_calendars : ℕ → Read
  after_calendars n =
      record {
        reached = if eqb n 0 then plan_section else cal_section;
        hours = P.shifts.hours;
        capacities = P.capacities;
        calendars = list_to (calendar_at P.shifts) n;
        tasks = [];
        pairs = [];
      }

  abbrev after_tasks : ℕ → Read
  after_tasks n =
      record {
        reached = tasks_section n;
        hours = P.shifts.hours;
        capacities = P.capacities;
        calendars = list_to (calendar_at P.shifts) (calendar_count P.shifts);
        tasks = list_to numbers n;
        pairs = [];
      }

  abbrev after_pairs : ℕ → Read
  after_pairs n =
      record {
        reached = pairs_section (task_count P) n;
        hours = P.shifts.hours;
        capacities = P.capacities;
        calendars = list_to (calendar_at P.shifts) (calendar_count P.shifts);
        tasks = list_to numbers (task_count P);
        pairs = pairs_to P n;
      }

  calendar-taken : (k : ℕ) → with_record (after_calendars k) (cal_record (calendar_at P.shifts k)) ≡ Some (after_calendars (suc k))
  unfolding with_record comes within list_to
  calendar-taken zero = refl
  calendar-taken (suc k) = rw (not_none k, not_none (suc k))

  -- a task's line has all its numbers
  is-line : (i : ℕ) → is_task_line (length P.capacities) (length (numbers i)) ≡ true
  unfolding is_task_line
  is-line i = if-all (λ b. b ≡ true) _ _ _ (λ q. refl) (λ q. eq-eqb _ _ (line-count i))

  task-taken : (i : ℕ) → with_record (after_tasks i) (task_record (numbers i)) ≡ Some (after_tasks (suc i))
  unfolding with_record comes within list_to
  task-taken zero = rw (is-line zero)
  task-taken (suc i) = rw (not_none i, not_none (suc i), is-line (suc i))

  -- the pairs may follow the calendars, where there is no task
  may-follow : comes after_section (tasks_section (task_count P)) ≡ true
  unfolding comes within
  may-follow = if-all (λ (n : ℕ). comes after_section n ≡ true) (eqb (task_count P) 0) cal_section task_section (λ q. refl) (λ q. refl)

  pair-taken : (k : ℕ) → with_record (after_pairs k) (after_record (pair_of P k).earlier (pair_of P k).later) ≡ Some (after_pairs (suc k))
  unfolding with_record comes within list_to joined
  pair-taken zero = rw may-follow
  pair-taken (suc k) = rw (not_none k, not_none (suc k), joined-more (list_to (paired P) (suc k)) (paired P (suc k)))

  plan-taken : with_records nothing (records_of P boxes) ≡ with_records (after_calendars 0) (calendars ++ tasks ++ pairs)
  unfolding records_of with_records with_record comes on_option list_to
  plan-taken = refl

  -- there is a calendar, so that the tasks may follow
  calendars-taken : 1 ≤ calendar_count P.shifts → after_calendars (calendar_count P.shifts) ≡ after_tasks 0
  unfolding list_to
  calendars-taken l = rw (ne_eqb (calendar_count P.shifts) 0 (λ e. omega arith))

  tasks-taken : after_tasks (task_count P) ≡ after_pairs 0
  unfolding list_to joined
  tasks-taken = refl

  records-taken : 1 ≤ calendar_count P.shifts → with_records nothing (records_of P boxes) ≡ Some (read_of P boxes)
  unfolding cal_records task_records after_records read_of
  records-taken l =
      plan-taken
      ∙ records-both (calendars ++ tasks) pairs (after_calendars 0) (after_tasks (task_count P))
      (records-both calendars tasks (after_calendars 0) (after_calendars (calendar_count P.shifts))
      (records-to _ after_calendars calendar-taken (calendar_count P.shifts))
      ∙ ap (λ r. with_records r tasks) (calendars-taken l)
      ∙ records-to _ after_tasks task-taken (task_count P))
      ∙ ap (λ r. with_records r pairs) tasks-taken
      ∙ records-to _ after_pairs pair-taken (pair_count P)

  -- the text has begun
  begun : plan_section ≤ (read_of P boxes).reached
  unfolding read_of
  begun =
      let begins : ℕ → Type 0 = λ n. plan_section ≤ n in
      if-all begins (eqb (pair_count P) 0) _ after_section
      (λ q. if-all begins (eqb (task_count P) 0) cal_section task_section (λ q. omega arith) (λ q. omega arith))
      (λ q. omega arith)

  pub text-read : Passed P boxes → read_text (text_of_plan P boxes) ≡ answered (read_of P boxes)
  unfolding read_text text_of_plan
  text-read p =
      lines-read (records_of P boxes) (records-readable p) (records-short P boxes p) 1 (omega (arith, records-few P boxes p)) nothing (read_of P boxes)
      (records-taken p.some_calendar) begun
