-- Laws of a text that grows by a record a turn, as a loop writes it and as a loop counts its bytes. Assumes nothing.
use mathlib.Core.Path.{◌≡◌, refl, sym, ap, ◌∙◌}
use mathlib.Core.Bool.{Bool, true, false}
use mathlib.Core.List.{List, [], ◌∷◌, ◌++◌, append_assoc, append-nil}
use Prim.Native.Nat.{ℕ, zero, suc, ◌+◌, ◌*◌, ◌≤◌, ◌<◌}
use native.Mathlib.Nat.{suc-mul}
use native.Mathlib.Numerals.{add-one}
use native.Mathlib.Omega.{arith}
use lib.Dec.{ltb}
use lib.ListN.{length, length-append}
use borrow.Author.Tests.{ltb-true, ltb-false}
use Rattle.units.specs.Lists.{list_to}
use Rattle.units.proofs.Lists.{list-next}
use Rattle.text.specs.Words.{word_plan, word_task, word_after}
use Rattle.text.specs.Fields.{lf}
use Rattle.text.specs.Lines.{ended, line_of}
use Rattle.text.specs.Putting.{Put}
use Rattle.text.proofs.Puts.{put_both, put-length}
use Rattle.plan.specs.Plan.{Shifts, Plan, shifts, room_count, task_count, pair_count, calendar_count, calendar_at}
use Rattle.plan.specs.Passed.{Passed}
use Rattle.plan.proofs.Passed.{calendar-hours}
use Rattle.plan_format.specs.Records.{Record, cal_record, task_record, after_record, record_line}
use Rattle.plan_format.specs.Text.{text_of}
use Rattle.plan_format.specs.Writing.{cal_records, task_records, after_records, records_of, text_of_plan}
use Rattle.plan_format.proofs.Texts.{text-both}

-- a record a turn, f i at turn i
module _ (f : ℕ → Record) where
  abbrev text : ℕ → List ℕ
  text n = text_of (list_to f n)

  pub text-none : text 0 ≡ []
  unfolding text_of list_to
  text-none = refl

  -- one line more, as the code hands it over
  module _ (i : ℕ) {line : List ℕ} (e : line ≡ ended (record_line (f i))) where
    text-next : text (i + 1) ≡ text i ++ line
    unfolding text_of
    text-next =
        ap text_of (list-next f i) ∙ text-both (list_to f i) (f i ∷ []) ∙ ap (λ l. text i ++ l) (append-nil (ended (record_line (f i))) ∙ sym e)

    pub text-longer : {bytes more : ℕ} → bytes ≡ length (text i) → more ≡ length line → bytes + more ≡ length (text (i + 1))
    text-longer p q = omega (arith, ap length text-next, length-append (text i) line)

    pub text-put : {at m n : ℕ} {cells l1 l2 : List ℕ} → at ≤ length cells → Put (text i) at cells m l1 → Put line m l1 n l2
        → Put (text (i + 1)) at cells n l2
    text-put l p q = rw text-next (put_both l p q)

  -- and of the record itself
  pub text_last : (n : ℕ) → length (text (suc n)) ≡ length (text n) + length (ended (record_line (f n)))
  text_last n = rw add-one at (ap length (text-next n refl) ∙ length-append (text n) (ended (record_line (f n))))

  -- what stands after some turns, and one line more, are no longer than all
  text-within : (i n : ℕ) → i < n → length (text i) + length (ended (record_line (f i))) ≤ length (text n)
  text-within i zero l = absurd (omega arith)
  text-within i (suc n) l = go (text-within i n) (ltb i n) refl
    where
      go : (i < n → length (text i) + length (ended (record_line (f i))) ≤ length (text n)) → (t : Bool) → ltb i n ≡ t
          → length (text i) + length (ended (record_line (f i))) ≤ length (text (suc n))
      go before true q = omega (arith, text_last n, before (ltb-true _ _ q))
      go before false q = let same : i ≡ n = omega (arith, ltb-false i n q) in rw same (omega (arith, text_last n))

  -- so that there is room for the line where there was room for all
  pub text-room : (i : ℕ) {line : List ℕ} → line ≡ ended (record_line (f i)) → {n at m : ℕ} {cells left : List ℕ} → i < n
      → at + length (text n) ≤ length cells → Put (text i) at cells m left → m + length line ≤ length left
  text-room i e {n} l room p = rw e (omega (arith, text-within i n l, p.place, put-length p (omega (arith, text-within i n l))))

-- ---- a record's line, as the code hands it over

-- of a calendar: the word, a tab and LF beside its symbols
pub cal-length : (symbols : List ℕ) → length (ended (record_line (cal_record symbols))) ≡ length symbols + 5
unfolding record_line
cal-length symbols = omega (arith, length-append symbols (lf ∷ []))

pub cal-line : {symbols line : List ℕ} → line ≡ symbols → ended (record_line (cal_record line)) ≡ ended (record_line (cal_record symbols))
cal-line e = ap (λ l. ended (record_line (cal_record l))) e

-- of a task and of a pair: a word and numbers
pub task-line : {numbers line : List ℕ} → line ≡ numbers → line_of word_task line ≡ ended (record_line (task_record numbers))
unfolding line_of record_line
task-line e = ap (line_of word_task) e

pub pair-line : {earlier later : ℕ} {line : List ℕ} → line ≡ earlier ∷ later ∷ []
    → line_of word_after line ≡ ended (record_line (after_record earlier later))
unfolding line_of record_line
pair-line e = ap (line_of word_after) e

-- the calendars' lines, each of so many symbols
pub cals-length : (S : Shifts) (h n : ℕ) → ((k : ℕ) → k < n → length (calendar_at S k) ≡ h) → length (text_of (cal_records S n)) ≡ n * h + 5 * n
unfolding cal_records
cals-length S h zero e = omega (arith, ap length (text-none (λ k. cal_record (calendar_at S k))))
cals-length S h (suc n) e =
    omega (
      arith,
      text_last (λ k. cal_record (calendar_at S k)) n,
      cal-length (calendar_at S n),
      e n (omega arith),
      cals-length S h n (λ k l. e k (omega arith)),
      suc-mul n h,
    )

-- ---- the whole text

-- a plan's calendars alone, as the code that writes them looks at them
abbrev pub alone : Plan → Shifts
alone P = shifts P.shifts.hours P.shifts.calendars [] []

module _ (P : Plan) (boxes : List ℕ) where
  abbrev task_lines : List Record
  task_lines = task_records (room_count P) P.shifts.task_calendars P.shifts.work_times P.heights boxes (task_count P)

  abbrev first : List ℕ
  first = line_of word_plan (P.shifts.hours ∷ P.capacities)

  abbrev calendars : List ℕ
  calendars = text_of (cal_records (alone P) (calendar_count (alone P)))

  abbrev tasks : List ℕ
  tasks = text_of task_lines

  abbrev pairs : List ℕ
  pairs = text_of (after_records P (pair_count P))

  -- the plan line, the calendars' lines, the tasks' lines, the pairs' lines
  pub plan-text : text_of_plan P boxes ≡ first ++ calendars ++ tasks ++ pairs
  unfolding text_of_plan records_of text_of cal_records calendar_at line_of record_line
  plan-text =
      let cals = cal_records P.shifts (calendar_count P.shifts) in
      ap (λ l. first ++ l)
      (text-both (cals ++ task_lines) (after_records P (pair_count P)) ∙ ap (λ l. l ++ pairs) (text-both cals task_lines))
      ∙ sym (append_assoc first (calendars ++ tasks) pairs)
      ∙ ap (λ l. l ++ pairs) (sym (append_assoc first calendars tasks))

  pub plan-length : length (text_of_plan P boxes) ≡ length first + length calendars + length tasks + length pairs
  plan-length =
      omega (
        arith,
        ap length plan-text,
        length-append (first ++ calendars ++ tasks) pairs,
        length-append (first ++ calendars) tasks,
        length-append first calendars,
      )

  pub calendars-length : Passed P boxes → length calendars ≡ length P.shifts.calendars + 5 * calendar_count (alone P)
  calendars-length p =
      omega (arith, cals-length (alone P) P.shifts.hours (calendar_count (alone P)) (calendar-hours (alone P)), p.whole)
