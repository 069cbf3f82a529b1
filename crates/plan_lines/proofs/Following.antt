-- Laws of what the code keeps of a plan text: what it holds after another record, and the plan that it holds in the end. Assumes nothing.
use mathlib.Core.Path.{◌≡◌, refl, sym, ap, ap₂, subst, ◌∙◌}
use mathlib.Core.Bool.{Bool, true, false}
use Rattle.std.specs.Prelude.{Option, None, Some}
use mathlib.Core.List.{List, [], ◌∷◌, ◌++◌, map}
use Prim.Native.Nat.{ℕ, ◌+◌, ◌-◌, ◌*◌, ◌≤◌}
use native.Mathlib.Omega.{arith}
use lib.Dec.{eqb}
use lib.ListN.{length, get_or, drop, length-append, length-drop, length-map}
use Rattle.units.specs.Choice.{◌and◌, on_option, first_of}
use Rattle.units.specs.Lists.{joined}
use Rattle.units.specs.Limits.{most_rooms, most_tasks, most_pairs, pair_numbers}
use Rattle.units.proofs.Choices.{some-if, none-if, and_both, not_left, not_right}
use Rattle.units.proofs.Joined.{joined-more}
use Rattle.units.proofs.Lists.{list-eq, map_more}
use Rattle.plan.specs.Plan.{pair_count}
use Rattle.plan.specs.Packed.{bytes_of, packed}
use Rattle.plan.specs.Over.{packed_plan}
use Rattle.plan.proofs.Packing.{packed-length}
use Rattle.plan_lines.specs.declared.Scan.{Scan}
use Rattle.plan_lines.specs.declared.Section.{Section}
use Rattle.plan_lines.specs.declared.Section.TheVariants as section_is
use Rattle.plan_format.specs.Records.{Record, plan_record, cal_record, task_record, after_record, record_of}
use Rattle.plan_format.specs.Text.{Read, plan_section, cal_section, task_section, after_section, comes, is_task_line, with_record, with_line}
use Rattle.plan_format.specs.Reading.{box_of, heights_in, plan_in, boxes_in, all_of, most_packed, most_paired, most_bounds}
use Rattle.plan_format.proofs.Boxes.{boxes-length}
use Rattle.plan_format.proofs.Each.{all_more}
use Rattle.text.specs.Reading.{Begin}
use Rattle.plan_lines.specs.Inner.Scanning.{calendars_at, work_times_at, boxes_at, capacities_at, pairs_at, room_at, section, section_number}
use Rattle.plan_lines.specs.Inner.Scanning.{Kept, Keeps, KeepsNumbers, stored_heights, stored_plan, stored_boxes, packed_read}
use Rattle.plan_lines.specs.Inner.Scanning.{wrong_symbol_fault, symbols_fault, all_packed, Holds, Follows}
use Rattle.plan_lines.proofs.Sections.{kept-none, kept-section}
use Rattle.plan_lines.proofs.Numbering.{begin-cell}
use Rattle.plan_lines.proofs.Storing.{numbers-none}

-- ---- a record more

-- a calendar more, packed
packed-more : (cals : List (List ℕ)) (l : List ℕ) → all_packed (cals ++ (l ∷ [])) ≡ all_packed cals ++ packed l
packed-more cals l = ap joined (map_more packed cals l) ∙ joined-more (map packed cals) (packed l)

-- no calendars, no tasks and no pairs
abbrev pub bare : Section → ℕ → ℕ → Scan
bare reached h rooms =
    record {
      reached = reached;
      hours = h;
      rooms = rooms;
      calendars = 0;
      even = true;
      symbols = 0;
      bytes = 0;
      wrong_symbol = None;
      tasks = 0;
      pairs = 0;
    }

pub holds-empty : (reached : Section) (h k n : ℕ) (cs calendars cells : List ℕ) → k ≡ length cs → Kept capacities_at most_rooms cs cells
    → Holds (record { reached = section_number reached; hours = h; capacities = cs; calendars = []; tasks = []; pairs = [] })
    (bare reached h k) n calendars cells
unfolding joined all_of first_of
holds-empty reached h k n cs calendars cells e kept =
    record {
      reached = refl;
      hours = refl;
      rooms = e;
      calendars = refl;
      even = refl;
      symbol_count = refl;
      byte_count = refl;
      wrong_symbol = refl;
      tasks = refl;
      pairs = refl;
      few = omega arith;
      few_bytes = omega arith;
      kept_calendars = kept-none 0 most_packed calendars;
      kept_numbers = numbers-none h kept;
    }

module _ {r : Read} {s : Scan} {n : ℕ} {calendars cells : List ℕ} (held : Holds r s n calendars cells) where
  -- read with more bytes
  pub holds_later : (m : ℕ) → n ≤ m → Holds r s m calendars cells
  holds_later m h =
      record {
        reached = held.reached;
        hours = held.hours;
        rooms = held.rooms;
        calendars = held.calendars;
        even = held.even;
        symbol_count = held.symbol_count;
        byte_count = held.byte_count;
        wrong_symbol = held.wrong_symbol;
        tasks = held.tasks;
        pairs = held.pairs;
        few = omega (arith, held.few);
        few_bytes = held.few_bytes;
        kept_calendars = held.kept_calendars;
        kept_numbers = held.kept_numbers;
      }

  -- a test of the section reached, as the code makes it
  reaches : (section : ℕ) {may t : Bool} → may ≡ comes section (section_number s.reached) → may ≡ t → comes section r.reached ≡ t
  reaches section p q = ap (comes section) (sym held.reached) ∙ sym p ∙ q

  module _ {may : Bool} {count : ℕ} {ns numbers : List ℕ} (begin : Begin ns count numbers) (p : may ≡ comes plan_section (section_number s.reached)) where
    pub plan-broken : (cells' : List ℕ) → may ≡ false → Follows (with_record r (plan_record (get_or ns 0 0) (drop 1 ns))) None n calendars cells'
    unfolding with_record Follows
    plan-broken cells' q = none-if _ _ (reaches plan_section p q)

    pub plan-next : (cells' : List ℕ) → may ≡ true → 1 ≤ count → 1 ≤ length numbers → Kept capacities_at most_rooms (drop 1 ns) cells'
        → Follows (with_record r (plan_record (get_or ns 0 0) (drop 1 ns)))
        (Some (bare section_is.Plan (get_or numbers 0 0) (count - 1))) n calendars cells'
    unfolding with_record Follows
    plan-next cells' q least room kept =
        rw (begin-cell begin 0 (omega arith) (omega arith)) (
          _,
          some-if _ _ (reaches plan_section p q),
          holds-empty section_is.Plan (get_or ns 0 0) (count - 1) n (drop 1 ns) calendars cells' (omega (arith, begin.counted, length-drop 1 ns)) kept,
        )

  module _ {may : Bool} (l : List ℕ) (p : may ≡ comes cal_section (section_number s.reached)) where
    pub cal-broken : (calendars' : List ℕ) (m : ℕ) → may ≡ false → Follows (with_record r (cal_record l)) None m calendars' cells
    unfolding with_record Follows
    cal-broken calendars' m q = none-if _ _ (reaches cal_section p q)

    pub cal-next : (even : Bool) (bytes : ℕ) (wrong : Option ℕ) (calendars' : List ℕ) → may ≡ true → even ≡ (s.even and eqb (length l) s.hours)
        → bytes ≡ bytes_of (length l) → bytes ≤ length l
        → ((xs : List ℕ) → s.symbols ≡ length xs → wrong_symbol_fault s.wrong_symbol ≡ symbols_fault xs
        → wrong_symbol_fault wrong ≡ symbols_fault (xs ++ l))
        → ((before : List ℕ) → s.bytes ≡ length before → Kept 0 most_packed before calendars → Kept 0 most_packed (before ++ packed l) calendars')
        → Follows (with_record r (cal_record l))
        (Some (record {
          reached = section_is.Calendars;
          hours = s.hours;
          rooms = s.rooms;
          calendars = s.calendars + 1;
          even = even;
          symbols = s.symbols + length l;
          bytes = s.bytes + bytes;
          wrong_symbol = wrong;
          tasks = s.tasks;
          pairs = s.pairs;
        })) (n + (length l + 1)) calendars' cells
    unfolding with_record Follows
    cal-next even bytes wrong calendars' q e whole within first kept = (
      _,
      some-if _ _ (reaches cal_section p q),
      record {
        reached = refl;
        hours = held.hours;
        rooms = held.rooms;
        calendars = omega (arith, held.calendars, length-append r.calendars (l ∷ []));
        even = e ∙ ap₂ (λ a h. a and eqb (length l) h) held.even held.hours ∙ sym (all_more r.hours r.calendars l);
        symbol_count =
            omega (arith, held.symbol_count, ap length (joined-more r.calendars l), length-append (joined r.calendars) l);
        byte_count =
            omega (
              arith,
              held.byte_count,
              whole,
              ap length (packed-more r.calendars l),
              length-append (all_packed r.calendars) (packed l),
              packed-length l,
            );
        wrong_symbol = rw (joined-more r.calendars l) (first (joined r.calendars) held.symbol_count held.wrong_symbol);
        tasks = held.tasks;
        pairs = held.pairs;
        few = omega (arith, held.few);
        few_bytes = omega (arith, held.few_bytes, within);
        kept_calendars = rw (packed-more r.calendars l) (kept (all_packed r.calendars) held.byte_count held.kept_calendars);
        kept_numbers = held.kept_numbers;
      },
    )

  module _ {may : Bool} (ns : List ℕ) (p : may ≡ comes task_section (section_number s.reached)) where
    pub task-broken : (cells' : List ℕ) (m : ℕ) → may ≡ false → Follows (with_record r (task_record ns)) None m calendars cells'
    unfolding with_record Follows
    task-broken cells' m q = none-if _ _ (not_left _ _ (reaches task_section p q))

    module _ {count : ℕ} {as_many : Bool} (e : count ≡ length ns) (f : as_many ≡ is_task_line s.rooms count) where
      numbered : {t : Bool} → as_many ≡ t → is_task_line (length r.capacities) (length ns) ≡ t
      numbered q = rw (← held.rooms, ← e) (sym f ∙ q)

      pub task-not : (cells' : List ℕ) (m : ℕ) → as_many ≡ false → Follows (with_record r (task_record ns)) None m calendars cells'
      unfolding with_record Follows
      task-not cells' m q = none-if _ _ (not_right _ _ (numbered q))

      pub task-next : (cells' : List ℕ) → may ≡ true → as_many ≡ true
          → (KeepsNumbers s.hours r.capacities r.tasks r.pairs cells
          → KeepsNumbers s.hours r.capacities (r.tasks ++ (ns ∷ [])) r.pairs cells')
          → Follows (with_record r (task_record ns))
          (Some (record {
            reached = section_is.Tasks;
            hours = s.hours;
            rooms = s.rooms;
            calendars = s.calendars;
            even = s.even;
            symbols = s.symbols;
            bytes = s.bytes;
            wrong_symbol = s.wrong_symbol;
            tasks = s.tasks + 1;
            pairs = s.pairs;
          })) (n + 1) calendars cells'
      unfolding with_record Follows
      task-next cells' q t kept = (
        _,
        some-if _ _ (and_both _ _ (reaches task_section p q) (numbered t)),
        record {
          reached = refl;
          hours = held.hours;
          rooms = held.rooms;
          calendars = held.calendars;
          even = held.even;
          symbol_count = held.symbol_count;
          byte_count = held.byte_count;
          wrong_symbol = held.wrong_symbol;
          tasks = omega (arith, held.tasks, length-append r.tasks (ns ∷ []));
          pairs = held.pairs;
          few = omega (arith, held.few);
          few_bytes = held.few_bytes;
          kept_calendars = held.kept_calendars;
          kept_numbers =
              subst (λ (h : ℕ). KeepsNumbers h r.capacities (r.tasks ++ (ns ∷ [])) r.pairs cells') held.hours
              (kept (subst (λ (h : ℕ). KeepsNumbers h r.capacities r.tasks r.pairs cells) (sym held.hours) held.kept_numbers));
        },
      )

  module _ {may : Bool} (x y : ℕ) (p : may ≡ comes after_section (section_number s.reached)) where
    pub pair-broken : (cells' : List ℕ) (m : ℕ) → may ≡ false → Follows (with_record r (after_record x y)) None m calendars cells'
    unfolding with_record Follows
    pair-broken cells' m q = none-if _ _ (reaches after_section p q)

    pub pair-next : (cells' : List ℕ) → may ≡ true
        → (KeepsNumbers r.hours r.capacities r.tasks r.pairs cells → KeepsNumbers r.hours r.capacities r.tasks (r.pairs ++ (x ∷ y ∷ [])) cells')
        → Follows (with_record r (after_record x y))
        (Some (record {
          reached = section_is.Pairs;
          hours = s.hours;
          rooms = s.rooms;
          calendars = s.calendars;
          even = s.even;
          symbols = s.symbols;
          bytes = s.bytes;
          wrong_symbol = s.wrong_symbol;
          tasks = s.tasks;
          pairs = s.pairs + 1;
        })) (n + 1) calendars cells'
    unfolding with_record Follows
    pair-next cells' q kept = (
      _,
      some-if _ _ (reaches after_section p q),
      record {
        reached = refl;
        hours = held.hours;
        rooms = held.rooms;
        calendars = held.calendars;
        even = held.even;
        symbol_count = held.symbol_count;
        byte_count = held.byte_count;
        wrong_symbol = held.wrong_symbol;
        tasks = held.tasks;
        pairs = omega (arith, held.pairs, length-append r.pairs (x ∷ y ∷ []));
        few = omega (arith, held.few);
        few_bytes = held.few_bytes;
        kept_calendars = held.kept_calendars;
        kept_numbers = kept held.kept_numbers;
      },
    )

-- ---- a line more

module _ (r : Read) (line : List ℕ) where
  pub line-none : record_of line ≡ None → with_line r line ≡ None
  unfolding with_line on_option
  line-none e = rw e

  pub line-is : (found : Record) → record_of line ≡ Some found → with_line r line ≡ with_record r found
  unfolding with_line on_option
  line-is found e = rw e

-- what follows, said of an equal outcome and more bytes
pub follows : {o o' : Option Read} (x : Option Scan) (n m : ℕ) (calendars cells : List ℕ) → o ≡ o' → n ≤ m → Follows o' x n calendars cells
    → Follows o x m calendars cells
unfolding Follows
follows None n m calendars cells e h f = e ∙ f
follows (Some s) n m calendars cells e h (r, q, held) = (r, e ∙ q, holds_later held m h)

-- ---- the plan that is held in the end

module _ {r : Read} {s : Scan} {n : ℕ} {calendars cells : List ℕ} (held : Holds r s n calendars cells) where
  count-tasks : (k : ℕ) → s.tasks ≡ length (map (λ (t : List ℕ). get_or t k 0) r.tasks)
  count-tasks k = held.tasks ∙ sym (length-map r.tasks (λ (t : List ℕ). get_or t k 0))

  pub task-count : s.tasks ≡ length (plan_in r).shifts.task_calendars
  unfolding plan_in
  task-count = count-tasks 0

  pub pair-count : s.pairs ≡ pair_count (plan_in r)
  unfolding plan_in
  pair-count = omega (arith, held.pairs)

  pub calendars-held : s.bytes ≤ most_packed → section 0 s.bytes calendars ≡ all_packed r.calendars
  calendars-held l = kept-section 0 most_packed s.bytes (all_packed r.calendars) calendars held.byte_count l held.kept_calendars

  module _ (l : s.bytes ≤ most_packed) (t : s.tasks ≤ most_tasks) (p : s.pairs ≤ most_pairs) (m : s.rooms ≤ most_rooms) where
    kept : Keeps r.capacities (map (λ t. get_or t 0 0) r.tasks) (map (λ t. get_or t 1 0) r.tasks) (λ room. map (λ t. get_or t (room + 2) 0) r.tasks)
        (joined (map (box_of r.hours (length r.capacities)) r.tasks)) r.pairs cells
    kept = held.kept_numbers (omega (arith, held.rooms))

    heights-held : stored_heights s.rooms s.tasks cells ≡ heights_in (length r.capacities) r.tasks
    unfolding stored_heights heights_in
    heights-held =
        rw held.rooms
        (ap joined
        (list-eq _ _ (length r.capacities) (λ room h.
        kept-section (room_at room) most_tasks s.tasks _ cells (count-tasks (room + 2)) t (kept.heights room h))))

    pub plan-held : stored_plan s.hours s.rooms s.tasks s.pairs (section 0 s.bytes calendars) cells ≡ packed_read r
    unfolding plan_in
    plan-held =
        λ k. packed_plan (held.hours k)
        (kept-section capacities_at most_rooms s.rooms _ cells held.rooms m kept.capacities k)
        (calendars-held l k)
        (kept-section calendars_at most_tasks s.tasks _ cells (count-tasks 0) t kept.calendars k)
        (kept-section work_times_at most_tasks s.tasks _ cells (count-tasks 1) t kept.work_times k)
        (heights-held k)
        (kept-section pairs_at most_paired (pair_numbers * s.pairs) r.pairs cells held.pairs (omega arith) kept.pairs k)

    pub boxes-held : stored_boxes s.tasks cells ≡ boxes_in r
    unfolding boxes_in
    boxes-held =
        kept-section boxes_at most_bounds (6 * s.tasks) _ cells
        (omega (arith, held.tasks, boxes-length r.hours (length r.capacities) r.tasks)) (omega arith) kept.boxes
