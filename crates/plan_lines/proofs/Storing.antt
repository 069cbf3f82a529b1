-- Laws of the tasks and pairs in the store: what it keeps once one more is stored. Assumes nothing.
use mathlib.Core.Path.{◌≡◌, sym, ap, ◌∙◌}
use mathlib.Core.List.{List, [], ◌∷◌, ◌++◌, map}
use Prim.Native.Nat.{ℕ, ◌+◌, ◌*◌, ◌≤◌, ◌<◌}
use native.Mathlib.Omega.{arith}
use lib.ListN.{length, get_or, set, length-append, length-map}
use Rattle.units.specs.Cells.{written_at}
use Rattle.units.specs.Limits.{most_rooms, most_tasks, most_pairs, pair_numbers}
use Rattle.units.proofs.Cells.{written_one, written-length}
use Rattle.units.specs.Lists.{joined}
use Rattle.units.proofs.Joined.{joined-more}
use Rattle.units.proofs.Lists.{map_more}
use Rattle.plan_format.specs.Reading.{box_of, most_paired, most_bounds}
use Rattle.plan_format.proofs.Boxes.{box-length, boxes-length}
use Rattle.plan_lines.specs.Inner.Scanning.{calendars_at, work_times_at, boxes_at, capacities_at, pairs_at, store_size, room_at}
use Rattle.plan_lines.specs.Inner.Scanning.{Kept, Keeps, KeepsNumbers, with_heights}
use Rattle.plan_lines.proofs.Sections.{kept-none, kept-over, heights-size, keeps-calendar, keeps-work-time, keeps-heights, keeps-box, keeps-pair}

pub numbers-none : (hours : ℕ) {rs cells : List ℕ} → Kept capacities_at most_rooms rs cells → KeepsNumbers hours rs [] [] cells
unfolding joined
numbers-none hours {rs} {cells} kept few =
    record {
      capacities = kept;
      calendars = kept-none calendars_at most_tasks cells;
      work_times = kept-none work_times_at most_tasks cells;
      heights = λ room h. kept-none (room_at room) most_tasks cells;
      boxes = kept-none boxes_at most_bounds cells;
      pairs = kept-none pairs_at most_paired cells;
    }

module _ (hours : ℕ) (rs ps : List ℕ) (tasks : List (List ℕ)) (task : List ℕ) (i : ℕ) (count : i ≡ length tasks) where
  abbrev column : ℕ → List ℕ
  column k = map (λ (t : List ℕ). get_or t k 0) tasks

  abbrev box : List ℕ → List ℕ
  box = box_of hours (length rs)

  -- the parts with one task more
  grown : {cells : List ℕ}
      → Keeps rs (column 0 ++ (get_or task 0 0 ∷ [])) (column 1 ++ (get_or task 1 0 ∷ []))
      (λ room. column (room + 2) ++ (get_or task (room + 2) 0 ∷ []))
      (joined (map box tasks) ++ box task) ps cells
      → KeepsNumbers hours rs (tasks ++ (task ∷ [])) ps cells
  grown kept few =
      record {
        capacities = kept.capacities;
        calendars = rw (map_more (λ t. get_or t 0 0) tasks task) kept.calendars;
        work_times = rw (map_more (λ t. get_or t 1 0) tasks task) kept.work_times;
        heights = λ room h. rw (map_more (λ t. get_or t (room + 2) 0) tasks task) (kept.heights room h);
        boxes = rw (map_more box tasks task, joined-more) kept.boxes;
        pairs = kept.pairs;
      }

  place : (k : ℕ) → i ≡ length (column k)
  place k = count ∙ sym (length-map tasks (λ (t : List ℕ). get_or t k 0))

  boxes-place : 6 * i ≡ length (joined (map box tasks))
  boxes-place = omega (arith, boxes-length hours (length rs) tasks)

  -- no room: nothing is said of the store
  pub rooms-over : (cells : List ℕ) → most_rooms < length rs → KeepsNumbers hours rs (tasks ++ (task ∷ [])) ps cells
  rooms-over cells l few = absurd (omega arith)

  pub tasks-over : (cells : List ℕ) → most_tasks ≤ i → KeepsNumbers hours rs tasks ps cells → KeepsNumbers hours rs (tasks ++ (task ∷ [])) ps cells
  tasks-over cells l kept few =
      grown
      record {
        capacities = (kept few).capacities;
        calendars = over 0 calendars_at;
        work_times = over 1 work_times_at;
        heights = λ room h. over (room + 2) (room_at room);
        boxes =
            kept-over boxes_at most_bounds _ cells
            (omega (arith, boxes-place, box-length hours (length rs) task, length-append (joined (map box tasks)) (box task)));
        pairs = (kept few).pairs;
      }
      few
    where
      over : (k from : ℕ) → Kept from most_tasks (column k ++ (get_or task k 0 ∷ [])) cells
      over k from = kept-over from most_tasks _ cells (omega (arith, place k, length-append (column k) (get_or task k 0 ∷ [])))

  -- each number in its section, then the box
  module _ (cells : List ℕ) (size : length cells ≡ store_size) (l : i < most_tasks) (kept : KeepsNumbers hours rs tasks ps cells)
      (few : length rs ≤ most_rooms)
    where
      abbrev c1 : List ℕ
      c1 = written_at (calendars_at + i) (get_or task 0 0 ∷ []) cells

      abbrev c2 : List ℕ
      c2 = written_at (work_times_at + i) (get_or task 1 0 ∷ []) c1

      abbrev c3 : List ℕ
      c3 = with_heights i task (length rs) c2

      s1 : length c1 ≡ store_size
      s1 = written-length (calendars_at + i) (get_or task 0 0 ∷ []) cells (omega arith) ∙ size

      s2 : length c2 ≡ store_size
      s2 = written-length (work_times_at + i) (get_or task 1 0 ∷ []) c1 (omega (arith, s1)) ∙ s1

      s3 : length c3 ≡ store_size
      s3 = heights-size i task c2 s2 l (length rs)

      all-kept : KeepsNumbers hours rs (tasks ++ (task ∷ [])) ps (written_at (boxes_at + 6 * i) (box task) c3)
      all-kept =
          grown
          (keeps-box few
          (keeps-heights few
          (keeps-work-time few (keeps-calendar few (kept few) size (get_or task 0 0) i (place 0) l) s1 (get_or task 1 0) i (place 1) l)
          s2 task i (λ room h. place (room + 2)) l)
          s3 (box task) i (box-length hours (length rs) task) boxes-place l)

      stores : set (set cells i (get_or task 0 0)) (work_times_at + i) (get_or task 1 0) ≡ c2
      stores =
          let zeroth : calendars_at + i ≡ i = omega arith in
          ap (λ (m : List ℕ). set m (work_times_at + i) (get_or task 1 0))
          (written_one i (get_or task 0 0) cells (omega arith) ∙ ap (λ (k : ℕ). written_at k (get_or task 0 0 ∷ []) cells) (sym zeroth))
          ∙ written_one (work_times_at + i) (get_or task 1 0) c1 (omega (arith, s1))

      pub tasks-more : {rooms : ℕ} {cells' : List ℕ} → rooms ≡ length rs
          → cells' ≡ written_at (boxes_at + 6 * i) (box_of hours rooms task)
          (with_heights i task rooms (set (set cells i (get_or task 0 0)) (work_times_at + i) (get_or task 1 0)))
          → KeepsNumbers hours rs (tasks ++ (task ∷ [])) ps cells'
      tasks-more e q = rw (q, stores, e) all-kept

-- a pair more, its two numbers in the section of the pairs
module _ (hours : ℕ) (rs ps : List ℕ) (tasks : List (List ℕ)) (x y k : ℕ) (count : pair_numbers * k ≡ length ps) (cells : List ℕ)
    (kept : KeepsNumbers hours rs tasks ps cells)
  where
    pub pairs-over : most_pairs ≤ k → KeepsNumbers hours rs tasks (ps ++ (x ∷ y ∷ [])) cells
    pairs-over l few =
        record {
          capacities = (kept few).capacities;
          calendars = (kept few).calendars;
          work_times = (kept few).work_times;
          heights = (kept few).heights;
          boxes = (kept few).boxes;
          pairs = kept-over pairs_at most_paired _ cells (omega (arith, count, length-append ps (x ∷ y ∷ [])));
        }

    pub pairs-more : length cells ≡ store_size → k < most_pairs
        → KeepsNumbers hours rs tasks (ps ++ (x ∷ y ∷ [])) (written_at (pairs_at + pair_numbers * k) (x ∷ y ∷ []) cells)
    pairs-more size l few = keeps-pair few (kept few) size x y k count l
