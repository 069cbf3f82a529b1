-- Laws of the store's sections: what the first cells of each are once more is written after them, before the section or past it. Assumes nothing.
use mathlib.Core.Path.{◌≡◌, refl, sym, ap, ◌∙◌}
use mathlib.Core.Bool.{Bool, true, false}
use mathlib.Core.List.{List, [], ◌∷◌, ◌++◌}
use Prim.Native.Nat.{ℕ, zero, suc, ◌+◌, ◌-◌, ◌*◌, ◌≤◌, ◌<◌}
use native.Mathlib.Numerals.{add-one}
use native.Mathlib.Omega.{arith}
use lib.Dec.{eqb}
use lib.ListN.{length, get_or, set, take, drop, length-append, length-drop, length-set}
use lib.Seq.{length-take-le, take-add, take-take, take-append-le, drop-append-le, drop_at}
use borrow.Author.Tests.{eqb-true, eqb-false}
use Rattle.units.specs.Cells.{written_at}
use Rattle.units.proofs.Cells.{written-length, written-front, written-rest, written_one}
use Rattle.units.specs.Limits.{most_rooms, most_tasks, most_pairs, pair_numbers}
use Rattle.plan_format.specs.Reading.{most_paired, most_bounds}
use Rattle.plan_lines.specs.Inner.Scanning.{calendars_at, work_times_at, heights_at, boxes_at, capacities_at, pairs_at, store_size, room_at}
use Rattle.plan_lines.specs.Inner.Scanning.{section, Kept, Keeps, with_heights}

pub section-swap : (from n : ℕ) (cells : List ℕ) → from ≤ length cells → section from n cells ≡ drop from (take (from + n) cells)
section-swap from n cells h =
    sym (ap (drop from) (take-add from n cells) ∙ drop_at (take from cells) (take n (drop from cells)) from (length-take-le from cells h))

-- a part of a slice, as code takes it
pub section-part : (from n : ℕ) (cells : List ℕ) → take (from + n - from) (drop from cells) ≡ section from n cells
section-part from n cells = let e : from + n - from ≡ n = omega arith in rw e

pub section-length : (from n : ℕ) (cells : List ℕ) → from + n ≤ length cells → length (section from n cells) ≡ n
section-length from n cells h = length-take-le n (drop from cells) (omega (arith, length-drop from cells))

pub part_length : (from n : ℕ) (cells : List ℕ) → from + n ≤ length cells → length (take (from + n - from) (drop from cells)) ≡ n
part_length from n cells h = ap length (section-part from n cells) ∙ section-length from n cells h

module _ (from at : ℕ) (ys cells : List ℕ) (inside : at + length ys ≤ length cells) where
  -- what is written right after the first cells
  section-more : (n : ℕ) → at ≡ from + n → section from (n + length ys) (written_at at ys cells) ≡ section from n cells ++ ys
  section-more n e =
      let sum : from + (n + length ys) ≡ at + length ys = omega arith in
      let front : drop from (take at cells) ≡ section from n cells = rw e (sym (section-swap from n cells (omega arith))) in
      section-swap from (n + length ys) (written_at at ys cells) (omega (arith, written-length at ys cells inside))
      ∙ rw (sum, written-front at ys cells (omega arith), drop-append-le from (take at cells) ys (omega (arith, length-take-le at cells (omega arith))))
      (ap (λ (l : List ℕ). l ++ ys) front)

  -- past the section's first cells
  section-past : (n : ℕ) → from + n ≤ at → section from n (written_at at ys cells) ≡ section from n cells
  unfolding written_at
  section-past n h =
      let front : length (take at cells) ≡ at = length-take-le at cells (omega arith) in
      section-swap from n (written_at at ys cells) (omega (arith, written-length at ys cells inside))
      ∙ ap (drop from)
      (take-append-le (from + n) (take at cells ++ ys) (drop (at + length ys) cells) (omega (arith, length-append (take at cells) ys))
      ∙ take-append-le (from + n) (take at cells) ys (omega arith)
      ∙ take-take (from + n) at cells h)
      ∙ sym (section-swap from n cells (omega arith))

  -- before the section
  section-apart : (n : ℕ) → at + length ys ≤ from → section from n (written_at at ys cells) ≡ section from n cells
  section-apart n h =
      let gap : from ≡ at + length ys + (from - (at + length ys)) = omega arith in
      ap (take n)
      (ap (λ (k : ℕ). drop k (written_at at ys cells)) gap
      ∙ written-rest at ys cells (from - (at + length ys)) (omega arith)
      ∙ ap (λ (k : ℕ). drop k cells) (sym gap))

-- ---- a section that keeps what it should

pub kept-none : (from room : ℕ) (cells : List ℕ) → Kept from room [] cells
unfolding Kept
kept-none from room cells h = refl

-- too many for the section: nothing is said of it
pub kept-over : (from room : ℕ) (xs cells : List ℕ) → room < length xs → Kept from room xs cells
unfolding Kept
kept-over from room xs cells h k = absurd (omega arith)

pub kept-section : (from room n : ℕ) (xs cells : List ℕ) → n ≡ length xs → n ≤ room → Kept from room xs cells → section from n cells ≡ xs
unfolding Kept
kept-section from room n xs cells e h k = rw e (k (omega arith))

module _ (from room at : ℕ) (xs ys cells : List ℕ) (inside : at + length ys ≤ length cells) (kept : Kept from room xs cells) where
  pub kept_more : at ≡ from + length xs → Kept from room (xs ++ ys) (written_at at ys cells)
  unfolding Kept
  kept_more e h =
      let size = length-append xs ys in
      ap (λ (n : ℕ). section from n (written_at at ys cells)) size
      ∙ section-more from at ys cells inside (length xs) e
      ∙ ap (λ (l : List ℕ). l ++ ys) (kept (omega (arith, size)))

  pub kept-past : from + room ≤ at → Kept from room xs (written_at at ys cells)
  unfolding Kept
  kept-past l h = section-past from at ys cells inside (length xs) (omega arith) ∙ kept h

  pub kept-apart : at + length ys ≤ from → Kept from room xs (written_at at ys cells)
  unfolding Kept
  kept-apart l h = section-apart from at ys cells inside (length xs) l ∙ kept h

-- from the first cell of a section on
pub kept-first : (from room : ℕ) (xs cells : List ℕ) → from + length xs ≤ length cells → Kept from room xs (written_at from xs cells)
kept-first from room xs cells h = kept_more from room from [] xs cells h (kept-none from room cells) (omega arith)

-- ---- a task's heights

-- a loop over the rooms
module _ (task : ℕ) (numbers cells : List ℕ) where
  pub heights-none : cells ≡ with_heights task numbers 0 cells
  unfolding with_heights
  heights-none = refl

  pub heights-next : (room : ℕ) {cells' : List ℕ} → cells' ≡ with_heights task numbers room cells
      → set cells' (room_at room + task) (get_or numbers (room + 2) 0) ≡ with_heights task numbers (room + 1) cells
  unfolding with_heights
  heights-next room e = rw (add-one, e)

module _ (task : ℕ) (numbers cells : List ℕ) (size : length cells ≡ store_size) (l : task < most_tasks) where
  abbrev after : ℕ → List ℕ
  after k = with_heights task numbers k cells

  pub heights-size : (k : ℕ) → length (after k) ≡ store_size
  unfolding with_heights
  heights-size zero = size
  heights-size (suc k) = length-set (after k) (room_at k + task) _ ∙ heights-size k

  -- in one room more
  one_more : (k : ℕ) → k < most_rooms → after (suc k) ≡ written_at (room_at k + task) (get_or numbers (k + 2) 0 ∷ []) (after k)
  unfolding with_heights
  one_more k h = written_one (room_at k + task) (get_or numbers (k + 2) 0) (after k) (omega (arith, heights-size k))

  -- a section before those of the heights
  pub heights-past : (from most : ℕ) (xs : List ℕ) → Kept from most xs cells → from + most ≤ heights_at → (k : ℕ) → k ≤ most_rooms
      → Kept from most xs (after k)
  heights-past from most xs kept h zero m = unfold with_heights in kept
  heights-past from most xs kept h (suc k) m =
      rw (one_more k (omega arith))
      (kept-past from most (room_at k + task) xs _ (after k) (omega (arith, heights-size k)) (heights-past from most xs kept h k (omega arith)) (omega arith))

  -- a section past those of so many rooms
  pub heights-apart : (from most : ℕ) (xs : List ℕ) → Kept from most xs cells → (k : ℕ) → k ≤ most_rooms → room_at k ≤ from
      → Kept from most xs (after k)
  heights-apart from most xs kept zero m h = unfold with_heights in kept
  heights-apart from most xs kept (suc k) m h =
      rw (one_more k (omega arith))
      (kept-apart from most (room_at k + task) xs _ (after k) (omega (arith, heights-size k))
      (heights-apart from most xs kept k (omega arith) (omega arith)) (omega arith))

  -- a room's own
  pub heights-more : (room : ℕ) (xs : List ℕ) → Kept (room_at room) most_tasks xs cells → task ≡ length xs → (k : ℕ) → k ≤ most_rooms
      → room < k
      → Kept (room_at room) most_tasks (xs ++ (get_or numbers (room + 2) 0 ∷ [])) (after k)
  heights-more room xs kept e zero m h = absurd (omega arith)
  heights-more room xs kept e (suc k) m h =
      rw (one_more k (omega arith)) (go (λ (b : room < k). heights-more room xs kept e k (omega arith) b) (eqb room k) refl)
    where
      go : (room < k → Kept (room_at room) most_tasks (xs ++ (get_or numbers (room + 2) 0 ∷ [])) (after k)) → (t : Bool) → eqb room k ≡ t
          → Kept (room_at room) most_tasks (xs ++ (get_or numbers (room + 2) 0 ∷ []))
          (written_at (room_at k + task) (get_or numbers (k + 2) 0 ∷ []) (after k))
      go below true q =
          let same : k ≡ room = sym (eqb-true room k q) in
          rw same
          (kept_more (room_at room) most_tasks (room_at room + task) xs _ (after room) (omega (arith, heights-size room))
          (heights-apart (room_at room) most_tasks xs kept room (omega arith) (omega arith)) (omega arith))
      go below false q =
          let other = eqb-false room k q in
          kept-past (room_at room) most_tasks (room_at k + task) _ _ (after k) (omega (arith, heights-size k)) (below (omega arith)) (omega arith)

-- ---- the store's sections, each with one part more: none loses what it keeps

module _ {rs cs ws : List ℕ} {hs : ℕ → List ℕ} {bs ps cells : List ℕ} (few : length rs ≤ most_rooms) (kept : Keeps rs cs ws hs bs ps cells)
    (size : length cells ≡ store_size)
  where
    pub keeps-calendar : (x i : ℕ) → i ≡ length cs → i < most_tasks
        → Keeps rs (cs ++ (x ∷ [])) ws hs bs ps (written_at (calendars_at + i) (x ∷ []) cells)
    keeps-calendar x i e l =
        record {
          capacities = kept-apart capacities_at most_rooms (calendars_at + i) _ _ cells (omega arith) kept.capacities (omega arith);
          calendars = kept_more calendars_at most_tasks (calendars_at + i) _ _ cells (omega arith) kept.calendars (omega arith);
          work_times = kept-apart work_times_at most_tasks (calendars_at + i) _ _ cells (omega arith) kept.work_times (omega arith);
          heights = λ room h. kept-apart (room_at room) most_tasks (calendars_at + i) _ _ cells (omega arith) (kept.heights room h) (omega arith);
          boxes = kept-apart boxes_at most_bounds (calendars_at + i) _ _ cells (omega arith) kept.boxes (omega arith);
          pairs = kept-apart pairs_at most_paired (calendars_at + i) _ _ cells (omega arith) kept.pairs (omega arith);
        }

    pub keeps-work-time : (x i : ℕ) → i ≡ length ws → i < most_tasks
        → Keeps rs cs (ws ++ (x ∷ [])) hs bs ps (written_at (work_times_at + i) (x ∷ []) cells)
    keeps-work-time x i e l =
        record {
          capacities = kept-apart capacities_at most_rooms (work_times_at + i) _ _ cells (omega arith) kept.capacities (omega arith);
          calendars = kept-past calendars_at most_tasks (work_times_at + i) _ _ cells (omega arith) kept.calendars (omega arith);
          work_times = kept_more work_times_at most_tasks (work_times_at + i) _ _ cells (omega arith) kept.work_times (omega arith);
          heights = λ room h. kept-apart (room_at room) most_tasks (work_times_at + i) _ _ cells (omega arith) (kept.heights room h) (omega arith);
          boxes = kept-apart boxes_at most_bounds (work_times_at + i) _ _ cells (omega arith) kept.boxes (omega arith);
          pairs = kept-apart pairs_at most_paired (work_times_at + i) _ _ cells (omega arith) kept.pairs (omega arith);
        }

    pub keeps-heights : (numbers : List ℕ) (i : ℕ) → ((room : ℕ) → room < length rs → i ≡ length (hs room)) → i < most_tasks
        → Keeps rs cs ws (λ room. hs room ++ (get_or numbers (room + 2) 0 ∷ [])) bs ps (with_heights i numbers (length rs) cells)
    keeps-heights numbers i e l =
        record {
          capacities = heights-apart i numbers cells size l _ _ _ kept.capacities (length rs) few (omega arith);
          calendars = heights-past i numbers cells size l _ _ _ kept.calendars (omega arith) (length rs) few;
          work_times = heights-past i numbers cells size l _ _ _ kept.work_times (omega arith) (length rs) few;
          heights = λ room h. heights-more i numbers cells size l room _ (kept.heights room h) (e room h) (length rs) few h;
          boxes = heights-apart i numbers cells size l _ _ _ kept.boxes (length rs) few (omega arith);
          pairs = heights-apart i numbers cells size l _ _ _ kept.pairs (length rs) few (omega arith);
        }

    pub keeps-box : (box : List ℕ) (i : ℕ) → length box ≡ 6 → 6 * i ≡ length bs → i < most_tasks
        → Keeps rs cs ws hs (bs ++ box) ps (written_at (boxes_at + 6 * i) box cells)
    keeps-box box i six e l =
        record {
          capacities = kept-apart capacities_at most_rooms (boxes_at + 6 * i) _ _ cells (omega arith) kept.capacities (omega arith);
          calendars = kept-past calendars_at most_tasks (boxes_at + 6 * i) _ _ cells (omega arith) kept.calendars (omega arith);
          work_times = kept-past work_times_at most_tasks (boxes_at + 6 * i) _ _ cells (omega arith) kept.work_times (omega arith);
          heights = λ room h. kept-past (room_at room) most_tasks (boxes_at + 6 * i) _ _ cells (omega arith) (kept.heights room h) (omega arith);
          boxes = kept_more boxes_at most_bounds (boxes_at + 6 * i) _ _ cells (omega arith) kept.boxes (omega arith);
          pairs = kept-apart pairs_at most_paired (boxes_at + 6 * i) _ _ cells (omega arith) kept.pairs (omega arith);
        }

    pub keeps-pair : (x y k : ℕ) → pair_numbers * k ≡ length ps → k < most_pairs
        → Keeps rs cs ws hs bs (ps ++ (x ∷ y ∷ [])) (written_at (pairs_at + pair_numbers * k) (x ∷ y ∷ []) cells)
    keeps-pair x y k e l =
        let at = pairs_at + pair_numbers * k in
        record {
          capacities = kept-past capacities_at most_rooms at _ _ cells (omega arith) kept.capacities (omega arith);
          calendars = kept-past calendars_at most_tasks at _ _ cells (omega arith) kept.calendars (omega arith);
          work_times = kept-past work_times_at most_tasks at _ _ cells (omega arith) kept.work_times (omega arith);
          heights = λ room h. kept-past (room_at room) most_tasks at _ _ cells (omega arith) (kept.heights room h) (omega arith);
          boxes = kept-past boxes_at most_bounds at _ _ cells (omega arith) kept.boxes (omega arith);
          pairs = kept_more pairs_at most_paired at _ _ cells (omega arith) kept.pairs (omega arith);
        }
