-- Laws of the load, from the answers that are kept: in one hour, as a sum over the tasks passed, and with another answer of one task; in all hours,
-- as the numbers are filled and mended, a stretch of them changed by a height for each task. Assumes nothing.
use Rattle.std.specs.Prelude.{Option, None, Some}
use mathlib.Core.Path.{◌≡◌, refl, sym, ap, ◌∙◌}
use mathlib.Core.Logic.{◌≢◌}
use mathlib.Core.Bool.{Bool, true, false, not}
use mathlib.Core.List.{List, ◌++◌}
use Prim.Native.Nat.{ℕ, ◌+◌, ◌-◌, ◌*◌, ◌≤◌, ◌<◌, min}
use native.Mathlib.Nat.{mul-le-mul_right, add-mul}
use native.Mathlib.Numerals.{add-one}
use native.Mathlib.Omega.{arith}
use lib.Dec.{leb, ltb, eqb}
use lib.ListN.{length, get_or, set, take, drop, length-set, length-take, length-drop, length-append, get_or-append}
use Rattle.std.proofs.lemmas.List.{get_or-append_right}
use lib.Seq.{get_or-set_same, get_or-set_other, get_or-take, get_or-drop, length-take-le}
use borrow.Rule.Slice.PartMut.{put_mid}
use borrow.Author.Tests.{lt-ltb, le-ltb, le-leb, lt-leb, ltb-true, ltb-false, eqb-true, eqb-false}
use Rattle.units.specs.Sums.{sum_to, sum_where}
use Rattle.units.specs.Limits.{most_tasks, most_height, height}
use Rattle.units.specs.declared.Height.{Height}
use Rattle.units.specs.Choice.{◌and◌}
use Rattle.units.proofs.Choices.{and_both, and_left, and_right, not_left, not_right, if-true, if-false, if-all}
use Rattle.units.proofs.Heights.{number_of}
use Rattle.units.proofs.Multiples.{part-within}
use Rattle.units.proofs.Summing.{where-more, where-skip, where-most, where-eq, where-split}
use Rattle.plan.specs.Plan.{room_part}
use Rattle.plan.proofs.Passed.{room-length}
use Rattle.calendar.specs.declared.Window.{Window}
use Rattle.calendar.specs.Rule.{lst, ect}
use Rattle.steps.specs.Load.{must_run}
use Rattle.turns.specs.Inner.Kept.{load_of}
use Rattle.turns.specs.declared.load.Part.{Part}
use Rattle.turns.specs.Inner.Finding.{part_at, share_in, Loaded}
use Rattle.turns.specs.Inner.Ready.{RoomReady, RoomsReady}

-- ---- the sum over the tasks passed

module _ (fits : List (Option Window)) (heights : List ℕ) (t : ℕ) where
  -- the load of the first n tasks
  unfoldable pub load_to : ℕ → ℕ
  load_to n = sum_where (λ j. must_run (get_or fits j None) t) (λ j. get_or heights j 0) n

  pub load-none : load_to 0 ≡ 0
  unfolding load_to sum_where sum_to
  load-none = refl

  load-next : (n : ℕ) (fit : Option Window) → get_or fits n None ≡ fit → load_to (n + 1) ≡ load_to n + part_at fit (get_or heights n 0) t
  unfolding load_to sum_where sum_to part_at
  load-next n fit e = rw (add-one, e)

  pub load-all : load_to (length heights) ≡ load_of fits heights t
  unfolding load_to load_of
  load-all = refl

  pub load_skips : {sum : ℕ} (n : ℕ) → sum ≡ load_to n → must_run (get_or fits n None) t ≡ false → sum ≡ load_to (n + 1)
  unfolding load_to
  load_skips {sum} n so_far e = where-skip _ _ sum n so_far e

  pub load_adds : {sum : ℕ} (n : ℕ) → sum ≡ load_to n → must_run (get_or fits n None) t ≡ true → sum + get_or heights n 0 ≡ load_to (n + 1)
  unfolding load_to
  load_adds {sum} n so_far e = where-more _ _ sum n so_far e

  module _ (small : (i : ℕ) → get_or heights i 0 ≤ most_height) where
    pub load-small : (sum i : ℕ) → sum ≡ load_to i → sum ≤ i * most_height
    unfolding load_to
    load-small sum i e = where-most _ _ sum i most_height e (λ j l. small j)

  -- with the height of a task, it fits a number of the code
  pub load-most : RoomReady heights → (i load : ℕ) {own : Height} → load ≡ load_of fits heights t → own ≡ height (get_or heights i 0)
      → own.0 + load < 65536
  load-most ready i load e is =
      omega (
        arith,
        ready.small i,
        number_of is,
        e,
        sym load-all,
        load-small ready.small _ (length heights) refl,
        mul-le-mul_right {m = length heights} {n = most_tasks} most_height ready.few,
      )

-- ---- a part of the numbers

-- numbers of which k from the a-th on became others
module _ (a k : ℕ) (xs ys : List ℕ) (inside : a + k ≤ length xs) (long : length ys ≡ k) where
  put-length : length (put_mid a k xs ys) ≡ length xs
  put-length = simp (length-append, length-take, length-drop) (omega (arith, inside, long))

  put-before : (j : ℕ) → j < a → get_or (put_mid a k xs ys) j 0 ≡ get_or xs j 0
  put-before j l = get_or-append (take a xs) _ 0 j (rw (length-take-le a xs (omega arith)) l) ∙ get_or-take a xs j 0 l

  past : (j : ℕ) → a ≤ j → get_or (put_mid a k xs ys) j 0 ≡ get_or (ys ++ drop k (drop a xs)) (j - a) 0
  past j l = get_or-append_right (take a xs) _ a j 0 (length-take-le a xs (omega arith)) l

  put_in : (j : ℕ) → j < k → get_or (put_mid a k xs ys) (a + j) 0 ≡ get_or ys j 0
  put_in j l =
      let e : a + j - a ≡ j = omega arith in
      past (a + j) (omega arith) ∙ rw e (get_or-append ys _ 0 j (omega arith))

  put-after : (j : ℕ) → a + k ≤ j → get_or (put_mid a k xs ys) j 0 ≡ get_or xs j 0
  put-after j l =
      let e : a + (k + (j - a - k)) ≡ j = omega arith in
      past j (omega arith)
      ∙ get_or-append_right ys _ k (j - a) 0 long (omega arith)
      ∙ get_or-drop k (drop a xs) (j - a - k) 0
      ∙ get_or-drop a xs (k + (j - a - k)) 0
      ∙ ap (λ (i : ℕ). get_or xs i 0) e

-- ---- the hours of a compulsory part

module _ (w : Window) (height t : ℕ) where
  part-before : t < lst w → part_at (Some w) height t ≡ 0
  unfolding part_at must_run
  part-before l = if-false _ _ _ (not_left _ _ (lt-leb (lst w) t l))

  part-after : ect w ≤ t → part_at (Some w) height t ≡ 0
  unfolding part_at must_run
  part-after u = if-false _ _ _ (not_right _ _ (le-ltb t (ect w) u))

  -- where it ends before it begins, there are none
  pub part-empty : ect w ≤ lst w → part_at (Some w) height t ≡ 0
  part-empty l = go (ltb t (lst w)) refl
    where
      go : (b : Bool) → ltb t (lst w) ≡ b → part_at (Some w) height t ≡ 0
      go true q = part-before (ltb-true t (lst w) q)
      go false q = part-after (omega (arith, ltb-false t (lst w) q))

pub part-never : (height t : ℕ) → part_at None height t ≡ 0
unfolding part_at must_run
part-never height t = refl

module _ (p : Part) (height t : ℕ) where
  share-before : t < p.from.0 → share_in p height t ≡ 0
  unfolding share_in
  share-before l = if-false _ _ _ (not_left _ _ (lt-leb p.from.0 t l))

  share-within : p.from.0 ≤ t → t < p.end.0 → share_in p height t ≡ height
  unfolding share_in
  share-within l u = if-true _ _ _ (and_both _ _ (le-leb p.from.0 t l) (lt-ltb t p.end.0 u))

  pub share-after : p.end.0 ≤ t → share_in p height t ≡ 0
  unfolding share_in
  share-after u = if-false _ _ _ (not_right _ _ (le-ltb t p.end.0 u))

  share-most : share_in p height t ≤ height
  unfolding share_in
  share-most = if-all (λ (n : ℕ). n ≤ height) (leb p.from.0 t and ltb t p.end.0) height 0 (λ e. omega arith) (λ e. omega arith)

pub share-none : (p : Part) (t : ℕ) → share_in p 0 t ≡ 0
share-none p t = omega (arith, share-most p 0 t)

-- in the first k of the numbers one height has become another, and the others are as they were
pub record Changed (was is : ℕ) (old new : List ℕ) (k : ℕ) : Type 0 where
  pub same : length new ≡ length old
  pub passed : (u : ℕ) → u < k → get_or new u 0 + was ≡ get_or old u 0 + is
  pub rest : (u : ℕ) → k ≤ u → get_or new u 0 ≡ get_or old u 0

pub changed-none : (was is : ℕ) (old : List ℕ) → Changed was is old old 0
changed-none was is old = record { same = refl; passed = λ u l. omega arith; rest = λ u l. refl }

pub changed-next : {was is : ℕ} {old new : List ℕ} {k : ℕ} (n : ℕ) → n + was ≡ get_or new k 0 + is → k < length old
    → Changed was is old new k → Changed was is old (set new k n) (k + 1)
changed-next {was} {is} {old} {new} {k} n e l r =
    record {
      same = length-set new k _ ∙ r.same;
      passed = λ u m. go u m (eqb u k) refl;
      rest = λ u m. let ne : u ≢ k = omega arith in get_or-set_other new k u _ 0 ne ∙ r.rest u (omega arith);
    }
  where
    go : (u : ℕ) → u < k + 1 → (b : Bool) → eqb u k ≡ b → get_or (set new k n) u 0 + was ≡ get_or old u 0 + is
    go u m true q =
        let at : u ≡ k = eqb-true u k q in
        rw at (ap (λ (x : ℕ). x + was) (get_or-set_same new k n 0 (omega (arith, r.same))) ∙ e ∙ ap (λ (x : ℕ). x + is) (r.rest k (omega arith)))
    go u m false q =
        let ne : u ≢ k = eqb-false u k q in
        ap (λ (x : ℕ). x + was) (get_or-set_other new k u _ 0 ne) ∙ r.passed u (omega arith)

-- among a room's numbers, those of the hours of a part
module _ (p : Part) (was is : ℕ) (old : List ℕ) (end from : ℕ) (is-end : end ≡ min (length old) p.end.0) (is-from : from ≡ min end p.from.0) where
  abbrev pub own : List ℕ
  own = take (end - from) (drop from old)

  own-length : length own ≡ end - from
  own-length = simp (length-take, length-drop) (omega (arith, is-end, is-from))

  own-number : (k : ℕ) → k < end - from → get_or own k 0 ≡ get_or old (from + k) 0
  own-number k l = get_or-take (end - from) _ k 0 l ∙ get_or-drop from old k 0

  -- a number that is still to be changed has the room that was asked for
  pub changed-room : (new : List ℕ) (k : ℕ) → Changed was is own new k → k < length own
      → ((t : ℕ) → t < length old → (share_in p was t ≤ get_or old t 0) × (get_or old t 0 + share_in p is t < 65536 + share_in p was t))
      → (was ≤ get_or new k 0) × (get_or new k 0 + is < 65536 + was)
  changed-room new k r l room =
      let m : k < end - from = omega (arith, own-length, l) in
      let first = share-within p was (from + k) (omega (arith, is-from, is-end)) (omega (arith, is-end)) in
      let second = share-within p is (from + k) (omega (arith, is-from, is-end)) (omega (arith, is-end)) in
      let asked = room (from + k) (omega (arith, is-end)) in
      let number = r.rest k (omega arith) ∙ own-number k m in
      (omega (arith, number, first, asked.0), omega (arith, number, first, second, asked.1))

  -- once all of them are changed, each number differs by the task's shares
  module _ (new : List ℕ) (k : ℕ) (all : length own ≤ k) (r : Changed was is own new k) where
    inside : from + (end - from) ≤ length old
    inside = omega (arith, is-end, is-from)

    as-long : length new ≡ end - from
    as-long = r.same ∙ own-length

    pub changed-length : length (put_mid from (end - from) old new) ≡ length old
    changed-length = put-length _ _ _ _ inside as-long

    pub changed-all : (u : ℕ) → u < length old
        → get_or (put_mid from (end - from) old new) u 0 + share_in p was u ≡ get_or old u 0 + share_in p is u
    changed-all u m = go (ltb u from) refl (ltb u end) refl
      where
        go : (a : Bool) → ltb u from ≡ a → (b : Bool) → ltb u end ≡ b
            → get_or (put_mid from (end - from) old new) u 0 + share_in p was u ≡ get_or old u 0 + share_in p is u
        go true e b q =
            let h : u < from = ltb-true u from e in
            let before : u < p.from.0 = omega (arith, is-from) in
            omega (arith, put-before _ _ _ _ inside as-long u h, share-before p was u before, share-before p is u before)
        go false e true q =
            let h : from ≤ u = ltb-false u from e in
            let l : u < end = ltb-true u end q in
            let same : from + (u - from) ≡ u = omega (arith, h) in
            let begun : p.from.0 ≤ u = omega (arith, is-from) in
            let going : u < p.end.0 = omega (arith, is-end) in
            omega (
              arith,
              rw same at (put_in from (end - from) old new inside as-long (u - from) (omega arith)),
              r.passed (u - from) (omega (arith, own-length, all)),
              rw same at (own-number (u - from) (omega arith)),
              share-within p was u begun going,
              share-within p is u begun going,
            )
        go false e false q =
            let h : end ≤ u = ltb-false u end q in
            let after : p.end.0 ≤ u = omega (arith, is-end) in
            omega (
              arith,
              put-after _ _ _ _ inside as-long u (omega (arith, is-from)),
              share-after p was u after,
              share-after p is u after,
            )

-- ---- the sums over the tasks passed, in all hours

-- the room's numbers hold the sums over the first n tasks
pub record Filled (fits : List (Option Window)) (heights old new : List ℕ) (n : ℕ) : Type 0 where
  pub same : length new ≡ length old
  pub sums : (t : ℕ) → t < length old → get_or new t 0 ≡ load_to fits heights t n

-- numbers that are 0
pub filled_none : {fits : List (Option Window)} {heights old : List ℕ} → ((t : ℕ) → t < length old → get_or old t 0 ≡ 0)
    → Filled fits heights old old 0
filled_none {fits} {heights} h = record { same = refl; sums = λ t l. h t l ∙ sym (load-none fits heights t) }

module _ {fits : List (Option Window)} {heights old new : List ℕ} {n : ℕ} (r : Filled fits heights old new n) where
  pub filled_next : (p : Part) {own : ℕ} (next : List ℕ) → ((height t : ℕ) → share_in p height t ≡ part_at (get_or fits n None) height t)
      → own ≡ get_or heights n 0 → length next ≡ length new
      → ((t : ℕ) → t < length new → get_or next t 0 + share_in p 0 t ≡ get_or new t 0 + share_in p own t)
      → Filled fits heights old next (n + 1)
  filled_next p next part is same h =
      record {
        same = same ∙ r.same;
        sums = λ t l.
            omega (
              arith,
              r.sums t l,
              load-next fits heights t n (get_or fits n None) refl,
              part (get_or heights n 0) t,
              share-none p t,
              rw is at h t (omega (arith, r.same)),
            );
      }

  pub filled-room : RoomReady heights → n < length heights → (p : Part) (own : ℕ) → own ≡ get_or heights n 0 → (t : ℕ) → t < length new
      → (share_in p 0 t ≤ get_or new t 0) × (get_or new t 0 + share_in p own t < 65536 + share_in p 0 t)
  filled-room ready l p own is t m = (
    omega (arith, share-none p t),
    omega (
      arith,
      ready.few,
      r.sums t (omega (arith, r.same)),
      load-small fits heights t ready.small _ n refl,
      ready.small n,
      is,
      share-most p own t,
    ),
  )

  pub filled-all : n ≡ length heights → (t : ℕ) → t < length old → get_or new t 0 ≡ load_of fits heights t
  filled-all e t m = r.sums t m ∙ rw e (load-all fits heights t)

-- ---- the share of one task

module _ (fits : List (Option Window)) (heights : List ℕ) (i : ℕ) (was : Option Window) (kept : i < length fits) (there : i < length heights) where
  abbrev Others : List (Option Window) → ℕ → ℕ
  Others fs t = sum_where (λ j. not (eqb j i) and must_run (get_or fs j None) t) (λ j. get_or heights j 0) (length heights)

  own-share : (fs : List (Option Window)) (t : ℕ) → Others fs t + part_at (get_or fs i None) (get_or heights i 0) t ≡ load_of fs heights t
  unfolding load_of part_at
  own-share fs t = where-split _ _ (length heights) i there

  others-same : (t : ℕ) → Others (set fits i was) t ≡ Others fits t
  others-same t = where-eq _ _ _ (length heights) (λ j l. go j (eqb j i) refl)
    where
      go : (j : ℕ) (b : Bool) → eqb j i ≡ b
          → (not (eqb j i) and must_run (get_or (set fits i was) j None) t) ≡ (not (eqb j i) and must_run (get_or fits j None) t)
      go j true q = not_left _ _ (ap not q) ∙ sym (not_left _ _ (ap not q))
      go j false q =
          let ne : j ≢ i = eqb-false j i q in
          ap (λ (fit : Option Window). not (eqb j i) and must_run fit t) (get_or-set_other fits i j was None ne)

  own-was : (t : ℕ) → Others (set fits i was) t + part_at was (get_or heights i 0) t ≡ load_of (set fits i was) heights t
  own-was t =
      ap (λ (fit : Option Window). Others (set fits i was) t + part_at fit (get_or heights i 0) t) (sym (get_or-set_same fits i was None kept))
      ∙ own-share (set fits i was) t

  -- where its answer was another, the load is another by its shares
  load-changed : (t : ℕ)
      → load_of fits heights t + part_at was (get_or heights i 0) t
      ≡ load_of (set fits i was) heights t + part_at (get_or fits i None) (get_or heights i 0) t
  load-changed t = omega (arith, own-share fits t, own-was t, others-same t)

  module _ (p q : Part) (is-p : (height t : ℕ) → share_in p height t ≡ part_at was height t)
      (is-q : (height t : ℕ) → share_in q height t ≡ part_at (get_or fits i None) height t) (own : ℕ) (is-own : own ≡ get_or heights i 0) where
    first : (t : ℕ) → share_in p own t ≡ part_at was (get_or heights i 0) t
    first t = is-p own t ∙ ap (λ (height : ℕ). part_at was height t) is-own

    second : (t : ℕ) → share_in q own t ≡ part_at (get_or fits i None) (get_or heights i 0) t
    second t = is-q own t ∙ ap (λ (height : ℕ). part_at (get_or fits i None) height t) is-own

    -- a load of before has the room for the change, and is the load of now once it is made
    mend-within : RoomReady heights → {load : ℕ} (t : ℕ) → load ≡ load_of (set fits i was) heights t
        → (share_in p own t ≤ load) × (load + share_in q own t < 65536 + share_in p own t)
    mend-within ready {load} t e = (
      omega (arith, e, first t, own-was t),
      omega (
        arith,
        e,
        first t,
        second t,
        load-changed t,
        ready.few,
        load-small fits heights t ready.small _ (length heights) refl,
        load-all fits heights t,
      ),
    )

    mended : {load next : ℕ} (t : ℕ) → load ≡ load_of (set fits i was) heights t → next + share_in p own t ≡ load + share_in q own t
        → next ≡ load_of fits heights t
    mended t e f = omega (arith, e, f, first t, second t, load-changed t)

-- ---- room by room

-- the numbers of the first n rooms hold their loads, and the rest are as they were
pub record RoomsFilled (hours tasks : ℕ) (fits : List (Option Window)) (heights old new : List ℕ) (n : ℕ) : Type 0 where
  pub same : length new ≡ length old
  pub load : (room : ℕ) → room < n → (t : ℕ) → t < hours → get_or new (room * hours + t) 0 ≡ load_of fits (room_part tasks heights room) t
  pub rest : (k : ℕ) → n * hours ≤ k → get_or new k 0 ≡ get_or old k 0

module _ {hours tasks rooms : ℕ} {fits : List (Option Window)} {heights old new : List ℕ} {n : ℕ} (r : RoomsFilled hours tasks fits heights old new n)
    (each : length old ≡ rooms * hours) (there : n < rooms) where
  -- the next room's numbers lie among them, and are as they were
  room-there : n * hours + hours ≤ length new
  room-there = omega (arith, r.same, part-within hours rooms n there)

  pub room-within : (t : ℕ) → t < hours → n * hours + t < length old
  room-within t l = omega (arith, r.same, room-there)

  pub room-number : (k : ℕ) → k ≡ hours → (t : ℕ) → t < length (take k (drop (n * hours) new))
      → (t < hours) × (get_or (take k (drop (n * hours) new)) t 0 ≡ get_or old (n * hours + t) 0)
  room-number k e t l =
      let below : t < hours = omega (arith, length-take k (drop (n * hours) new)) in (
        below,
        get_or-take k _ t 0 (omega arith) ∙ get_or-drop (n * hours) new t 0 ∙ r.rest (n * hours + t) (omega arith),
      )

  module _ (k : ℕ) (own part : List ℕ) (is-k : k ≡ hours) (is : own ≡ room_part tasks heights n)
      (same : length part ≡ length (take k (drop (n * hours) new)))
      (h : (t : ℕ) → t < length (take k (drop (n * hours) new)) → get_or part t 0 ≡ load_of fits own t) where
    long : length (take k (drop (n * hours) new)) ≡ k
    long = simp (length-take, length-drop) (omega (arith, room-there))

    pub rooms-next : RoomsFilled hours tasks fits heights old (put_mid (n * hours) k new part) (n + 1)
    rooms-next =
        record {
          same = put-length _ _ _ _ (omega (arith, room-there)) (same ∙ long) ∙ r.same;
          load = λ room l t m. go room l t m (eqb room n) refl;
          rest =
              λ j m.
              put-after _ _ _ _ (omega (arith, room-there)) (same ∙ long) j (omega (arith, add-mul n 1 hours))
              ∙ r.rest j (omega (arith, add-mul n 1 hours));
        }
      where
        go : (room : ℕ) → room < n + 1 → (t : ℕ) → t < hours → (b : Bool) → eqb room n ≡ b
            → get_or (put_mid (n * hours) k new part) (room * hours + t) 0 ≡ load_of fits (room_part tasks heights room) t
        go room l t m true q =
            let e : room ≡ n = eqb-true room n q in
            rw (e, ← is) (put_in _ _ _ _ (omega (arith, room-there)) (same ∙ long) t (omega arith) ∙ h t (omega (arith, long)))
        go room l t m false q =
            let ne : room ≢ n = eqb-false room n q in
            let below : room < n = omega arith in
            put-before _ _ _ _ (omega (arith, room-there)) (same ∙ long) (room * hours + t) (omega (arith, part-within hours n room below))
            ∙ r.load room below t m

pub rooms-all : {hours tasks rooms : ℕ} {fits : List (Option Window)} {heights old new : List ℕ} {n : ℕ}
    → RoomsFilled hours tasks fits heights old new n
    → length old ≡ rooms * hours → n ≤ rooms → rooms ≤ n → Loaded hours rooms tasks new fits heights
rooms-all r each k l =
    record { each = omega (arith, r.same); load = λ room m t h. r.load room (omega arith) t h }

-- ---- the loads are mended where the answer of a task was another

-- parts of the same hours
same-shares : (p q : Part) → (eqb p.from.0 q.from.0 and eqb p.end.0 q.end.0) ≡ true → (height t : ℕ) → share_in p height t ≡ share_in q height t
unfolding share_in
same-shares p q e height t =
    rw (eqb-true p.from.0 q.from.0 (and_left _ _ e), eqb-true p.end.0 q.end.0 (and_right (eqb p.from.0 q.from.0) _ e))

in-room : {rooms tasks i : ℕ} {heights : List ℕ} → RoomsReady rooms tasks heights → i < tasks → (room : ℕ) → room < rooms
    → i < length (room_part tasks heights room)
in-room {rooms} {tasks} {i} {heights} ready there room l = omega (arith, room-length rooms tasks heights ready.each room l, there)

module _ {hours rooms tasks : ℕ} {heights old : List ℕ} {fits : List (Option Window)} {i : ℕ} (was : Option Window)
    (ready : RoomsReady rooms tasks heights) (loaded : Loaded hours rooms tasks old (set fits i was) heights)
    (kept : i < length fits) (there : i < tasks) (p q : Part) (is-p : (height t : ℕ) → share_in p height t ≡ part_at was height t)
    (is-q : (height t : ℕ) → share_in q height t ≡ part_at (get_or fits i None) height t) where
  -- where both parts are the same, nothing is to be changed
  pub mend-none : (eqb p.from.0 q.from.0 and eqb p.end.0 q.end.0) ≡ true → Loaded hours rooms tasks old fits heights
  mend-none e =
      record {
        each = loaded.each;
        load = λ room l t m.
            mended fits _ i was kept (in-room ready there room l) p q is-p is-q _ refl t (loaded.load room l t m)
            (ap (λ (n : ℕ). get_or old (room * hours + t) 0 + n) (same-shares p q e _ t));
      }

  module _ {new : List ℕ} {n : ℕ} {own : Height} (r : RoomsFilled hours tasks fits heights old new n) (next : n < rooms)
      (is-own : own ≡ height (get_or (room_part tasks heights n) i 0)) (k : ℕ) (is-k : k ≡ hours) where
    before : (t : ℕ) → t < length (take k (drop (n * hours) new))
        → get_or (take k (drop (n * hours) new)) t 0 ≡ load_of (set fits i was) (room_part tasks heights n) t
    before t l = let number = room-number r loaded.each next k is-k t l in number.1 ∙ loaded.load n next t number.0

    pub mend-asks : (t : ℕ) → t < length (take k (drop (n * hours) new))
        → (share_in p own.0 t ≤ get_or (take k (drop (n * hours) new)) t 0)
        × (get_or (take k (drop (n * hours) new)) t 0 + share_in q own.0 t < 65536 + share_in p own.0 t)
    mend-asks t l =
        mend-within fits _ i was kept (in-room ready there n next) p q is-p is-q own.0 (number_of is-own) (ready.room n next) t (before t l)

    pub mend-next : (part : List ℕ) → (length part ≡ length (take k (drop (n * hours) new)))
        × ((t : ℕ) → t < length (take k (drop (n * hours) new))
        → get_or part t 0 + share_in p own.0 t ≡ get_or (take k (drop (n * hours) new)) t 0 + share_in q own.0 t)
        → RoomsFilled hours tasks fits heights old (put_mid (n * hours) k new part) (n + 1)
    mend-next part (same, h) =
        rooms-next r loaded.each next k _ part is-k refl same
        (λ t l. mended fits _ i was kept (in-room ready there n next) p q is-p is-q own.0 (number_of is-own) t (before t l) (h t l))
