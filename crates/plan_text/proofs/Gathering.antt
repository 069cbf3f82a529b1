-- Laws of the heights that are gathered from the store, room by room. Assumes nothing.
use mathlib.Core.Path.{◌≡◌, refl, sym, ap, ap₂, ◌∙◌}
use mathlib.Core.List.{List, ◌++◌}
use Prim.Native.Nat.{ℕ, ◌+◌, ◌-◌, ◌*◌, ◌≤◌, ◌<◌, min}
use native.Mathlib.Omega.{arith}
use lib.ListN.{length, take, drop, length-drop}
use lib.Seq.{length-take-le, take-take, take-append-le, drop-drop, drop_at}
use Rattle.units.specs.Limits.{most_rooms, most_tasks}
use Rattle.units.specs.Lists.{list_to, joined}
use Rattle.units.proofs.Cells.{written-length, written-front}
use Rattle.units.proofs.Joined.{joined-more}
use Rattle.units.proofs.Lists.{list-next}
use Rattle.text.specs.Putting.{Put}
use Rattle.plan_format.specs.Reading.{most_heights}
use Rattle.plan_lines.specs.Inner.Scanning.{heights_at, store_size, room_at, section, stored_heights}
use Rattle.plan_lines.proofs.Sections.{section-part, section-length, section-swap}

-- the cells of so many rooms
abbrev cells_of : ℕ → List ℕ → List ℕ
cells_of rooms cells = section heights_at (most_tasks * rooms) cells

-- the heights of the first rooms, up to a place, with the cells of the rooms that are left
pub record GatheredTo (rooms tasks : ℕ) (cells heights : List ℕ) (end : ℕ) (rest : List ℕ) (room : ℕ) : Type 0 where
  pub size : length heights ≡ most_heights
  pub few : end ≤ most_tasks * room
  pub are : take end heights ≡ stored_heights room tasks cells
  pub rooms_done : room ≤ rooms
  pub left : rest ≡ drop (most_tasks * room) (cells_of rooms cells)

module _ (rooms tasks : ℕ) (cells : List ℕ) where
  pub gathered_none : (heights : List ℕ) → length heights ≡ most_heights
      → GatheredTo rooms tasks cells heights 0 (take (heights_at + most_tasks * rooms - heights_at) (drop heights_at cells)) 0
  unfolding stored_heights list_to joined
  gathered_none heights whole =
      record { size = whole; few = omega arith; are = refl; rooms_done = omega arith; left = section-part heights_at (most_tasks * rooms) cells }

  module _ (few : rooms ≤ most_rooms) (l : tasks ≤ most_tasks) (size : length cells ≡ store_size) {heights rest : List ℕ} {end room : ℕ}
      (at : GatheredTo rooms tasks cells heights end rest room)
    where
      left-length : length rest ≡ most_tasks * rooms - most_tasks * room
      left-length =
          ap length at.left
          ∙ length-drop (most_tasks * room) (cells_of rooms cells)
          ∙ ap (λ (k : ℕ). k - most_tasks * room) (section-length heights_at (most_tasks * rooms) cells (omega arith))

      -- all rooms
      pub gathered-all : length rest ≡ 0 → take end heights ≡ stored_heights rooms tasks cells
      gathered-all e =
          let all : room ≡ rooms = omega (arith, left-length, at.rooms_done) in
          at.are ∙ ap (λ (k : ℕ). stored_heights k tasks cells) all

      -- a turn of the loop: the first room that is left
      module _ (n : ℕ) (own after : List ℕ) (e : n ≡ most_tasks) (parts : rest ≡ own ++ after) (each : length own ≡ min n (length rest))
          (some : 0 < length rest)
        where
          next-room : room < rooms
          next-room = omega (arith, left-length)

          pub own-length : length own ≡ most_tasks
          own-length = omega (arith, e, left-length, next-room)

          pub has-place : end + length (take tasks own) ≤ length heights
          has-place = omega (arith, at.size, at.few, next-room, length-take-le tasks own (omega (arith, own-length)))

          own-section : take tasks own ≡ section (room_at room) tasks cells
          own-section =
              let seen = take (heights_at + most_tasks * rooms) cells in
              sym (take-append-le tasks own after (omega (arith, own-length)))
              ∙ ap (take tasks)
              (sym parts
              ∙ at.left
              ∙ ap (drop (most_tasks * room)) (section-swap heights_at (most_tasks * rooms) cells (omega arith))
              ∙ drop-drop (most_tasks * room) heights_at seen)
              ∙ section-swap (room_at room) tasks seen (omega (arith, next-room, length-take-le (heights_at + most_tasks * rooms) cells (omega arith)))
              ∙ ap (drop (room_at room)) (take-take (room_at room + tasks) (heights_at + most_tasks * rooms) cells (omega (arith, next-room)))
              ∙ sym (section-swap (room_at room) tasks cells (omega (arith, next-room)))

          pub gathered-more : (next : ℕ) (heights' : List ℕ) → Put (take tasks own) end heights next heights'
              → GatheredTo rooms tasks cells heights' next after (room + 1)
          unfolding stored_heights
          gathered-more next heights' put =
              record {
                size = ap length put.cells_left ∙ written-length end (take tasks own) heights has-place ∙ at.size;
                few = omega (arith, at.few, put.place, length-take-le tasks own (omega (arith, own-length)));
                are =
                    ap₂ take put.place put.cells_left
                    ∙ written-front end (take tasks own) heights (omega (arith, has-place))
                    ∙ ap₂ ◌++◌ at.are own-section
                    ∙ sym (ap joined (list-next (λ k. section (room_at k) tasks cells) room)
                    ∙ joined-more (list_to (λ k. section (room_at k) tasks cells) room) (section (room_at room) tasks cells));
                rooms_done = omega (arith, next-room);
                left =
                    sym (drop_at own after most_tasks own-length)
                    ∙ ap (drop most_tasks) (sym parts ∙ at.left)
                    ∙ drop-drop most_tasks (most_tasks * room) (cells_of rooms cells)
                    ∙ ap (λ (k : ℕ). drop k (cells_of rooms cells)) (omega arith);
              }
