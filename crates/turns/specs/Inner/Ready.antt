-- What the filter and the log checker know of the heights, the boxes and the pairs of a plan that passed its tests: small enough that no sum of them
-- wraps, and each pair of two of its tasks.
-- Only contracts of private functions cite this; 01 has no such terms.
use Rattle.std.specs.Prelude.{◌≡◌, List, ℕ, ◌*◌, ◌≤◌, ◌<◌, length, get_or}
use Rattle.units.specs.Limits.{most_hours, most_rooms, most_tasks, most_pairs, most_height, box_numbers}
use Rattle.plan.specs.Plan.{Plan, pair_count, room_part}
use Rattle.plan.specs.Boxes.{bounds_at}
use Rattle.plan.specs.Passed.{PassedPair}

-- one room's heights
pub record RoomReady (heights : List ℕ) : Type 0 where
  pub few : length heights ≤ most_tasks
  pub small : (i : ℕ) → get_or heights i 0 ≤ most_height

-- the heights of so many tasks in so many rooms
pub record RoomsReady (rooms tasks : ℕ) (heights : List ℕ) : Type 0 where
  pub few_rooms : rooms ≤ most_rooms
  pub few_tasks : tasks ≤ most_tasks
  pub each : length heights ≡ rooms * tasks
  pub room : (r : ℕ) → r < rooms → RoomReady (room_part tasks heights r)

-- and their boxes
pub record Ready (rooms tasks : ℕ) (heights boxes : List ℕ) : Type 0 where
  pub rooms_ready : RoomsReady rooms tasks heights
  pub sized : length boxes ≡ box_numbers * tasks
  pub latest : (i : ℕ) → i < tasks → (bounds_at boxes i).latest.0 < most_hours
  pub shortest : (i : ℕ) → i < tasks → (bounds_at boxes i).shortest.0 ≤ most_hours

-- the pairs
pub record PairsReady (P : Plan) : Type 0 where
  pub few : pair_count P ≤ most_pairs
  pub pair : (k : ℕ) → k < pair_count P → PassedPair P k
