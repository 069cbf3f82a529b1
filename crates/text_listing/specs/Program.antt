-- What the program prints for a text (01, "Plan text and listing"; rooms: 02, W-202; pairs: W-206; packed calendars: W-208): it reads the plan,
-- filters with room for 2,048 steps and prints.
use Rattle.std.specs.Prelude.{List, ℕ, ◌*◌, take, replicate}
use Rattle.units.specs.Limits.{most_rooms, most_tasks, box_numbers, pair_numbers}
use Rattle.plan.specs.Plan.{task_count}
use Rattle.plan.specs.Packed.{bytes_of}
use Rattle.plan.specs.Over.{PackedPlan, packed_plan, unpacked}
use Rattle.plan.specs.Refusals.{on_answer}
use Rattle.steps.specs.Entry.{filter_packed}
use Rattle.plan_format.specs.Reading.{most_packed, most_heights, most_paired, most_bounds, PlanRead, ReadEnd, read_plan}
use Rattle.listing.specs.Listing.{refused_line, listing}

-- memory as the program lends it
unfoldable pub empty_memory : ℕ → List ℕ
empty_memory n = replicate n 0

abbrev pub step_room : ℕ
step_room = 2048

-- a plan filtered with room for so many steps, as a listing
unfoldable pub plan_listing : PackedPlan → List ℕ → List ℕ
plan_listing P boxes =
    listing (filter_packed P boxes (empty_memory step_room) (empty_memory step_room) (empty_memory step_room)).answer
    (filter_packed P boxes (empty_memory step_room) (empty_memory step_room) (empty_memory step_room)).boxes
    (task_count (unpacked P))

-- the text read into memory for the most that a plan can hold
unfoldable pub read_end : List ℕ → ReadEnd
read_end text =
    read_plan (empty_memory most_rooms) (empty_memory most_packed) (empty_memory most_tasks) (empty_memory most_tasks) (empty_memory most_heights) (empty_memory most_paired)
    (empty_memory most_bounds) text

-- the plan in the first cells of that memory
unfoldable pub read_listing : ReadEnd → PlanRead → List ℕ
read_listing e a =
    plan_listing
    (packed_plan a.hours (take a.rooms e.capacities) (take (a.calendars * bytes_of a.hours) e.calendars) (take a.tasks e.task_calendars)
    (take a.tasks e.work_times)
    (take (a.rooms * a.tasks) e.heights)
    (take (pair_numbers * a.pairs) e.pairs))
    (take (box_numbers * a.tasks) e.boxes)

-- any refusal is one line
unfoldable pub listing_of_text : List ℕ → List ℕ
listing_of_text text = on_answer (read_end text).answer refused_line (read_listing (read_end text))
