-- Calendars in memory, packed: four hours a byte, each calendar from a new byte (02, W-208). All else is defined over the letters that they hold.
use Rattle.std.specs.Prelude.{Bool, not, List, ℕ, ◌+◌, ◌*◌, ◌/◌, ◌%◌, ◌^◌, leb, ltb, eqb, length, get_or, if◌then◌else◌}
use Rattle.units.specs.Choice.{some_of}
use Rattle.units.specs.Lists.{list_to, joined}
use Rattle.plan.specs.Plan.{room_part}
use Rattle.plan.specs.HourKinds.{regular, closed, overtime}

-- ---- read

-- how many bytes hold so many hours
unfoldable pub bytes_of : ℕ → ℕ
bytes_of h = (h + 3) / 4

-- hour t in bits 2 (t mod 4) and 2 (t mod 4) + 1 of byte t div 4
unfoldable pub code_at : List ℕ → ℕ → ℕ
code_at bytes t = get_or bytes (t / 4) 0 / 2 ^ (2 * (t % 4)) % 4

-- 0 closed, 1 regular, 2 overtime; 3 is no kind
unfoldable pub letter_of : ℕ → ℕ
letter_of n = if eqb n 0 then closed else (if eqb n 1 then regular else (if eqb n 2 then overtime else 0))

-- the letters of one calendar
unfoldable pub letters_of : ℕ → List ℕ → List ℕ
letters_of h bytes = list_to (λ t. letter_of (code_at bytes t)) h

-- the bytes of one calendar of those joined; the letters of all, joined
abbrev pub part_of : ℕ → List ℕ → ℕ → List ℕ
part_of h bytes k = room_part (bytes_of h) bytes k

unfoldable pub letters : ℕ → List ℕ → List ℕ
letters h bytes = joined (list_to (λ k. letters_of h (part_of h bytes k)) (length bytes / bytes_of h))

-- ---- packed

unfoldable pub code_of : ℕ → ℕ
code_of letter = if eqb letter regular then 1 else (if eqb letter overtime then 2 else 0)

-- a byte of four hours, the first in its lowest bits; past the last hour it has zeros
unfoldable pub byte_at : List ℕ → ℕ → ℕ
byte_at cal i =
    code_of (get_or cal (4 * i) 0)
    + 4 * code_of (get_or cal (4 * i + 1) 0)
    + 16 * code_of (get_or cal (4 * i + 2) 0)
    + 64 * code_of (get_or cal (4 * i + 3) 0)

unfoldable pub packed : List ℕ → List ℕ
packed cal = list_to (byte_at cal) (bytes_of (length cal))

-- ---- tested

-- hour t of the h that a calendar has is of a kind, and the bits past them are not set
unfoldable pub is_code : ℕ → List ℕ → ℕ → Bool
is_code h bytes t = if ltb t h then leb (code_at bytes t) 2 else eqb (code_at bytes t) 0

unfoldable pub is_packed : ℕ → List ℕ → Bool
is_packed h bytes = not (some_of (λ t. not (is_code h bytes t)) (4 * bytes_of h))
