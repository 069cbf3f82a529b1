-- A calendar's packing tested by bytes.
use Rattle.std.specs.Prelude.{Bool, true, ℕ, ◌*◌, ◌/◌, ◌%◌, ◌^◌, leb, ltb, eqb, if◌then◌else◌}
use Rattle.units.specs.Choice.{◌and◌}

-- each of a byte's four codes is that of a kind
unfoldable pub are_codes : ℕ → Bool
are_codes byte = leb (byte % 4) 2 and leb (byte / 4 % 4) 2 and leb (byte / 16 % 4) 2 and leb (byte / 64) 2

-- the last byte of a calendar of h hours has no bit set past them
unfoldable pub is_clear : ℕ → ℕ → Bool
is_clear h last = if eqb (h % 4) 0 then true else ltb last (2 ^ (2 * (h % 4)))
