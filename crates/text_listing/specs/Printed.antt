-- The week that 01 prints under "Plan text and listing": the text, and the listing that it prints. Fields are parted by tabs.
use Rattle.std.specs.Prelude.{List, [], ◌∷◌, ◌++◌, ℕ}
use Prim.Native.Char.{code}
use Prim.Native.String as string
use Prim.Native.String.{String}

-- the bytes of a text of ASCII characters
unfoldable pub bytes : String → List ℕ
bytes string.[] = []
bytes (string.◌∷◌ c s) = code c ∷ bytes s

unfoldable pub printed_text : List ℕ
printed_text =
    bytes "plan\t6\t1\n"
    ++ bytes "cal\trcrrrr\n"
    ++ bytes "task\t0\t2\t1\t0\t3\t2\t3\t0\t0\n"
    ++ bytes "task\t0\t2\t1\t0\t2\t2\t3\t0\t0\n"

unfoldable pub printed_listing : List ℕ
printed_listing = bytes "settled\t4\n" ++ bytes "task\t0\t3\t3\t2\t2\t0\t0\n" ++ bytes "task\t1\t0\t0\t3\t3\t0\t0\n"
