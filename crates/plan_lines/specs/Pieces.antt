-- A plan text read piece by piece: what a reading stands for, and when two readings are in the same state.
use Rattle.std.specs.Prelude.{◌≡◌, false, List, ◌++◌, ℕ, ◌+◌, ◌≤◌, ◌<◌, length, take, if◌then◌else◌}
use Rattle.std.specs.Prelude.{Result}
use Rattle.plan.specs.Refusals.{Answer, refused, fault}
use Rattle.plan.specs.declared.Refusal.{Refusal}
use Rattle.text.specs.Fields.{lf, parts, first_at}
use Rattle.plan_format.specs.Text.{Read, most_line, most_lines, read_lines, read_text}
use Rattle.plan_lines.specs.declared.Scan.{Scan}
use Rattle.plan_lines.specs.declared.Reading.{Reading}
use Rattle.plan_lines.specs.Inner.Scanning.{bytes_before, Holds, Scans}

-- the bytes of the line that is being read, so far
abbrev pub held_of : Reading → List ℕ
held_of m = take m.length m.held

-- what the text so far and whatever follows it come to: once a line broke the rules, that; else what the lines from this one on come to
unfoldable pub rest_of : Read → Reading → List ℕ → Answer Read
rest_of r m after = if m.broken then refused (fault 1 m.line) else read_lines m.line r (parts lf (held_of m ++ after))

-- This text, and no more, has been read: with any bytes after it, it comes to what the reading and those bytes come to. Unless it broke the rules, what
-- its lines hold is stored, and the bytes after them, of no line yet, are held. A caller needs no field of it: it goes from `begin` through `take` to
-- `finish`.
pub record IsRead (text : List ℕ) (m : Reading) : Type 0 where
  pub so_far : Read
  pub decides : (after : List ℕ) → read_text (text ++ after) ≡ rest_of so_far m after
  pub begun : 1 ≤ m.line
  pub few : m.line ≤ most_lines + 1
  pub cells : length m.held ≡ most_line
  pub short : m.length < most_line
  pub no_lf : m.broken ≡ false → first_at lf (held_of m) ≡ m.length
  pub holds : m.broken ≡ false → Holds so_far m.scan (bytes_before m.line) m.store.calendars m.store.cells

-- some text has
abbrev pub IsReady : Reading → Type 0
IsReady m = (text : List ℕ) × IsRead text m

-- a reading takes these bytes, and is another: of any text, they are the next
abbrev pub Takes : Reading → List ℕ → Reading → Type 0
Takes m bytes n = (text : List ℕ) → IsRead text m → IsRead (text ++ bytes) n

-- the text of a reading ends: the first line that breaks the rules, or all that it holds
abbrev pub Ends : Reading → Result Scan Refusal → Type 0
Ends m end = (text : List ℕ) → IsRead text m → Scans (read_text text) end m.store.calendars m.store.cells

-- Two readings are in the same state, as to all that may follow: whatever bytes both take, both then end with the same answer, which is the same
-- refusal, or the same plan stored.
abbrev pub SameState : Reading → Reading → Type 0
SameState m n =
    (bytes : List ℕ) (x y : Reading) (a b : Result Scan Refusal) → Takes m bytes x → Takes n bytes y → Ends x a → Ends y b
    → (told : Answer Read) × Scans told a x.store.calendars x.store.cells × Scans told b y.store.calendars y.store.cells
