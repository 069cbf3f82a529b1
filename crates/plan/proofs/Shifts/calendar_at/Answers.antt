use mathlib.Core.Path.{◌≡◌, sym, ap, ap₂, ◌∙◌}
use mathlib.Core.List.{List}
use mathlib.Core.Bool.{true}
use Prim.Native.Nat.{ℕ, ◌+◌, ◌*◌, ◌≤◌, ◌<◌}
use native.Mathlib.Omega.{arith}
use lib.ListN.{length, take, drop}
use Rattle.plan.specs.HourKinds.{is_symbol}
use Rattle.plan.specs.Plan.{calendar_at, first_symbol, room_part}
use Rattle.plan.proofs.Codes.{code-kind}
use Rattle.plan.proofs.HourKinds.{symbol-part}
use Rattle.plan.specs.Packed.{bytes_of, letters, letters_of}
use Rattle.plan.proofs.Letters.{calendar-below, calendar-within, letters-part}
use Rattle.plan.proofs.Shifts.calendar_at.Goals as goal

-- the bytes of a calendar that lies among the letters
within : (h k each : ℕ) (bytes : List ℕ) → each ≡ bytes_of h → 1 ≤ h → first_symbol h k + h ≤ length (letters h bytes)
    → first_symbol each k + each ≤ length bytes
unfolding first_symbol
within h k each bytes e some l = rw e (calendar-within h bytes k some l)

its-letters : (h k each from : ℕ) (bytes part : List ℕ) → each ≡ bytes_of h → from ≡ first_symbol each k → part ≡ take each (drop from bytes) → 1 ≤ h
    → first_symbol h k + h ≤ length (letters h bytes) → letters_of h part ≡ take h (drop (first_symbol h k) (letters h bytes))
unfolding first_symbol room_part
its-letters h k each from bytes part e f p some l =
    ap (letters_of h) (p ∙ ap₂ (λ (m n : ℕ). take m (drop n bytes)) e (f ∙ ap (λ (m : ℕ). k * m) e))
    ∙ sym (letters-part h bytes k (calendar-below h bytes k some l))

its-symbols : (h k each from : ℕ) (bytes part : List ℕ) → each ≡ bytes_of h → from ≡ first_symbol each k → part ≡ take each (drop from bytes) → 1 ≤ h
    → first_symbol h k + h ≤ length (letters h bytes) → ((j : ℕ) → j < length (letters h bytes) → is_symbol (letters h bytes) j ≡ true) → (t : ℕ) → t < h
    → is_symbol (letters_of h part) t ≡ true
its-symbols h k each from bytes part e f p some l symbols t m =
    ap (λ cal. is_symbol cal t) (its-letters h k each from bytes part e f p some l)
    ∙ symbol-part (letters h bytes) (first_symbol h k) h t m
    ∙ symbols (first_symbol h k + t) (omega (arith, l, m))

pub first_within-from-requires : goal.first_within-from-requires
first_within-from-requires c =
    omega (arith, within _ _ _ c.args.self.now.calendars.now c.bytes_of-each.ensures.0 c.requires.some_hours c.requires.within)

pub bytes_from-requires : goal.bytes_from-requires
bytes_from-requires c =
    omega (
      arith,
      c.first_within-from.ensures,
      within _ _ _ c.args.self.now.calendars.now c.bytes_of-each.ensures.0 c.requires.some_hours c.requires.within,
    )

pub returns : goal.returns
unfolding calendar_at
returns c =
    its-letters _ _ _ _ c.args.self.now.calendars.now _ c.bytes_of-each.ensures.0 c.first_within-from.ensures c.bytes_from.ensures.is
    c.requires.some_hours c.requires.within

-- each letter is a kind's, and so each code
pub invariant_of-result : goal.invariant_of-result
invariant_of-result c =
    record {
      packed = (
        c.bytes_from.ensures.size ∙ c.bytes_of-each.ensures.0,
        λ t l.
            code-kind _ _ t l
            (its-symbols _ _ _ _ c.args.self.now.calendars.now _ c.bytes_of-each.ensures.0 c.first_within-from.ensures c.bytes_from.ensures.is
            c.requires.some_hours c.requires.within c.requires.symbols t l),
      );
    }
