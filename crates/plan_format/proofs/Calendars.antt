-- The calendars of a plan that was read: as many as its lines, each line's symbols one of them, and packed as they are stored. Assumes nothing.
use mathlib.Core.Path.{◌≡◌, refl, sym, ap, ◌∙◌}
use mathlib.Core.Bool.{true}
use Rattle.std.specs.Prelude.{None}
use mathlib.Core.List.{[], map}
use Prim.Native.Nat.{ℕ, ◌*◌, ◌/◌, ◌≤◌, ◌<◌}
use native.Mathlib.Nat.{mul-div_cancel}
use lib.ListN.{length, get_or}
use Rattle.units.specs.Limits.{most_hours}
use Rattle.units.specs.Lists.{list_to, joined}
use Rattle.units.proofs.Choices.{and_right, neither}
use Rattle.units.proofs.Joined.{joined_length, joined-part}
use Rattle.units.proofs.Lists.{list-eq, list-map, list-cells}
use Rattle.units.proofs.Ranges.{from-least}
use Rattle.plan.specs.Plan.{calendar_count, calendar_at, first_symbol}
use Rattle.plan.specs.Packed.{letters, packed}
use Rattle.plan.specs.Faults.{calendars_fault, plan_fault}
use Rattle.plan.specs.Over.{IsLettered, packed_of}
use Rattle.plan.proofs.Over.{unpacked-again}
use Rattle.plan.proofs.Passed.{calendars-passed}
use Rattle.plan.proofs.Refusals.{unless-none}
use Rattle.plan_format.specs.Text.{Read}
use Rattle.plan_format.specs.Reading.{plan_in, line_fault, read_fault}
use Rattle.plan_format.proofs.Each.{all_at}

-- H and the calendars of its lines, one by one
module _ (r : Read) (whole : line_fault r ≡ None) where
  pub some-hours : 1 ≤ r.hours
  unfolding line_fault
  some-hours = from-least 1 most_hours r.hours (unless-none _ 2 0 (neither _ _ whole).0)

  lines-long : (k : ℕ) → k < length r.calendars → length (get_or r.calendars k []) ≡ r.hours
  unfolding line_fault
  lines-long = all_at r.hours r.calendars (and_right _ _ (unless-none _ 3 0 (neither _ _ whole).1))

  lines-all : list_to (λ k. get_or r.calendars k []) (length r.calendars) ≡ r.calendars
  lines-all = list-cells r.calendars [] refl

  pub symbols-length : length (joined r.calendars) ≡ length r.calendars * r.hours
  symbols-length = ap (λ ls. length (joined ls)) (sym lines-all) ∙ joined_length _ r.hours (length r.calendars) lines-long

  -- there are as many
  pub lines-count : calendar_count (plan_in r).shifts ≡ length r.calendars
  unfolding plan_in
  lines-count = ap (λ (n : ℕ). n / r.hours) symbols-length ∙ mul-div_cancel (length r.calendars) some-hours

  -- each line's symbols are one
  pub line-at : (k : ℕ) → k < length r.calendars → calendar_at (plan_in r).shifts k ≡ get_or r.calendars k []
  unfolding plan_in calendar_at first_symbol
  line-at k l =
      ap (λ ls. calendar_at (record { hours = r.hours; calendars = joined ls; task_calendars = []; work_times = [] }) k) (sym lines-all)
      ∙ joined-part (λ i. get_or r.calendars i []) r.hours (length r.calendars) k lines-long l

  -- packed, they are what is stored
  pub packed-read : (packed_of (plan_in r)).calendars ≡ joined (map packed r.calendars)
  unfolding packed_of
  packed-read =
      ap joined
      (ap (λ (n : ℕ). list_to (λ k. packed (calendar_at (plan_in r).shifts k)) n) lines-count
      ∙ list-eq _ _ (length r.calendars) (λ k l. ap packed (line-at k l))
      ∙ sym (list-map (λ k. get_or r.calendars k []) packed (length r.calendars))
      ∙ ap (map packed) lines-all)

  -- where none of them is refused, the plan's symbols are r, c and o
  pub lettered : calendars_fault (plan_in r).shifts.hours (plan_in r).shifts.calendars ≡ None → IsLettered (plan_in r)
  unfolding plan_in
  lettered none =
      record {
        some_hours = some-hours;
        whole = symbols-length ∙ ap (λ (n : ℕ). n * r.hours) (sym lines-count);
        symbols = (calendars-passed none).symbols;
      }

-- so where the plan passes
module _ (r : Read) (passes : read_fault true r ≡ None) where
  pub lines-pass : line_fault r ≡ None
  unfolding read_fault
  lines-pass = (neither _ _ (neither _ _ passes).1).0

  pub read-lettered : IsLettered (plan_in r)
  unfolding read_fault plan_fault
  read-lettered = lettered r lines-pass (neither _ _ (neither _ _ (neither _ _ passes).1).1).0

  -- and what is stored has the letters of its lines
  pub letters-read : letters r.hours (joined (map packed r.calendars)) ≡ joined r.calendars
  unfolding plan_in packed_of
  letters-read =
      ap (letters r.hours) (sym (packed-read r lines-pass))
      ∙ ap (λ P. P.shifts.calendars) (unpacked-again (plan_in r) read-lettered)
