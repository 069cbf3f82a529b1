-- Laws of the tests of a schedule, from the numbers that the code holds. Assumes nothing.
use mathlib.Core.Path.{◌≡◌, refl, sym, ap, ◌∙◌}
use mathlib.Core.Bool.{Bool, true, false}
use Rattle.std.specs.Prelude.{Option}
use mathlib.Core.List.{List}
use Prim.Native.Nat.{ℕ, ◌+◌, ◌-◌, ◌≤◌, ◌<◌}
use native.Mathlib.Omega.{arith}
use lib.Dec.{leb, ltb}
use lib.ListN.{length, length-take}
use borrow.Author.Tests.{ltb-true, ltb-false, lt-ltb, le-ltb, le-leb, lt-leb}
use Rattle.units.specs.Limits.{most_hours, hour, duration}
use Rattle.units.specs.declared.Bounds.{Bounds}
use Rattle.units.specs.declared.Duration.{Duration}
use Rattle.units.specs.declared.Hour.{Hour}
use Rattle.units.proofs.Choices.{not_left, and-rest}
use Rattle.plan.specs.Plan.{Shifts, calendar_at, calendar_of, work_time_of}
use Rattle.plan.specs.Boxes.{bounds_at}
use Rattle.plan.specs.declared.Fault.{Fault}
use Rattle.calendar.specs.declared.Triple.{Triple}
use Rattle.calendar.specs.Triples.{start_of, elapsed_of, end_of}
use Rattle.schedule.specs.Schedule.{triple_at, runs}
use Rattle.schedule.specs.Entry.{one_triple_fault, triple_fault}

-- an hour is before s + e if the time since s is less than e
by-elapsed : (s e t d : ℕ) → s ≤ t → d ≡ t - s → ltb d e ≡ ltb t (s + e)
by-elapsed s e t d l q = go (ltb d e) refl
  where
    go : (b : Bool) → ltb d e ≡ b → ltb d e ≡ ltb t (s + e)
    go true h = let m = ltb-true d e h in h ∙ sym (lt-ltb t (s + e) (omega arith))
    go false h = let m = ltb-false d e h in h ∙ sym (le-ltb t (s + e) (omega arith))

module _ (x : Triple) (t : ℕ) where
  pub not-started : t < start_of x → runs x t ≡ false
  unfolding runs
  not-started l = not_left _ _ (lt-leb _ _ l)

  pub started : (since : Duration) → start_of x ≤ t → since ≡ duration (t - start_of x) → ltb since.0 (elapsed_of x) ≡ runs x t
  unfolding runs
  started since l e =
      by-elapsed _ _ _ _ l (ap (λ (d : Duration). d.0) e) ∙ sym (and-rest _ _ (le-leb _ _ l))

-- of a triple that is another's equal
module _ (x y : Triple) (is : x ≡ y) where
  pub runs_as : (t : ℕ) (r b : Bool) → r ≡ runs x t → r ≡ b → runs y t ≡ b
  runs_as t r b p q = rw (← is) (sym p ∙ q)

  pub ends_as : end_of y < 65536 → end_of x < 65536
  ends_as l = rw is l

  pub end-as : (h : Hour) → h ≡ hour (end_of x) → h.0 ≡ end_of y
  end-as h e = rw (← is) (ap (λ (k : Hour). k.0) e)

-- a capacity, held against heights that were added
module _ (n r capacity k : ℕ) (is : r ≡ n) (limit : k ≡ capacity) (over : Bool) (found : over ≡ ltb k r) where
  pub exceeds : over ≡ true → leb n capacity ≡ false
  exceeds e = lt-leb n capacity (omega (arith, is, limit, ltb-true k r (sym found ∙ e)))

  pub allows : over ≡ false → leb n capacity ≡ true
  allows e = le-leb n capacity (omega (arith, is, limit, ltb-false k r (sym found ∙ e)))

-- a task's calendar is no longer than H
pub calendar-small : (S : Shifts) (i : ℕ) (cal : List ℕ) → cal ≡ calendar_of S i → S.hours ≤ most_hours → length cal ≤ most_hours
unfolding calendar_of calendar_at
calendar-small S i cal e h = rw e (simp length-take (omega arith))

-- a task's own test, from what the code read of it
pub triple-is : (S : Shifts) (boxes schedule : List ℕ) (i : ℕ) (cal : List ℕ) (p : Duration) (b : Bounds) (x : Triple) (r : Option Fault)
    → cal ≡ calendar_of S i → p ≡ duration (work_time_of S i) → b ≡ bounds_at boxes i → x ≡ triple_at schedule i
    → r ≡ one_triple_fault cal p.0 b i x → r ≡ triple_fault S boxes (triple_at schedule) i
unfolding triple_fault
triple-is S boxes schedule i cal p b x r e f q s k =
    k ∙ rw (e, q, s) (ap (λ (d : Duration). one_triple_fault (calendar_of S i) d.0 (bounds_at boxes i) i (triple_at schedule i)) f)
