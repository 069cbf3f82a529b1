-- What the calendar rule's core asks for each task of a plan that passed its tests. Assumes nothing.
use mathlib.Core.Path.{◌≡◌, ◌∙◌}
use mathlib.Core.Bool.{true}
use mathlib.Core.List.{List}
use Prim.Native.Nat.{ℕ, ◌+◌, ◌≤◌, ◌<◌}
use native.Mathlib.Omega.{arith}
use lib.ListN.{length, get_or, length-take, length-drop}
use Rattle.units.specs.Limits.{most_tasks}
use Rattle.units.specs.declared.Bounds.{Bounds}
use Rattle.plan.specs.Plan.{Shifts, Plan, task_count, first_symbol, calendar_at, calendar_of}
use Rattle.plan.specs.HourKinds.{is_symbol}
use Rattle.plan.proofs.HourKinds.{symbol-part}
use Rattle.plan.specs.Boxes.{bounds_at}
use Rattle.plan.specs.Passed.{Passed}
use Rattle.calendar.specs.Inner.Ready.{RuleReady}
use Rattle.schedule.proofs.Readiness.{has-calendar}
use Rattle.propagation.specs.Inner.Fitting.{Fitting}

module _ (S : Shifts) (boxes : List ℕ) (i : ℕ) (part : List ℕ) (b : Bounds)
    (is-part : part ≡ calendar_of S i) (is-box : b ≡ bounds_at boxes i) where
  -- what the rule's core asks
  pub core-asks : Fitting S boxes i → RuleReady part b
  unfolding calendar_of calendar_at
  core-asks f =
      let long : length part ≡ S.hours = rw is-part (simp (length-take, length-drop) (omega (arith, f.calendar.calendar.within))) in
      let high : b.latest.0 < S.hours = rw is-box f.latest in
      record { shortest = rw is-box f.shortest; latest = omega arith; short = omega (arith, f.short); symbols = λ t l. symbol t (omega arith) f }
    where
      first : ℕ
      first = first_symbol S.hours (get_or S.task_calendars i 0)

      symbol : (t : ℕ) → t < S.hours → Fitting S boxes i → is_symbol part t ≡ true
      symbol t l f =
          let at = f.calendar.calendar in
          rw is-part (symbol-part S.calendars first S.hours t l ∙ at.symbols (first + t) (omega (arith, at.within)))

-- what a plan that passes the tests gives
pub fitting : (P : Plan) (boxes : List ℕ) → Passed P boxes → (i : ℕ) → i < task_count P → Fitting P.shifts boxes i
fitting P boxes p i l =
    let t = p.task i l in
    record {
      short = p.hours;
      calendar = has-calendar p l;
      work = omega (arith, p.work_times);
      box = omega (arith, p.boxes);
      latest = t.box.latest;
      shortest = t.box.shortest;
    }

-- and what the answers for all its tasks ask
pub all-fitting : (P : Plan) (boxes : List ℕ) → Passed P boxes
    → (task_count P ≤ most_tasks) × ((i : ℕ) → i < task_count P → Fitting P.shifts boxes i)
all-fitting P boxes p = (p.tasks, fitting P boxes p)
