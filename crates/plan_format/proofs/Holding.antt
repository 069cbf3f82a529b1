-- What a plan that was read holds: within the limits of a plan. Assumes nothing.
use mathlib.Core.Path.{◌≡◌, refl, sym, subst}
use mathlib.Core.Bool.{Bool, true, false}
use Rattle.std.specs.Prelude.{if◌then◌else◌}
use Rattle.std.specs.Prelude.{Option, None, Some}
use mathlib.Core.List.{List}
use Prim.Native.Nat.{ℕ, ◌*◌, ◌≤◌}
use native.Mathlib.Nat.{mul-le-mul}
use native.Mathlib.Omega.{arith}
use lib.ListN.{length, get_or, length-map}
use Rattle.units.specs.Choice.{on_option}
use Rattle.units.specs.Limits.{most_hours, most_calendars, most_rooms, most_tasks, most_pairs}
use Rattle.units.proofs.Choices.{and_left, neither}
use Rattle.units.proofs.Ranges.{to-most}
use Rattle.plan.specs.Plan.{first_symbol, pair_count}
use Rattle.plan.specs.Packed.{bytes_of}
use Rattle.plan.specs.declared.Fault.{Fault}
use Rattle.plan.specs.Refusals.{fault, Answer, refused, answered, on_answer}
use Rattle.plan.specs.Faults.{plan_fault}
use Rattle.plan.proofs.Refusals.{unless-none, refused≢answered}
use Rattle.plan.proofs.Passed.{counts-passed}
use Rattle.plan_format.specs.Text.{Read, read_text}
use Rattle.plan_format.specs.Reading.{plan_in, most_packed, most_heights, line_fault, read_fault, is_enough, PlanRead}
use Rattle.plan_format.specs.Reading.{unread, cleared, stored, read_tested, read_plan}

pub record Holds (a : PlanRead) : Type 0 where
  pub hours : a.hours ≤ most_hours
  pub rooms : a.rooms ≤ most_rooms
  pub calendars : a.calendars ≤ most_calendars
  pub tasks : a.tasks ≤ most_tasks
  pub bytes : first_symbol (bytes_of a.hours) a.calendars ≤ most_packed
  pub heights : a.rooms * a.tasks ≤ most_heights
  pub pairs : a.pairs ≤ most_pairs

-- what is answered of a plan that was read
abbrev answer_of : Read → PlanRead
answer_of r =
    record {
      hours = r.hours;
      rooms = length r.capacities;
      calendars = length r.calendars;
      tasks = length r.tasks;
      pairs = pair_count (plan_in r);
    }

fault-free : (r : Read) → read_fault true r ≡ None → Holds (answer_of r)
unfolding read_fault line_fault plan_fault plan_in first_symbol bytes_of
fault-free r e =
    let after-31 = neither _ _ e in
    let after-3 = neither _ _ after-31.1 in
    let of-lines = neither _ _ after-3.0 in
    let counts = counts-passed (neither _ _ (neither _ _ after-3.1).1).0 in
    let h : r.hours ≤ most_hours = to-most 1 most_hours _ (unless-none _ 2 0 of-lines.0) in
    let c : length r.calendars ≤ most_calendars = to-most 1 most_calendars _ (and_left _ _ (unless-none _ 3 0 of-lines.1)) in
    let few : length r.tasks ≤ most_tasks = omega (arith, counts.tasks, length-map r.tasks (λ (t : List ℕ). get_or t 0 0)) in
    record {
      hours = h;
      rooms = counts.rooms;
      calendars = c;
      tasks = few;
      bytes = mul-le-mul c (let few-bytes : bytes_of r.hours ≤ bytes_of most_hours = omega (arith, h) in few-bytes);
      heights = mul-le-mul counts.rooms few;
      pairs = counts.few_pairs;
    }

module _ (capacities calendars task_calendars work_times heights pairs boxes : List ℕ) where
  from-tested : (r : Read) (a : PlanRead)
      → (read_tested capacities calendars task_calendars work_times heights pairs boxes r).answer ≡ answered a → Holds a
  unfolding read_tested on_option unread cleared stored
  from-tested r a e = by-memory (is_enough capacities calendars task_calendars work_times heights pairs boxes) e
    where
      by-fault : (o : Option Fault) → read_fault true r ≡ o
          → (on_option o (stored capacities calendars task_calendars work_times heights pairs boxes r)
          (cleared capacities calendars task_calendars work_times heights pairs boxes)).answer
          ≡ answered a → Holds a
      by-fault None q s =
          let is : answer_of r ≡ a = cc in
          subst Holds is (fault-free r q)
      by-fault (Some f) q s = refused≢answered s

      by-memory : (b : Bool)
          → (if b
          then on_option (read_fault true r) (stored capacities calendars task_calendars work_times heights pairs boxes r)
          (cleared capacities calendars task_calendars work_times heights pairs boxes)
          else unread capacities calendars task_calendars work_times heights pairs boxes (fault 31 0)).answer
          ≡ answered a → Holds a
      by-memory true s = by-fault (read_fault true r) refl s
      by-memory false s = refused≢answered s

  from-read : (o : Answer Read) (a : PlanRead)
      → (on_answer o (cleared capacities calendars task_calendars work_times heights pairs boxes)
      (read_tested capacities calendars task_calendars work_times heights pairs boxes)).answer
      ≡ answered a → Holds a
  unfolding on_answer cleared
  from-read (refused f) a e = refused≢answered e
  from-read (answered r) a e = from-tested r a e

  pub read-holds : (text : List ℕ) (a : PlanRead)
      → answered a ≡ (read_plan capacities calendars task_calendars work_times heights pairs boxes text).answer → Holds a
  unfolding read_plan
  read-holds text a e = from-read (read_text text) a (sym e)
