-- Laws of what reading a plan leaves, refused and read. Assumes nothing.
use mathlib.Core.Path.{◌≡◌}
use mathlib.Core.Bool.{true, false}
use Rattle.std.specs.Prelude.{None, Some}
use mathlib.Core.List.{List}
use Prim.Native.Nat.{ℕ, ◌≤◌}
use lib.ListN.{length}
use borrow.Author.Tests.{leb-true}
use Rattle.units.specs.Choice.{on_option}
use Rattle.units.specs.Limits.{most_rooms, most_tasks}
use Rattle.units.proofs.Choices.{and_left, and_right}
use Rattle.plan.specs.declared.Fault.{Fault}
use Rattle.plan.specs.Refusals.{fault, refused, answered, on_answer}
use Rattle.plan_format.specs.Text.{Read, read_text}
use Rattle.plan_format.specs.Reading.{most_packed, most_heights, most_paired, most_bounds, is_enough, read_fault, end_with}
use Rattle.plan_format.specs.Reading.{zeros, unread, cleared, stored, read_tested, read_plan}

-- the memory lent
module _ (rs cs ts ws ks ps bs : List ℕ) where
  -- enough of it
  pub record Enough : Type 0 where
    pub capacities : most_rooms ≤ length rs
    pub calendars : most_packed ≤ length cs
    pub task_calendars : most_tasks ≤ length ts
    pub work_times : most_tasks ≤ length ws
    pub heights : most_heights ≤ length ks
    pub pairs : most_paired ≤ length ps
    pub boxes : most_bounds ≤ length bs

  pub enough : is_enough rs cs ts ws ks ps bs ≡ true → Enough
  unfolding is_enough
  enough e =
      let after-capacities = and_right _ _ e in
      let after-calendars = and_right _ _ after-capacities in
      let after-tasks = and_right _ _ after-calendars in
      let after-work-times = and_right _ _ after-tasks in
      let after-heights = and_right _ _ after-work-times in
      record {
        capacities = leb-true _ _ (and_left _ _ e);
        calendars = leb-true _ _ (and_left _ _ after-capacities);
        task_calendars = leb-true _ _ (and_left _ _ after-calendars);
        work_times = leb-true _ _ (and_left _ _ after-tasks);
        heights = leb-true _ _ (and_left _ _ after-work-times);
        pairs = leb-true _ _ (and_left _ _ after-heights);
        boxes = leb-true _ _ (and_right _ _ after-heights);
      }

  module _ (text : List ℕ) where
    pub read-malformed : (f : Fault) → read_text text ≡ refused f
        → end_with (refused f) (zeros rs) (zeros cs) (zeros ts) (zeros ws) (zeros ks) (zeros ps) (zeros bs) ≡ read_plan rs cs ts ws ks ps bs text
    unfolding read_plan on_answer cleared
    read-malformed f e = rw e

    pub read_whole : (r : Read) → read_text text ≡ answered r → read_tested rs cs ts ws ks ps bs r ≡ read_plan rs cs ts ws ks ps bs text
    unfolding read_plan on_answer
    read_whole r e = rw e

  module _ (r : Read) where
    pub too_small : is_enough rs cs ts ws ks ps bs ≡ false → end_with (refused (fault 31 0)) rs cs ts ws ks ps bs ≡ read_tested rs cs ts ws ks ps bs r
    unfolding read_tested unread
    too_small e = rw e

    pub not-passed : (f : Fault) → is_enough rs cs ts ws ks ps bs ≡ true → Some f ≡ read_fault true r
        → end_with (refused f) (zeros rs) (zeros cs) (zeros ts) (zeros ws) (zeros ks) (zeros ps) (zeros bs) ≡ read_tested rs cs ts ws ks ps bs r
    unfolding read_tested on_option cleared
    not-passed f e q = rw (e, ← q)

    pub not-refused : is_enough rs cs ts ws ks ps bs ≡ true → read_fault true r ≡ None → stored rs cs ts ws ks ps bs r ≡ read_tested rs cs ts ws ks ps bs r
    unfolding read_tested on_option
    not-refused e q = rw (e, q)
