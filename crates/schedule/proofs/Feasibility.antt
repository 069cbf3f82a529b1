-- The schedule's tests find no fault exactly with the feasible schedules. Assumes nothing.
use mathlib.Core.Path.{◌≡◌, ◌∙◌}
use mathlib.Core.Bool.{true}
use Rattle.std.specs.Prelude.{None}
use mathlib.Core.List.{List}
use Prim.Native.Nat.{ℕ, ◌≤◌, ◌<◌}
use borrow.Author.Tests.{leb-true, le-leb}
use Rattle.units.proofs.Choices.{else-none, neither, first-none, first-all-none}
use Rattle.plan.specs.Plan.{Plan, room_count, task_count, pair_count, calendar_of, work_time_of, capacity_of, pair_of}
use Rattle.plan.specs.Boxes.{bounds_at}
use Rattle.plan.proofs.Refusals.{unless-true, unless-none}
use Rattle.calendar.specs.declared.Triple.{Triple}
use Rattle.calendar.specs.Triples.{valid_triple, in_bounds}
use Rattle.schedule.specs.Schedule.{running, in_turn, Feasible}
use Rattle.schedule.specs.Entry.{one_triple_fault, triple_fault, room_fault, hour_fault, order_fault, schedule_fault}

module _ (P : Plan) (boxes : List ℕ) (σ : ℕ → Triple) where
  triple-passed : (i : ℕ) → triple_fault P.shifts boxes σ i ≡ None
      → (in_bounds (bounds_at boxes i) (σ i) ≡ true) × (valid_triple (calendar_of P.shifts i) (work_time_of P.shifts i) (σ i) ≡ true)
  unfolding triple_fault one_triple_fault
  triple-passed i e = let (a, b) = neither _ _ e in (unless-none _ 14 i a, unless-none _ 15 i b)

  hour-passed : (t : ℕ) → hour_fault P σ t ≡ None → (room : ℕ) → room < room_count P → running P room σ t ≤ capacity_of P room
  unfolding hour_fault room_fault
  hour-passed t e room l = leb-true _ _ (unless-none _ 16 t (first-none _ _ e room l))

  pair-passed : (k : ℕ) → order_fault P σ k ≡ None → in_turn (pair_of P k) σ ≡ true
  unfolding order_fault
  pair-passed k e = unless-none _ 20 k e

  pub faultless-feasible : schedule_fault P boxes σ ≡ None → Feasible P boxes σ
  unfolding schedule_fault
  faultless-feasible e =
      let (tasks, rest) = neither _ _ e in
      let (hours, pairs) = neither _ _ rest in
      record {
        inside = λ i l. (triple-passed i (first-none _ _ tasks i l)).0;
        fits = λ i l. (triple-passed i (first-none _ _ tasks i l)).1;
        capacity = λ room l t m. hour-passed t (first-none _ _ hours t m) room l;
        pairs = λ k l. pair-passed k (first-none _ _ pairs k l);
      }

  no-triple-fault : (i : ℕ) → in_bounds (bounds_at boxes i) (σ i) ≡ true
      → valid_triple (calendar_of P.shifts i) (work_time_of P.shifts i) (σ i) ≡ true
      → triple_fault P.shifts boxes σ i ≡ None
  unfolding triple_fault one_triple_fault
  no-triple-fault i h v = else-none _ _ (unless-true _ 14 i h) ∙ unless-true _ 15 i v

  no-hour-fault : (t : ℕ) → ((room : ℕ) → room < room_count P → running P room σ t ≤ capacity_of P room) → hour_fault P σ t ≡ None
  unfolding hour_fault room_fault
  no-hour-fault t h = first-all-none _ (room_count P) (λ room l. unless-true _ 16 t (le-leb _ _ (h room l)))

  no-order-fault : (k : ℕ) → in_turn (pair_of P k) σ ≡ true → order_fault P σ k ≡ None
  unfolding order_fault
  no-order-fault k h = unless-true _ 20 k h

  pub feasible-faultless : Feasible P boxes σ → schedule_fault P boxes σ ≡ None
  unfolding schedule_fault
  feasible-faultless F =
      else-none _ _ (first-all-none _ (task_count P) (λ i l. no-triple-fault i (F.inside i l) (F.fits i l)))
      ∙ else-none _ _ (first-all-none _ P.shifts.hours (λ t m. no-hour-fault t (λ room l. F.capacity room l t m)))
      ∙ first-all-none _ (pair_count P) (λ k l. no-order-fault k (F.pairs k l))
