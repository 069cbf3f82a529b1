-- Laws of what reading a plan leaves, from what the code keeps of its text. Assumes nothing.
use mathlib.Core.Path.{◌≡◌, sym, ap, ◌∙◌}
use mathlib.Core.Bool.{true}
use Rattle.std.specs.Prelude.{None, Ok, Err}
use mathlib.Core.List.{List}
use Prim.Native.Nat.{ℕ, ◌*◌, ◌≤◌}
use native.Mathlib.Nat.{mul-le-mul}
use native.Mathlib.Omega.{arith}
use lib.ListN.{length, length-take}
use Rattle.units.specs.Cells.{written}
use Rattle.units.specs.Limits.{most_rooms, most_tasks}
use Rattle.plan.specs.Plan.{room_count, task_count}
use Rattle.plan.specs.Over.{PackedPlan, unpacked}
use Rattle.plan.specs.Passed.{Passed}
use Rattle.plan.specs.declared.Refusal.{Refusal}
use Rattle.plan.specs.Refusals.{fault_of, Answer, refused, answered}
use Rattle.plan_lines.specs.declared.Scan.{Scan}
use Rattle.plan_format.specs.Text.{Read}
use Rattle.plan_format.specs.Reading.{plan_in, most_packed, most_heights, is_enough, read_fault, PlanRead, zeros, end_with, stored, read_tested}
use Rattle.plan_format.proofs.Readings.{enough, not-refused}
use Rattle.plan_lines.specs.Inner.Scanning.{section, stored_plan, stored_boxes, most_read, Holds, Scans}
use Rattle.plan_lines.proofs.Following.{pair-count, plan-held, boxes-held}
use Rattle.plan_text.proofs.Judging.{read-passed}

-- what a whole text comes to, once it is known which
module _ (a : Answer Read) (calendars cells : List ℕ) where
  pub scans-refused : (refusal : Refusal) → Scans a (Err refusal) calendars cells → a ≡ refused (fault_of refusal)
  unfolding Scans
  scans-refused refusal f = f

  pub scans-whole : (s : Scan) → Scans a (Ok s) calendars cells → (r : Read) × (a ≡ answered r) × Holds r s most_read calendars cells
  unfolding Scans
  scans-whole s f = f

-- what is stored fits the most calendars
pub few-calendars : {r : Read} {s : Scan} {n : ℕ} {calendars cells : List ℕ} → Holds r s n calendars cells → {P : PackedPlan}
    → P ≡ stored_plan s.hours s.rooms s.tasks s.pairs (section 0 s.bytes calendars) cells → None ≡ read_fault true r → length P.calendars ≤ most_packed
few-calendars {r} {s} {n} {calendars} {cells} held p q =
    omega (arith, ap (λ (x : PackedPlan). length x.calendars) p, length-take s.bytes calendars, (read-passed held q).bytes_few)

module _ (rs cs ts ws ks ps bs : List ℕ) where
  -- memory that was cleared, slice by slice
  pub all-cleared : (a : Answer PlanRead) {rs' cs' ts' ws' ks' ps' bs' : List ℕ}
      → (rs' ≡ zeros rs) × (cs' ≡ zeros cs) × (ts' ≡ zeros ts) × (ws' ≡ zeros ws) × (ks' ≡ zeros ks) × (ps' ≡ zeros ps) × (bs' ≡ zeros bs)
      → end_with a rs' cs' ts' ws' ks' ps' bs' ≡ end_with a (zeros rs) (zeros cs) (zeros ts) (zeros ws) (zeros ks) (zeros ps) (zeros bs)
  all-cleared a left = λ k. end_with a (left.0 k) (left.1 k) (left.2 k) (left.3 k) (left.4 k) (left.5 k) (left.6 k)

  -- memory that is enough has room for a plan that passes
  pub has-room : (P : PackedPlan) {own : List ℕ} → Passed (unpacked P) own → length P.calendars ≤ most_packed → is_enough rs cs ts ws ks ps bs ≡ true
      → (length P.capacities ≤ length rs)
      × (length P.calendars ≤ length cs)
      × (length P.task_calendars ≤ length ts)
      × (length P.work_times ≤ length ws)
      × (length P.heights ≤ length ks)
      × (length P.pairs ≤ length ps)
      × (length own ≤ length bs)
  has-room P p few e =
      let room = enough _ _ _ _ _ _ _ e in
      let heights : room_count (unpacked P) * task_count (unpacked P) ≤ most_heights =
      mul-le-mul {n₁ = room_count (unpacked P)} {m₁ = task_count (unpacked P)} {n₂ = most_rooms} {m₂ = most_tasks} p.rooms p.tasks
      in (
        omega (arith, p.rooms, room.capacities),
        omega (arith, few, room.calendars),
        omega (arith, p.tasks, room.task_calendars),
        omega (arith, p.tasks, p.work_times, room.work_times),
        omega (arith, p.heights, heights, room.heights),
        omega (arith, p.few_pairs, p.pairs, room.pairs),
        omega (arith, p.tasks, p.boxes, room.boxes),
      )

  -- the plan of a text that no test refuses, as it is copied into the memory lent
  module _ {r : Read} {s : Scan} {n : ℕ} {calendars cells : List ℕ} (held : Holds r s n calendars cells) where
    pub kept : {P : PackedPlan} {boxes rs' cs' ts' ws' ks' ps' bs' : List ℕ}
        → P ≡ stored_plan s.hours s.rooms s.tasks s.pairs (section 0 s.bytes calendars) cells
        → boxes ≡ stored_boxes s.tasks cells
        → is_enough rs cs ts ws ks ps bs ≡ true → None ≡ read_fault true r
        → (rs' ≡ written P.capacities rs)
        × (cs' ≡ written P.calendars cs)
        × (ts' ≡ written P.task_calendars ts)
        × (ws' ≡ written P.work_times ws)
        × (ks' ≡ written P.heights ks)
        × (ps' ≡ written P.pairs ps)
        × (bs' ≡ written boxes bs)
        → end_with (answered (record { hours = s.hours; rooms = s.rooms; calendars = s.calendars; tasks = s.tasks; pairs = s.pairs }))
        rs' cs' ts' ws' ks' ps' bs'
        ≡ read_tested rs cs ts ws ks ps bs r
    unfolding stored plan_in
    kept p b e q left =
        let few = read-passed held q in
        let own = p ∙ plan-held held few.bytes_few few.tasks_few few.pairs_few few.rooms_few in
        let own_boxes = b ∙ boxes-held held few.bytes_few few.tasks_few few.pairs_few few.rooms_few in
        (λ k. end_with
        (answered
        (record { hours = held.hours k; rooms = held.rooms k; calendars = held.calendars k; tasks = held.tasks k; pairs = pair-count held k }))
        ((left.0 ∙ ap (λ (x : PackedPlan). written x.capacities rs) own) k)
        ((left.1 ∙ ap (λ (x : PackedPlan). written x.calendars cs) own) k)
        ((left.2 ∙ ap (λ (x : PackedPlan). written x.task_calendars ts) own) k)
        ((left.3 ∙ ap (λ (x : PackedPlan). written x.work_times ws) own) k)
        ((left.4 ∙ ap (λ (x : PackedPlan). written x.heights ks) own) k)
        ((left.5 ∙ ap (λ (x : PackedPlan). written x.pairs ps) own) k)
        ((left.6 ∙ ap (λ (l : List ℕ). written l bs) own_boxes) k))
        ∙ not-refused rs cs ts ws ks ps bs r e (sym q)
