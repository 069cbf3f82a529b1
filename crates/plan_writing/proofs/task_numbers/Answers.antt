use mathlib.Core.List.{List, [], ◌∷◌}
use mathlib.Core.Path.{◌≡◌, refl, ap, ◌∙◌}
use Prim.Native.Nat.{ℕ, ◌≤◌, ◌<◌}
use native.Mathlib.Omega.{arith}
use lib.ListN.{length, get_or, take, set, length-set}
use Rattle.std.proofs.lemmas.Grind.{common_steps}
use Rattle.units.specs.Lists.{list_to}
use Rattle.plan.specs.Plan.{heights_of}
use Rattle.plan.proofs.Passed.{room-length}
use Rattle.plan_format.specs.Writing.{heights_at}
use Rattle.plan_writing.proofs.Numbers.{height-next, all-numbers}
use Rattle.plan_writing.proofs.task_numbers.Goals as goal

two-first : (numbers : List ℕ) (a b : ℕ) → 2 ≤ length numbers → take 2 (set (set numbers 0 a) 1 b) ≡ a ∷ b ∷ []
two-first [] a b l = absurd (omega arith)
two-first (x ∷ []) a b l = absurd (omega arith)
two-first (x ∷ y ∷ ns) a b l = refl

pub loop-room-init : goal.loop-room-init
unfolding heights_at list_to
loop-room-init c = (simp length-set (omega arith), two-first c.args.numbers.now _ _ (omega arith))

pub bounds-heights_of-i : goal.bounds-heights_of-i
unfolding heights_of
bounds-heights_of-i c =
    let room : c.loop-room.room < length c.args.tested.now.plan.now.capacities.now = omega (arith, c.loop-room-test.true, c.rooms-room-end.ensures) in
    omega (arith, c.requires, ap length c.heights_of.ensures ∙ room-length _ _ c.args.tested.now.plan.now.heights.now c.args.tested.now.passed.heights _ room)

pub loop-room-preserved : goal.loop-room-preserved
unfolding heights_of
loop-room-preserved c =
    let i = c.args.i in
    let shifts = c.args.tested.now.plan.now.shifts in (
      simp length-set c.loop-room.invariant.0,
      height-next (get_or shifts.task_calendars.now i 0 ∷ get_or shifts.work_times.now i 0 ∷ []) _ 2 c.loop-room.room _
          c.args.tested.now.plan.now.heights.now i
          (omega (arith, c.args.tested.now.passed.rooms, c.loop-room.invariant.0, c.loop-room-test.true, c.rooms-room-end.ensures))
          (ap (λ (l : List ℕ). get_or l i 0) c.heights_of.ensures)
          c.loop-room.invariant.1,
    )

pub returns : goal.returns
returns c =
    let all : c.loop-room.room ≡ length c.args.tested.now.plan.now.capacities.now =
    omega (arith, c.loop-room.auto.room-end, c.loop-room-test.false, c.rooms-room-end.ensures) in
    let six : c.map-bounds.result ≡ c.box_cells.result = grind (arith, common_steps) in
    all-numbers _ _ _ _ _ _ _ _ c.rooms.ensures (omega (arith, c.args.tested.now.passed.rooms, c.loop-room.invariant.0)) (rw all at c.loop-room.invariant.1)
    c.bounds_at-b.ensures
    (six ∙ c.box_cells.ensures)
    c.put_all-end.ensures
