use mathlib.Core.Path.{◌≡◌, refl, sym, ap, ◌∙◌}
use mathlib.Core.Bool.{Bool, true, false}
use mathlib.Core.List.{List}
use Prim.Native.Nat.{ℕ, ◌*◌}
use lib.Dec.{eqb}
use lib.ListN.{length}
use Rattle.units.specs.Choice.{◌and◌, ◌or_else◌, first_of}
use Rattle.units.proofs.Choices.{not_right, else-none, else-some}
use Rattle.plan.specs.Plan.{task_count, pair_count}
use Rattle.plan.specs.Lent.{packed_in, plan_in}
use Rattle.plan.specs.Faults.{is_right_size}
use Rattle.plan.specs.Over.{PackedPlan, unpacked, memory_fault}
use Rattle.plan.proofs.Refusals.{refuse, handed-on}
use Rattle.calendar.specs.Triples.{triple_numbers}
use Rattle.schedule.specs.Schedule.{triple_at}
use Rattle.schedule.specs.Entry.{is_sized, order_fault, schedule_fault}
use Rattle.schedule.specs.Inner.Memory.{packed_check_fault}
use Rattle.schedule.proofs.test_schedule.Goals.{In_ok-tested, In_ok-test_hours}
use Rattle.schedule.proofs.test_schedule.Goals as goal

-- what the code found of the schedule's length
size-is : (schedule : List ℕ) {tasks n : ℕ} {r b : Bool} → r ≡ eqb (length schedule) (triple_numbers * n) → n ≡ tasks → r ≡ b
    → is_sized tasks schedule ≡ b
unfolding is_sized
size-is schedule e f g = rw (← f) (sym e ∙ g)

-- with a triple for each task the plan's tests come next, and then the schedule's
by-input : (P : PackedPlan) (boxes schedule : List ℕ) → is_sized (task_count (unpacked P)) schedule ≡ true
    → packed_check_fault P boxes schedule
    ≡ (memory_fault (is_right_size (unpacked P) boxes) P boxes or_else schedule_fault (unpacked P) boxes (triple_at schedule))
unfolding packed_check_fault
by-input P boxes schedule e =
    ap (λ (b : Bool). memory_fault b P boxes or_else schedule_fault (unpacked P) boxes (triple_at schedule))
    (and-first (is_right_size (unpacked P) boxes) _ e)
  where
    and-first : (a b : Bool) → b ≡ true → (a and b) ≡ a
    and-first true b e = e
    and-first false b e = refl

pub returns-then-not-is_for_each-clause-tests : goal.returns-then-not-is_for_each-clause-tests
unfolding packed_check_fault memory_fault
returns-then-not-is_for_each-clause-tests c =
    sym
    (else-some _ _ _ (refuse _ 31 0 _ (not_right _ _ (size-is _ c.is_for_each.ensures c.tasks.ensures c.if-not-is_for_each.true))))

pub returns-in_err-tested-clause-tests : goal.returns-in_err-tested-clause-tests
returns-in_err-tested-clause-tests c =
    let sized = size-is _ c.is_for_each.ensures c.tasks.ensures c.if-not-is_for_each.false in
    handed-on _ _ c.from_residual.ensures.1 ∙ sym (by-input _ _ _ sized ∙ else-some _ _ _ (sym c.in_err-tested.ensures.tests))

-- past the plan's tests those of the schedule decide
past-input : (c : In_ok-tested) → let P = plan_in c.args.plan.now in
    packed_check_fault (packed_in c.args.plan.now) c.args.boxes.now c.args.schedule.now ≡ schedule_fault P c.args.boxes.now (triple_at c.args.schedule.now)
past-input c =
    let sized = size-is _ c.is_for_each.ensures c.tasks.ensures c.if-not-is_for_each.false in
    by-input _ _ _ sized ∙ else-none _ _ (sym c.in_ok-tested.ensures.tests)

pub returns-in_err-test_triples-clause-tests : goal.returns-in_err-test_triples-clause-tests
unfolding schedule_fault
returns-in_err-test_triples-clause-tests c =
    let lent = c.in_ok-tested.ensures.lends in
    handed-on _ _ c.from_residual-in_err-test_triples.ensures.1
    ∙ sym
    (past-input (goal.at.returns-in_err-test_triples-clause-tests c).In_ok-tested
    ∙ else-some _ _ _ (sym (rw (lent.0, lent.1) at c.in_err-test_triples.ensures)))

pub returns-in_err-test_hours-clause-tests : goal.returns-in_err-test_hours-clause-tests
unfolding schedule_fault
returns-in_err-test_hours-clause-tests c =
    let lent = c.in_ok-tested.ensures.lends in
    handed-on _ _ c.from_residual-in_err-test_hours.ensures.1
    ∙ sym
    (past-input (goal.at.returns-in_err-test_hours-clause-tests c).In_ok-tested
    ∙ else-none _ _ (sym (rw (lent.0, lent.1) at c.in_ok-test_triples.ensures))
    ∙ else-some _ _ _ (sym (rw lent.0 at c.in_err-test_hours.ensures)))

-- past the hours the pairs decide
past-hours : (c : In_ok-test_hours) → let P = plan_in c.args.plan.now in
    packed_check_fault (packed_in c.args.plan.now) c.args.boxes.now c.args.schedule.now
    ≡ first_of (order_fault P (triple_at c.args.schedule.now)) (pair_count P)
unfolding schedule_fault
past-hours c =
    let lent = c.in_ok-tested.ensures.lends in
    past-input (goal.at.In_ok-test_hours c).In_ok-tested
    ∙ else-none _ _ (sym (rw (lent.0, lent.1) at c.in_ok-test_triples.ensures))
    ∙ else-none _ _ (sym (rw lent.0 at c.in_ok-test_hours.ensures))

pub returns-in_err-test_pairs-clause-tests : goal.returns-in_err-test_pairs-clause-tests
returns-in_err-test_pairs-clause-tests c =
    let lent = c.in_ok-tested.ensures.lends in
    handed-on _ _ c.from_residual-in_err-test_pairs.ensures.1
    ∙ (rw lent.0 at c.in_err-test_pairs.ensures)
    ∙ sym (past-hours (goal.at.returns-in_err-test_pairs-clause-tests c).In_ok-test_hours)

pub returns-clause-tests : goal.returns-clause-tests
returns-clause-tests c =
    let lent = c.in_ok-tested.ensures.lends in
    (rw lent.0 at c.in_ok-test_pairs.ensures) ∙ sym (past-hours (goal.at.returns-clause-tests c).In_ok-test_hours)
