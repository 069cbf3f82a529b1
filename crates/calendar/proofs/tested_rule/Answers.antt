use mathlib.Core.Path.{◌≡◌, sym, ap, ap₂, ◌∙◌}
use mathlib.Core.Bool.{true}
use mathlib.Core.List.{List, [], ◌∷◌}
use Prim.Native.Nat.{ℕ}
use lib.Dec.{eqb}
use lib.ListN.{length}
use borrow.Author.Tests.{ne_eqb}
use Rattle.units.specs.Limits.{duration, is_plan_length}
use Rattle.units.specs.declared.Duration.{Duration}
use Rattle.units.specs.declared.Bounds.{Bounds}
use Rattle.plan.specs.Plan.{Plan, plan}
use Rattle.plan.specs.Boxes.{box_cells, with_bounds}
use Rattle.plan.specs.Refusals.{fault_of, refused, answered, unless}
use Rattle.plan.specs.Packed.{bytes_of, letters, letters_of, is_packed}
use Rattle.plan.specs.Faults.{is_right_size, plan_fault}
use Rattle.plan.specs.Over.{PackedPlan, packed_plan, unpacked, memory_fault}
use Rattle.plan.proofs.Refusals.{none-there, one-there, refused-on}
use Rattle.units.specs.Choice.{◌or_else◌}
use Rattle.calendar.specs.Rule.{witnessed_rule}
use Rattle.calendar.specs.Inner.Ready.{RuleReady}
use Rattle.calendar.specs.Entry.{one_task}
use Rattle.calendar.proofs.Entry.{by-two, by-three, by-test, by-none, asked, ready-packed, codes-packed}
use Rattle.calendar.proofs.tested_rule.Goals as goal

-- H as the constructor gave it
same-size : (h : ℕ) (d : Duration) (bytes : List ℕ) (n : ℕ) → duration h ≡ d → n ≡ bytes_of d.0 → length bytes ≡ n → length bytes ≡ bytes_of h
same-size h d bytes n e f g = g ∙ f ∙ ap (λ (x : Duration). bytes_of x.0) (sym e)

-- the tests that the code asks for
told : (h : ℕ) (d : Duration) (bytes : List ℕ) (p : ℕ) (b : Bounds) (long : is_plan_length h ≡ true) (size : length bytes ≡ bytes_of h) → duration h ≡ d
    → {P : PackedPlan} → P ≡ packed_plan d.0 (0 ∷ []) bytes (0 ∷ []) (p ∷ []) (0 ∷ []) []
    → {cells : List ℕ} → cells ≡ with_bounds (0 ∷ 0 ∷ 0 ∷ 0 ∷ 0 ∷ 0 ∷ []) 0 b
    → memory_fault (is_right_size (unpacked P) cells) P cells
    ≡ (unless (is_packed h bytes) 21 0 or_else plan_fault (one_task (letters_of h bytes) p) (box_cells b))
told h d bytes p b long size e q r =
    asked h bytes p b long size (q ∙ ap (λ (x : Duration). packed_plan x.0 (0 ∷ []) bytes (0 ∷ []) (p ∷ []) (0 ∷ []) []) (sym e)) r

pub returns-in_err-hours : goal.returns-in_err-hours
returns-in_err-hours c =
    let none = none-there _ _ _ c.of_plan.ensures c.in_err-hours.ensures.value in
    refused-on _ _ c.from_residual.ensures.1 ∙ ap (λ r. refused (fault_of r)) none.1 ∙ sym (by-two _ _ _ _ none.0)

pub returns-then-calendar-bytes_of : goal.returns-then-calendar-bytes_of
returns-then-calendar-bytes_of c =
    let hours = one-there _ _ _ c.of_plan.ensures c.in_ok-hours.ensures.value in
    let other = ne_eqb _ _ c.if-calendar-bytes_of.true in
    let bytes = c.bytes_of.ensures.0 ∙ ap (λ (d : Duration). bytes_of d.0) (sym hours.1) in
    sym (by-three _ _ _ _ hours.0 (ap (eqb (length c.args.calendar.now)) (sym bytes) ∙ other))

pub returns-in_err-test_input : goal.returns-in_err-test_input
returns-in_err-test_input c =
    let hours = one-there _ _ _ c.of_plan.ensures c.in_ok-hours.ensures.value in
    let size = same-size _ _ c.args.calendar.now _ hours.1 c.bytes_of.ensures.0 c.if-calendar-bytes_of.false in
    refused-on _ _ c.from_residual-in_err-test_input.ensures.1
    ∙ sym (by-test _ _ _ _ hours.0 size _ (sym (c.in_err-test_input.ensures
    ∙ told _ _ _ _ _ hours.0 size hours.1 c.new-plan.ensures c.put_bounds.ensures)))

pub rule-requires : goal.rule-requires
rule-requires c =
    let hours = one-there _ _ _ c.of_plan.ensures c.in_ok-hours.ensures.value in
    let size = same-size _ _ c.args.calendar.now _ hours.1 c.bytes_of.ensures.0 c.if-calendar-bytes_of.false in
    rw (← hours.1) (ready-packed _ _ _ _ hours.0 size (sym (c.in_ok-test_input.ensures
    ∙ told _ _ _ _ _ hours.0 size hours.1 c.new-plan.ensures c.put_bounds.ensures)))

pub returns : goal.returns
returns c =
    let hours = one-there _ _ _ c.of_plan.ensures c.in_ok-hours.ensures.value in
    let size = same-size _ _ c.args.calendar.now _ hours.1 c.bytes_of.ensures.0 c.if-calendar-bytes_of.false in
    ap answered (c.rule.ensures ∙ ap (λ (d : Duration). witnessed_rule (letters_of d.0 c.args.calendar.now) c.args.work_time.0 c.args.b) (sym hours.1))
    ∙ sym (by-none _ _ _ _ hours.0 size (sym (c.in_ok-test_input.ensures
    ∙ told _ _ _ _ _ hours.0 size hours.1 c.new-plan.ensures c.put_bounds.ensures)))

pub invariant_of-calendar : goal.invariant_of-calendar
invariant_of-calendar c =
    let hours = one-there _ _ _ c.of_plan.ensures c.in_ok-hours.ensures.value in
    let size = same-size _ _ c.args.calendar.now _ hours.1 c.bytes_of.ensures.0 c.if-calendar-bytes_of.false in
    let none = sym (c.in_ok-test_input.ensures ∙ told _ _ _ _ _ hours.0 size hours.1 c.new-plan.ensures c.put_bounds.ensures) in
    rw (← hours.1) (record { packed = (size, codes-packed _ _ _ _ hours.0 size none) })
