use mathlib.Core.Path.{◌≡◌, sym, ap₂, ◌∙◌}
use mathlib.Core.Bool.{true}
use Prim.Native.Nat.{◌≤◌}
use Rattle.std.proofs.Common.{rules}
use borrow.Author.Tests.{leb-true, leb-false}
use Rattle.units.specs.Limits.{most_rooms, most_tasks, most_pairs}
use Rattle.units.proofs.Choices.{neither}
use Rattle.units.proofs.Ranges.{to-most}
use Rattle.plan.specs.Faults.{is_right_size}
use Rattle.plan.specs.Over.{unpacked, packed_plan_fault}
use Rattle.plan.specs.Lent.{packed_in, plan_in}
use Rattle.plan.proofs.Refusals.{handed-on}
use Rattle.plan.proofs.Passed.{passed}
use Rattle.plan_format.specs.Text.{Read}
use Rattle.plan_format.specs.Reading.{read_fault}
use Rattle.plan_lines.specs.Inner.Scanning.{section, most_read, Holds}
use Rattle.plan_text.proofs.Judging.{parts-each, lines-refuse, stored-bytes, read-plan, read-too-many, read-too-many-pairs, read-no-rooms}
use Rattle.plan_text.proofs.tested_plan.Goals.{After-stored_boxes}
use Rattle.plan_text.proofs.tested_plan.Goals as goal

pub returns-in_err-test_lines-clause-tests : goal.returns-in_err-test_lines-clause-tests
returns-in_err-test_lines-clause-tests c =
    λ r held. handed-on _ _ c.from_residual.ensures.1 ∙ lines-refuse held _ (c.in_err-test_lines.ensures r _ _ held)

pub shared_ref_as_front-calendars : goal.shared_ref_as_front-calendars
shared_ref_as_front-calendars c = stored-bytes c.requires.held (c.in_ok-test_lines.ensures _ _ _ c.requires.held)

pub returns-then-not-is_count-clause-tests : goal.returns-then-not-is_count-clause-tests
returns-then-not-is_count-clause-tests c =
    λ r held.
    let pass = c.in_ok-test_lines.ensures r _ _ held in
    read-too-many held pass (leb-false _ _ (sym c.is_count.ensures ∙ c.if-not-is_count.true))

pub returns-then-not-is_count-2-clause-tests : goal.returns-then-not-is_count-2-clause-tests
returns-then-not-is_count-2-clause-tests c =
    λ r held.
    let pass = c.in_ok-test_lines.ensures r _ _ held in
    let tasks = leb-true _ _ (sym c.is_count.ensures ∙ c.if-not-is_count.false) in
    read-too-many-pairs held pass tasks (leb-false _ _ (sym c.is_count-2.ensures ∙ c.if-not-is_count-2.true))

pub returns-then-not-is_count-3-clause-tests : goal.returns-then-not-is_count-3-clause-tests
returns-then-not-is_count-3-clause-tests c =
    λ r held.
    let pass = c.in_ok-test_lines.ensures r _ _ held in
    let tasks = leb-true _ _ (sym c.is_count.ensures ∙ c.if-not-is_count.false) in
    let pairs = leb-true _ _ (sym c.is_count-2.ensures ∙ c.if-not-is_count-2.false) in
    read-no-rooms held pass tasks pairs (sym c.is_count-3.ensures ∙ c.if-not-is_count-3.true)

pub stored_plan-plan-requires : goal.stored_plan-plan-requires
stored_plan-plan-requires c =
    let rooms = to-most 1 most_rooms _ (sym c.is_count-3.ensures ∙ c.if-not-is_count-3.false) in
    let tasks = leb-true _ _ (sym c.is_count.ensures ∙ c.if-not-is_count.false) in
    let pairs = leb-true _ _ (sym c.is_count-2.ensures ∙ c.if-not-is_count-2.false) in
    (rooms, tasks, pairs)

-- the plan that is stored, of few rooms, few tasks and few pairs
module _ (c : After-stored_boxes) where
  rooms : c.args.scan.rooms ≤ most_rooms
  rooms = to-most 1 most_rooms _ (sym c.is_count-3.ensures ∙ c.if-not-is_count-3.false)

  tasks : c.args.scan.tasks ≤ most_tasks
  tasks = leb-true _ _ (sym c.is_count.ensures ∙ c.if-not-is_count.false)

  pairs : c.args.scan.pairs ≤ most_pairs
  pairs = leb-true _ _ (sym c.is_count-2.ensures ∙ c.if-not-is_count-2.false)

  right-size : is_right_size (plan_in c.stored_plan-plan.result) c.stored_boxes.result.now ≡ true
  right-size =
      ap₂ (λ P bs. is_right_size (unpacked P) bs) c.stored_plan-plan.ensures c.stored_boxes.ensures
      ∙ parts-each _ _ c.args.store.now.cells rooms tasks (search rules) c.args.scan.hours c.args.scan.pairs
      (section 0 c.args.scan.bytes c.args.store.now.calendars) pairs

  fault : (r : Read) → Holds r c.args.scan most_read c.args.store.now.calendars c.args.store.now.cells
      → packed_plan_fault (packed_in c.stored_plan-plan.result) c.stored_boxes.result.now ≡ read_fault true r
  fault r held =
      ap₂ packed_plan_fault c.stored_plan-plan.ensures c.stored_boxes.ensures
      ∙ read-plan held (c.in_ok-test_lines.ensures r _ _ held) tasks pairs rooms

pub test_plan-requires : goal.test_plan-requires
test_plan-requires c = right-size c

pub returns-in_err-test_plan-clause-tests : goal.returns-in_err-test_plan-clause-tests
returns-in_err-test_plan-clause-tests c =
    λ r held.
    let before = (goal.at.returns-in_err-test_plan-clause-tests c).After-stored_boxes in
    handed-on _ _ c.from_residual-in_err-test_plan.ensures.1 ∙ c.in_err-test_plan.ensures ∙ fault before r held

pub returns-clause-tests : goal.returns-clause-tests
returns-clause-tests c = λ r held. c.in_ok-test_plan.ensures ∙ fault (goal.at.returns-clause-tests c).After-stored_boxes r held

pub returns-clause-passes : goal.returns-clause-passes
unfolding packed_plan_fault
returns-clause-passes c =
    let right = right-size (goal.at.returns-clause-passes c).After-stored_boxes in
    rw (← c.stored_boxes.ensures) (passed _ _ right (neither _ _ (sym c.in_ok-test_plan.ensures)).1)
