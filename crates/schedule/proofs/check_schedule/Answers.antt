use mathlib.Core.Path.{◌≡◌, sym, ap, ◌∙◌}
use mathlib.Core.List.{List}
use Prim.Native.Nat.{ℕ}
use Rattle.std.specs.Prelude.{Some, Result}
use Rattle.std.specs.Result.{IsErrAnd}
use Rattle.std.proofs.lemmas.Result.{err_from_is_err_and}
use Rattle.units.specs.declared.Hour.{Hour}
use Rattle.plan.specs.declared.Refusal.{Refusal}
use Rattle.plan.specs.Over.{PackedPlan}
use Rattle.plan.specs.Refusals.{answered, fault_of}
use Rattle.schedule.specs.Entry.{check_packed, schedule_answer}
use Rattle.schedule.specs.Inner.Memory.{packed_check_fault}
use Rattle.schedule.proofs.Decision.{faultless, accepts, refuses, decides-as, same-schedule}
use Rattle.plan.specs.Lent.{packed_in}
use Rattle.std.specs.Prelude.{Ok}
use Rattle.schedule.proofs.check_schedule.Goals.{After-latest_end}
use Rattle.schedule.proofs.check_schedule.Goals as goal

pub latest_end-requires : goal.latest_end-requires
latest_end-requires c =
    let l = c.in_ok-test_schedule.ensures.lends in
    rw (l.0, l.1, l.2) (faultless _ _ _ (sym c.in_ok-test_schedule.ensures.tests)).feasible

-- the refusal that is handed on is the answer
told : (P : PackedPlan) (boxes schedule : List ℕ) (r : Result Hour Refusal) (d : Refusal) → IsErrAnd r (λ e. e ≡ d)
    → packed_check_fault P boxes schedule ≡ Some (fault_of d) → schedule_answer r ≡ check_packed P boxes schedule
told P boxes schedule r d h q = let p = err_from_is_err_and r h in rw (p.1, p.2) (sym (refuses _ _ _ _ q))

pub returns-in_err-test_schedule-clause-answer : goal.returns-in_err-test_schedule-clause-answer
returns-in_err-test_schedule-clause-answer c = told _ _ _ _ _ c.from_residual.ensures.1 (sym c.in_err-test_schedule.ensures.tests)

pub returns-in_err-test_schedule-clause-exactly : goal.returns-in_err-test_schedule-clause-exactly
returns-in_err-test_schedule-clause-exactly c = decides-as _ _ _ _ (told _ _ _ _ _ c.from_residual.ensures.1 (sym c.in_err-test_schedule.ensures.tests))

pub returns-in_err-test_schedule-clause-letters : goal.returns-in_err-test_schedule-clause-letters
returns-in_err-test_schedule-clause-letters c = same-schedule _ _ _ (told _ _ _ _ _ c.from_residual.ensures.1 (sym c.in_err-test_schedule.ensures.tests))

-- the makespan of what was lent is the answer
ended : (c : After-latest_end) → let a = c.args in schedule_answer (Ok c.latest_end.result) ≡ check_packed (packed_in a.plan.now) a.boxes.now a.schedule.now
ended c =
    let l = c.in_ok-test_schedule.ensures.lends in
    ap answered (rw (l.0, l.2) at c.latest_end.ensures)
    ∙ sym (accepts _ _ _ (sym c.in_ok-test_schedule.ensures.tests))

pub returns-clause-answer : goal.returns-clause-answer
returns-clause-answer c = ended (goal.at.returns-clause-answer c).After-latest_end

pub returns-clause-exactly : goal.returns-clause-exactly
returns-clause-exactly c = decides-as _ _ _ _ (ended (goal.at.returns-clause-exactly c).After-latest_end)

pub returns-clause-letters : goal.returns-clause-letters
returns-clause-letters c = same-schedule _ _ _ (ended (goal.at.returns-clause-letters c).After-latest_end)
