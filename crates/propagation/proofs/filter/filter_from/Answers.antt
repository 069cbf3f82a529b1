use mathlib.Core.Path.{◌≡◌, refl, sym, ap, ◌∙◌}
use Rattle.std.specs.Prelude.{Result}
use Rattle.std.specs.Result.{IsErrAnd}
use Rattle.std.proofs.lemmas.Result.{err_from_is_err_and}
use Rattle.plan.specs.declared.Refusal.{Refusal}
use Rattle.plan.specs.Refusals.{fault_of}
use Rattle.steps.specs.declared.Filtered.{Filtered}
use Rattle.steps.specs.Entry.{FilterAnswer, refused_by, filter_answer, filter_end}
use Rattle.steps.proofs.Entry.{passes, filter-refuses, filter_runs}
use Rattle.propagation.proofs.filter.filter_from.Goals as goal

-- the refusal that is handed on is the answer
told : (d : Refusal) (r : Result Filtered Refusal) → IsErrAnd r (λ e. e ≡ d) → filter_answer r ≡ refused_by (fault_of d)
told d r h = let p = err_from_is_err_and r h in rw (p.1, p.2) refl

pub returns-in_err-test_entry : goal.returns-in_err-test_entry
returns-in_err-test_entry c =
    ap (λ (a : FilterAnswer). filter_end a c.args.boxes.now c.args.log_kinds.now c.args.log_tasks.now c.args.log_hours.now)
    (told _ _ c.from_residual.ensures.1)
    ∙ filter-refuses _ _ _ _ _ _ _ (sym c.in_err-test_entry.ensures)

pub load_count-count-requires : goal.load_count-count-requires
load_count-count-requires c = let passed = (passes _ _ _ _ _ (sym c.in_ok-test_entry.ensures)).0 in (passed.rooms, passed.hours)

pub run_with-filtered-requires-clause-passed : goal.run_with-filtered-requires-clause-passed
run_with-filtered-requires-clause-passed c = passes _ _ _ _ _ (sym c.in_ok-test_entry.ensures)

pub run_with-requires-clause-passed : goal.run_with-requires-clause-passed
run_with-requires-clause-passed c = passes _ _ _ _ _ (sym c.in_ok-test_entry.ensures)

pub run_with-requires-else-count-le-YEAR_LOADS-clause-passed : goal.run_with-requires-else-count-le-YEAR_LOADS-clause-passed
run_with-requires-else-count-le-YEAR_LOADS-clause-passed c = passes _ _ _ _ _ (sym c.in_ok-test_entry.ensures)

pub returns-then-count-le-FEW_LOADS : goal.returns-then-count-le-FEW_LOADS
returns-then-count-le-FEW_LOADS c = filter_runs _ _ _ _ _ _ (sym c.in_ok-test_entry.ensures) _ c.run_with-filtered.ensures

pub returns-then-count-le-YEAR_LOADS : goal.returns-then-count-le-YEAR_LOADS
returns-then-count-le-YEAR_LOADS c = filter_runs _ _ _ _ _ _ (sym c.in_ok-test_entry.ensures) _ c.run_with.ensures

pub returns-else-count-le-YEAR_LOADS : goal.returns-else-count-le-YEAR_LOADS
returns-else-count-le-YEAR_LOADS c = filter_runs _ _ _ _ _ _ (sym c.in_ok-test_entry.ensures) _ c.run_with-else-count-le-YEAR_LOADS.ensures
