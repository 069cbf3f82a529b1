-- The starred weeks of 01: the definitions give each outcome, by computation. Assumes nothing.
use mathlib.Core.Path.{◌≡◌, refl}
use mathlib.Core.List.{map}
use Rattle.units.specs.Choice.{on_option, ◌or_else◌, some_of, first_of}
use Rattle.units.specs.Sums.{sum_to, sum_where, count_where}
use Rattle.units.specs.Limits.{within}
use Rattle.units.specs.Limits.{is_range, is_box, with_earliest, with_latest}
use Rattle.plan.specs.Plan.{first_symbol, calendar_at, calendar_of}
use Rattle.plan.specs.Plan.{room_part, heights_of, height_of, heights_where}
use Rattle.plan.specs.Boxes.{bounds_at, with_bounds}
use Rattle.plan.specs.Refusals.{unless, answer_unless}
use Rattle.plan.specs.Faults.{one_for_each_task, is_whole_pairs, is_calendars, symbol_fault, calendars_fault}
use Rattle.plan.specs.Faults.{capacity_fault, counts_fault, height_fault, one_task_fault, task_fault, tasks_fault, pair_fault, pairs_fault, plan_fault}
use Rattle.plan.specs.Faults.{input_fault}
use Rattle.calendar.specs.Valid.{overtime_ends, valid}
use Rattle.calendar.specs.Triples.{each, over, lasting, starting, valid_triples}
use Rattle.calendar.specs.Rule.{spread, fit_of, rule_of, firsts, witnessed_of, witnessed_rule}
use Rattle.calendar.specs.Entry.{one_task, calendar_rule}
use Rattle.steps.specs.Load.{fit_at, must_run, load, others_load, room_excess, excess}
use Rattle.steps.specs.Steps.{kind_of, is_step, on_judgement, on_fit, same_bounds, judge_c, judge_o, judge_l, judge_u, judge_kind, judge}
use Rattle.steps.specs.Filter.{on_admitted, if_admitted, first_of_kind, first_by, filter_order, next_by, after, run_by}
use Rattle.units.specs.Extremes.{least, greatest, better_of, first_best}
use Rattle.plan.specs.HourKinds.{is_symbol, is_kind, hours_of}
use Rattle.steps.specs.Entry.{step_at, steps_from, one_for_each_step, entry_fault, ending_answer, logged, filter_plan, left_by, filter_records}
use Rattle.steps.specs.Weeks.{weeks, left, outcome_of, hours_held}
use Rattle.units.specs.Cells.{written}

pub weeks-come-out : map (λ w. outcome_of w.week) weeks ≡ map (λ w. w.outcome) weeks
unfolding on_option ◌or_else◌ some_of first_of sum_to sum_where count_where within is_range is_box first_symbol calendar_at calendar_of room_part
    heights_of height_of heights_where bounds_at with_bounds unless answer_unless one_for_each_task is_whole_pairs is_calendars is_symbol
    symbol_fault calendars_fault capacity_fault counts_fault height_fault one_task_fault task_fault tasks_fault pair_fault pairs_fault plan_fault
    input_fault is_kind hours_of overtime_ends valid each over lasting starting valid_triples least greatest better_of first_best spread fit_of
    rule_of firsts witnessed_of witnessed_rule one_task calendar_rule fit_at must_run load others_load room_excess excess kind_of is_step
    on_judgement on_fit same_bounds with_earliest with_latest judge_c judge_o judge_l judge_u judge_kind judge on_admitted if_admitted first_of_kind
    first_by filter_order next_by after run_by written step_at steps_from one_for_each_step entry_fault ending_answer logged filter_plan left_by
    filter_records weeks left outcome_of hours_held
weeks-come-out = refl
