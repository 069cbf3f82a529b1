-- The week that 01 prints: its text gives its listing, by computation. Assumes nothing.
use mathlib.Core.Path.{◌≡◌, refl}
use Rattle.units.specs.Choice.{on_option, ◌or_else◌, some_of, first_of}
use Rattle.units.specs.Sums.{sum_to, sum_where, count_where}
use Rattle.units.specs.Limits.{within}
use Rattle.units.specs.Limits.{is_range, is_box, with_earliest, with_latest}
use Rattle.units.specs.Extremes.{least, greatest}
use Rattle.units.specs.Cells.{written}
use Rattle.units.specs.Lists.{list_to, joined}
use Rattle.plan.specs.Plan.{first_symbol, calendar_at, calendar_of}
use Rattle.plan.specs.Plan.{room_part, heights_of, height_of, heights_where}
use Rattle.plan.specs.Boxes.{bounds_at, with_bounds}
use Rattle.plan.specs.HourKinds.{is_symbol, is_kind, hours_of}
use Rattle.plan.specs.Packed.{bytes_of, code_at, letter_of, letters_of, letters, code_of, byte_at, packed, is_code, is_packed}
use Rattle.plan.specs.Over.{over_letters}
use Rattle.plan.specs.Refusals.{unless, on_answer}
use Rattle.plan.specs.Faults.{one_for_each_task, is_whole_pairs, is_calendars, symbol_fault, calendars_fault, packing_fault, packed_fault}
use Rattle.plan.specs.Faults.{capacity_fault, counts_fault}
use Rattle.plan.specs.Faults.{height_fault, one_task_fault, task_fault, tasks_fault, pair_fault, pairs_fault, plan_fault}
use Rattle.calendar.specs.Valid.{overtime_ends, valid}
use Rattle.calendar.specs.Triples.{each, over, lasting, starting, valid_triples}
use Rattle.calendar.specs.Rule.{spread, fit_of, rule_of}
use Rattle.steps.specs.Load.{fit_at, must_run, load, others_load, room_excess, excess}
use Rattle.steps.specs.Steps.{kind_of, is_step, on_judgement, on_fit, same_bounds, judge_c, judge_o, judge_l, judge_u, judge_kind, judge}
use Rattle.steps.specs.Filter.{on_admitted, if_admitted, first_of_kind, first_by, filter_order, next_by, after, run_by}
use Rattle.steps.specs.Entry.{one_for_each_step, entry_fault, ending_answer, logged, filter_plan, filter_packed}
use Rattle.text.specs.Fields.{parts, into_first, same}
use Rattle.text.specs.Numbers.{is_digits, decimal, is_plain, is_number, number_of, numbers_of, digits_by, decimal_text}
use Rattle.text.specs.Lines.{number_fields, line_of}
use Rattle.plan_format.specs.Records.{numbers_if, plan_of, cal_of, task_of, by_word, record_of}
use Rattle.plan_format.specs.Text.{comes, is_task_line, with_record, with_line, is_line, with_line_at, read_lines, read_text}
use Rattle.plan_format.specs.Reading.{box_of, heights_in, plan_in, boxes_in, all_of, is_enough, line_fault, read_fault, stored, read_tested}
use Rattle.plan_format.specs.Reading.{read_plan}
use Rattle.listing.specs.Listing.{task_line, task_lines, listing}
use Rattle.text_listing.specs.Program.{empty_memory, plan_listing, read_end, read_listing, listing_of_text}
use Rattle.text_listing.specs.Printed.{bytes, printed_text, printed_listing}

pub printed-week : listing_of_text printed_text ≡ printed_listing
unfolding on_option ◌or_else◌ some_of first_of sum_to sum_where count_where within is_range is_box least greatest written list_to first_symbol
    calendar_at calendar_of room_part heights_of height_of heights_where bounds_at with_bounds is_symbol is_kind unless on_answer one_for_each_task
    is_whole_pairs is_calendars symbol_fault calendars_fault capacity_fault counts_fault height_fault one_task_fault task_fault tasks_fault
    pair_fault pairs_fault plan_fault hours_of overtime_ends valid each over lasting starting valid_triples spread fit_of rule_of fit_at must_run
    load others_load room_excess excess kind_of is_step on_judgement on_fit same_bounds with_earliest with_latest judge_c judge_o judge_l judge_u
    judge_kind judge on_admitted if_admitted first_of_kind first_by filter_order next_by after run_by one_for_each_step entry_fault ending_answer
    logged filter_plan filter_packed bytes_of code_at letter_of letters_of letters code_of byte_at packed is_code is_packed over_letters
    packing_fault packed_fault
    is_line with_line_at parts into_first same is_digits decimal is_plain is_number number_of numbers_of digits_by decimal_text number_fields line_of
    numbers_if plan_of cal_of task_of by_word record_of comes is_task_line with_record with_line read_lines read_text joined box_of heights_in
    plan_in boxes_in all_of is_enough line_fault read_fault stored read_tested read_plan task_line task_lines listing empty_memory plan_listing read_end
    read_listing listing_of_text bytes printed_text printed_listing
printed-week = refl
