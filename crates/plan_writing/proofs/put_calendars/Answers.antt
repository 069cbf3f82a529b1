use Prim.Native.Nat.{◌<◌}
use native.Mathlib.Omega.{arith}
use Rattle.text.proofs.Puts.{put-none}
use Rattle.plan.specs.Plan.{calendar_count}
use Rattle.plan.specs.Lent.{plan_in}
use Rattle.plan.proofs.Passed.{calendar-in}
use Rattle.plan_format.specs.Writing.{cal_records}
use Rattle.plan_format.proofs.Growing.{text-none, text-put, text-room, cal-line}
use Rattle.plan_writing.proofs.put_calendars.Goals as goal

pub loop-k-init : goal.loop-k-init
unfolding cal_records
loop-k-init c = rw (text-none _) (put-none _ _)

pub calendar_at-requires : goal.calendar_at-requires
calendar_at-requires c =
    let passed = c.args.tested.now.passed in
    let few : c.loop-k.k < calendar_count (plan_in c.args.tested.now.plan.now).shifts = omega (arith, c.loop-k-test.true, c.calendar_count-k-end.ensures) in
    record {
      some_hours = passed.some_hours;
      within = calendar-in (plan_in c.args.tested.now.plan.now).shifts c.loop-k.k few;
      symbols = passed.symbols;
    }

pub put_calendar-end-requires : goal.put_calendar-end-requires
unfolding cal_records
put_calendar-end-requires c =
    text-room _ _ (cal-line c.calendar_at.ensures) (omega (arith, c.loop-k-test.true, c.calendar_count-k-end.ensures)) c.requires c.loop-k.invariant

pub loop-k-preserved : goal.loop-k-preserved
unfolding cal_records
loop-k-preserved c =
    text-put _ _ (cal-line c.calendar_at.ensures) (omega (arith, c.requires)) c.loop-k.invariant c.put_calendar-end.ensures
