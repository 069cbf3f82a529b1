use mathlib.Core.Path.{refl, sym, ap, ◌∙◌}
use Prim.Native.Nat.{◌-◌, ◌≤◌}
use native.Mathlib.Omega.{arith}
use Rattle.plan.specs.HourKinds.{closed}
use Rattle.stretches.proofs.Coded.{kind-by, without-by, has-first}
use Rattle.stretches.proofs.Stretches.{counts-few}
use Rattle.plan.specs.Calendars.{letters_in}
use Rattle.calendar.proofs.Windows.{unmoved}
use Rattle.calendar.proofs.Starts.{none-left}
use Rattle.calendar.proofs.Finding.{Added, found-first, found-last, reaches, precedes, none-added, start-added, next-found}
use Rattle.calendar.proofs.add_from.Goals as goal
use Rattle.calendar.proofs.add_from.Goals.{Joined-not-is, then-not-is+in-Some, else-not-is}

pub loop-s-init : goal.loop-s-init
loop-s-init c = found-first _ _ _ _ _ c.requires.nothing c.requires.short.0 c.requires.short.1 c.requires.long.0 c.requires.long.1

-- none that starts at s or later is valid
pub returns-in_default : goal.returns-in_default
returns-in_default c =
    let f = c.loop-s.invariant in
    unmoved _ (none-left c.requires.ready (omega (arith, c.loop-s-test.true)) f.carried _ refl (c.shortest_from.ensures.none c.in_default.is)) ∙ f.is

pub add_start-requires-clause-reaches : goal.add_start-requires-clause-reaches
add_start-requires-clause-reaches c =
    let (is-short, ends, short-hours) = c.shortest_from.ensures.found _ c.in-Some.is in
    let (is-long, long-hours) = c.lengthen.ensures in
    rw (c.stretch_from.ensures, c.stretch_from-then-not-is.ensures)
    (reaches c.requires.ready (omega (arith, c.loop-s-test.true)) c.loop-s.invariant _ _ is-short is-long short-hours long-hours ends)

pub add_start-requires-clause-before : goal.add_start-requires-clause-before
add_start-requires-clause-before c =
    let (is-short, ends, short-hours) = c.shortest_from.ensures.found _ c.in-Some.is in
    let (is-long, long-hours) = c.lengthen.ensures in
    rw (c.stretch_from.ensures, c.stretch_from-then-not-is.ensures)
    (precedes c.requires.ready (omega (arith, c.loop-s-test.true)) c.loop-s.invariant _ _ is-short is-long short-hours long-hours)

-- with the triples that start at s
added : (c : Joined-not-is) → Added (letters_in c.args.task.now.calendar) c.args.task.now.work_time.0 c.args.task.now.bounds c.loop-s.s
    c.if-not-is.shortest c.if-not-is.longest c.if-not-is.found
added c =
    let cal = letters_in c.args.task.now.calendar in
    let inside : c.loop-s.s ≤ c.args.task.now.bounds.latest.0 = omega (arith, c.loop-s-test.true) in
    elim c.if-not-is.branch [
      | then-not-is+in-Some w ↦
          let (is-short, ends, short-hours) = w.shortest_from.ensures.found _ w.in-Some.is in
          let (is-long, long-hours) = w.lengthen.ensures in
          let after = rw (w.stretch_from.ensures, w.stretch_from-then-not-is.ensures) at w.add_start.ensures.after in
          rw (w.found-is, w.shortest-is, w.longest-is)
          (start-added c.requires.ready inside c.loop-s.invariant _ _ is-short is-long short-hours long-hours ends _ w.add_start.ensures.is after)
      | else-not-is w ↦
          rw (w.found-is, w.shortest-is, w.longest-is)
          (none-added c.requires.ready inside c.loop-s.invariant
          (sym (kind-by cal c.loop-s.s c.code_at-code.ensures closed) ∙ sym c.is.ensures ∙ w.if-not-is.false))
    ]

pub without_start-shortest-requires : goal.without_start-shortest-requires
without_start-shortest-requires c = (
  omega (arith, c.loop-s-test.true, c.requires.ready.latest, c.requires.ready.short),
  has-first c.code_at-code.result _ _ c.code_at-code.ensures (added c).is_shortest,
)

pub without_start-longest-requires : goal.without_start-longest-requires
without_start-longest-requires c = (
  omega (arith, c.loop-s-test.true, c.requires.ready.latest, c.requires.ready.short),
  has-first c.code_at-code.result _ _ c.code_at-code.ensures (added (goal.at.without_start-longest-requires c).Joined-not-is).is_longest,
)

pub loop-s-preserved : goal.loop-s-preserved
loop-s-preserved c =
    let by = without-by (letters_in c.args.task.now.calendar) c.loop-s.s c.code_at-code.ensures in
    rw (c.without_start-shortest.ensures ∙ by _, c.without_start-longest.ensures ∙ by _) (next-found c.requires.ready (added (goal.at.loop-s-preserved c).Joined-not-is))

pub returns : goal.returns
returns c = found-last _ _ _ (omega (arith, c.loop-s-test.false)) c.loop-s.invariant

pub stretch_from-requires : goal.stretch_from-requires
stretch_from-requires c =
    let short = (c.shortest_from.ensures.found _ c.in-Some.is).0 in
    (short.from, (counts-few short).0)

pub stretch_from-requires-then-not-is : goal.stretch_from-requires-then-not-is
stretch_from-requires-then-not-is c =
    let long = c.lengthen.ensures.0 in
    (long.from, (counts-few long).0)

pub add_start-requires-clause-open_start : goal.add_start-requires-clause-open_start
add_start-requires-clause-open_start c =
    let cal = letters_in c.args.task.now.calendar in
    sym (kind-by cal c.loop-s.s c.code_at-code.ensures closed) ∙ sym c.is.ensures ∙ c.if-not-is.true
