use mathlib.Core.Path.{◌∙◌}
use native.Mathlib.Omega.{arith}
use Rattle.units.proofs.Hours.{le-cmp, not-at-most}
use Rattle.stretches.proofs.Reach.without_start.Goals as goal

pub overflow_sub-result : goal.overflow_sub-result
overflow_sub-result c =
    let later = not-at-most _ _ (c.le.ensures ∙ le-cmp c.args.self.end.0 c.args.s.0) c.if-le.false in
    omega (arith, c.from.ensures, c.regular_count.ensures.0, (c.requires.1 (omega (arith, later))).0)

pub overflow_sub-result-2 : goal.overflow_sub-result-2
overflow_sub-result-2 c =
    let later = not-at-most _ _ (c.le.ensures ∙ le-cmp c.args.self.end.0 c.args.s.0) c.if-le.false in
    omega (arith, c.overtime_count.ensures.0, (c.requires.1 (omega (arith, later))).1)
