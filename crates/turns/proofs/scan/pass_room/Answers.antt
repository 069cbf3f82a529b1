use mathlib.Core.Path.{◌∙◌}
use Rattle.units.proofs.Hours.{lt-cmp, not-before}
use Rattle.turns.proofs.Scanning.{quiet-before, quiet-within, quiet-after}
use Rattle.turns.proofs.scan.pass_room.Goals as goal

pub returns-then-passed-part : goal.returns-then-passed-part
returns-then-passed-part c =
    let fits = not-before c.args.capacity.0 c.args.height.0 (c.lt.ensures ∙ lt-cmp _ _) c.if-lt.false in
    quiet-before c.args.loads.now c.args.w _ _ _ _ _ _ _ _ fits c.requires.0 c.min.ensures c.max-part.ensures c.min-2.ensures c.max-after.ensures
    _ c.pass_stretch-passed.ensures

pub returns-then-passed-after : goal.returns-then-passed-after
returns-then-passed-after c =
    let fits = not-before c.args.capacity.0 c.args.height.0 (c.lt.ensures ∙ lt-cmp _ _) c.if-lt.false in
    quiet-within c.args.loads.now c.args.w _ _ _ _ _ _ _ _ fits c.requires.0 c.min.ensures c.max-part.ensures c.min-2.ensures c.max-after.ensures
    _ c.pass_stretch-passed.ensures c.if-passed-part.false _ c.pass_stretch-passed-2.ensures

pub returns : goal.returns
returns c =
    let fits = not-before c.args.capacity.0 c.args.height.0 (c.lt.ensures ∙ lt-cmp _ _) c.if-lt.false in
    quiet-after c.args.loads.now c.args.w _ _ _ _ _ _ _ _ fits c.requires.0 c.min.ensures c.max-part.ensures c.min-2.ensures c.max-after.ensures
    _ c.pass_stretch-passed.ensures c.if-passed-part.false _ c.pass_stretch-passed-2.ensures c.if-passed-after.false _ c.pass_stretch.ensures
