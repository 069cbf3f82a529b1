use Rattle.std.specs.Prelude.{if◌then◌else◌}
use mathlib.Core.Path.{◌≡◌, sym, ap, ◌∙◌}
use mathlib.Core.Bool.{true, false, not}
use Prim.Native.Nat.{◌+◌}
use lib.Dec.{eqb}
use Rattle.units.specs.Limits.{hour}
use Rattle.units.proofs.Choices.{if-true, if-false}
use Rattle.plan.specs.HourKinds.{regular, closed}
use Rattle.plan.specs.Packed.{letter_of}
use Rattle.stretches.proofs.Coded.{count-some, count-none}
use Rattle.stretches.proofs.Reach.with_next.Goals as goal
use Rattle.stretches.proofs.Reach.with_next.Goals.{then-is_open, else-is_open, then-regular-gt0, else-regular-gt0}

pub returns : goal.returns
returns c =
    let x = letter_of c.args.code.number in
    let open_end : c.if-is_open.result ≡ (if not (eqb x closed) then hour (c.args.self.end.0 + 1) else c.args.self.open_end) =
    elim c.if-is_open.branch [
      | then-is_open w ↦ w.result-is ∙ sym (if-true _ _ _ (ap not (sym c.is-is_open.ensures ∙ w.if-is_open.true)))
      | else-is_open w ↦ w.result-is ∙ sym (if-false _ _ _ (ap not (sym c.is-is_open.ensures ∙ w.if-is_open.false)))
    ] in
    let regular_end : c.if-regular-gt0.result ≡ (if eqb x regular then hour (c.args.self.end.0 + 1) else c.args.self.regular_end) =
    elim c.if-regular-gt0.branch [
      | then-regular-gt0 w ↦ w.result-is ∙ sym (if-true _ _ _ (count-some _ _ c.regular_count-regular.ensures.0 w.if-regular-gt0.true))
      | else-regular-gt0 w ↦ w.result-is ∙ sym (if-false _ _ _ (count-none _ _ c.regular_count-regular.ensures.0 w.if-regular-gt0.false))
    ] in
    λ i. record {
      end = hour (c.args.self.end.0 + 1);
      open_end = open_end i;
      regular_end = regular_end i;
      regular = c.args.self.regular + (c.from.ensures ∙ c.regular_count-regular.ensures.0) i;
      overtime = c.args.self.overtime + c.overtime_count.ensures.0 i;
    }
