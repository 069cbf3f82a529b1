use Rattle.std.proofs.Common.{rules}
use Rattle.std.specs.Prelude.{None}
use mathlib.Core.Path.{◌≡◌, sym, ap, ◌∙◌}
use Prim.Native.Nat.{ℕ, ◌+◌}
use native.Mathlib.Omega.{arith}
use lib.ListN.{length, length-append}
use Rattle.std.proofs.lemmas.Slice.Zip.{zip_turn, zip_end}
use Rattle.units.proofs.Heights.{number_of}
use Rattle.steps.specs.Load.{must_run}
use Rattle.turns.proofs.Loading.{load-none, load-all, load_skips, load_adds, load-small}
use Rattle.turns.proofs.load.load_at.Goals as goal

pub loop-fit-init : goal.loop-fit-init
loop-fit-init c = sym (load-none _ _ _)

pub plus-sum-requires : goal.plus-sum-requires
plus-sum-requires c =
    let small = c.requires.small in
    let turn =
    zip_turn c.args.fits.now c.args.heights.now _ c.into_iter-fit-iterator.result c.loop-fit.fit-iterator c.next.new.self _
    (search rules) (search rules) c.loop-fit.yielded_by _ c.in-Some.is c.next.ensures.steps in
    omega (arith, small (length c.loop-fit.yielded), c.requires.few, load-small _ _ _ small _ _ c.loop-fit.invariant, turn.1, turn.3 0)

pub loop-fit-preserved-then-is_some_and : goal.loop-fit-preserved-then-is_some_and
unfolding must_run
loop-fit-preserved-then-is_some_and c =
    let turn =
    zip_turn c.args.fits.now c.args.heights.now _ c.into_iter-fit-iterator.result c.loop-fit.fit-iterator c.next.new.self _
    (search rules) (search rules) c.loop-fit.yielded_by _ c.in-Some.is c.next.ensures.steps in
    let runs : c.is_some_and.result ≡ must_run c.in-Some.fit.now c.args.t.0 = search rules in
    rw length-append (number_of c.plus-sum.ensures ∙ ap (λ (n : ℕ). c.loop-fit.sum.0 + n) (turn.3 0)
    ∙ load_adds _ _ _ _ c.loop-fit.invariant (rw (← turn.2 None) (sym runs ∙ c.if-is_some_and.true)))

pub loop-fit-preserved : goal.loop-fit-preserved
unfolding must_run
loop-fit-preserved c =
    let turn =
    zip_turn c.args.fits.now c.args.heights.now _ c.into_iter-fit-iterator.result c.loop-fit.fit-iterator c.next.new.self _
    (search rules) (search rules) c.loop-fit.yielded_by _ c.in-Some.is c.next.ensures.steps in
    let runs : c.is_some_and.result ≡ must_run c.in-Some.fit.now c.args.t.0 = search rules in
    rw length-append (load_skips _ _ _ _ c.loop-fit.invariant (rw (← turn.2 None) (sym runs ∙ c.if-is_some_and.false)))

pub returns : goal.returns
returns c =
    let all =
    zip_end c.args.fits.now c.args.heights.now _ c.into_iter-fit-iterator.result c.loop-fit.fit-iterator c.next.new.self _
    (search rules) (search rules) c.loop-fit.yielded_by c.in-None.is c.next.ensures.steps in
    let e : length c.loop-fit.yielded ≡ length c.args.heights.now = omega (arith, all, c.requires.few) in
    c.loop-fit.invariant ∙ rw e (load-all _ _ _)
