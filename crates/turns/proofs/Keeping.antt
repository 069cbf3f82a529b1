-- What is worked out from the answers kept is what the definitions say, for the boxes that the answers are kept for. Assumes
-- nothing.
use Rattle.std.specs.Prelude.{Option}
use Rattle.std.specs.Prelude.{if◌then◌else◌}
use mathlib.Core.Path.{◌≡◌, refl, sym, ap, ◌∙◌}
use mathlib.Core.Bool.{Bool, true, false, false≢true}
use Rattle.std.specs.Prelude.{None, Some}
use mathlib.Core.List.{List}
use Prim.Native.Nat.{ℕ, ◌+◌, ◌-◌, ◌<◌}
use native.Mathlib.Omega.{arith}
use lib.Dec.{leb, ltb}
use lib.ListN.{get_or}
use borrow.Author.Tests.{ltb-true}
use Rattle.units.specs.Choice.{◌and◌, on_option}
use Rattle.units.specs.Limits.{with_earliest, with_latest}
use Rattle.units.specs.declared.Bounds.{Bounds}
use Rattle.units.proofs.Choices.{and_left, if-true, if-false, if-case, if-all, if-ap, some-eq}
use Rattle.units.proofs.Summing.{where-eq, where-split}
use Rattle.plan.specs.Plan.{Plan, room_count, task_count, pair_count, capacity_of, heights_of, height_of, heights_where, pair_of}
use Rattle.plan.specs.Passed.{PassedPair}
use Rattle.plan.specs.Boxes.{bounds_at, with_bounds}
use Rattle.plan.proofs.Passed.{room-heights}
use Rattle.calendar.specs.declared.Window.{Window}
use Rattle.calendar.specs.Rule.{lst, ect}
use Rattle.steps.specs.declared.Step.{Step}
use Rattle.steps.specs.declared.Judged.{Judged}
use Rattle.steps.specs.declared.Judged.TheVariants.{Unknown, NotAdmitted, Impossible, Moved}
use Rattle.steps.specs.Load.{fit_at, must_run, load, others_load, room_excess, excess}
use Rattle.steps.specs.Steps.{Kind, kind_c, kind_o, kind_l, kind_u, kind_f, kind_b, unknown_kind, kind_of, is_step, Judgement, unknown, not_admitted}
use Rattle.steps.specs.Steps.{impossible, moved, on_judgement, on_fit, on_pair, same_bounds, judge_c, judge_o, judge_l, judge_u, judge_f, judge_b, judge_kind}
use Rattle.steps.specs.Steps.{judge}
use Rattle.steps.specs.Filter.{stops, moves, step_of, if_admitted, first_by, next_by}
use Rattle.steps.proofs.Judgements.{fit_all}
use Rattle.steps.proofs.Searches.{first-maps}
use Rattle.turns.specs.Inner.Kept.{Keeping, load_of, exceeds, excess_in, excess_by, on_judged, calendar_by, lower_by, upper_by}
use Rattle.turns.specs.Inner.Kept.{forward_by, backward_by, move_by, bound_by, pair_by, judge_kind_by, judge_by, admitted_by, judgement_of}

-- ---- the excess, from the load

module _ (P : Plan) (room : ℕ) (boxes : List ℕ) (i t : ℕ) where
  own-share : i < task_count P
      → others_load P room boxes i t + (if must_run (fit_at P.shifts boxes i) t then height_of P room i else 0) ≡ load P room boxes t
  unfolding others_load load heights_where
  own-share l = where-split _ _ (task_count P) i l

  exceeds-excess : (w : Window) → i < task_count P → fit_at P.shifts boxes i ≡ Some w
      → exceeds w (height_of P room i) (load P room boxes t) (capacity_of P room) t ≡ room_excess P room boxes i t
  unfolding exceeds room_excess
  exceeds-excess w l e =
      let own = height_of P room i in
      let all = load P room boxes t in
      ap (ltb (capacity_of P room))
      (if-all (λ (n : ℕ). n ≡ own + others_load P room boxes i t) (must_run (Some w) t) all (own + all)
      (λ q. omega (arith, own-share l, if-true (must_run (fit_at P.shifts boxes i) t) own 0 (rw e q)))
      (λ q. omega (arith, own-share l, if-false (must_run (fit_at P.shifts boxes i) t) own 0 (rw e q))))

-- ---- what C, L and U come to

module _ (boxes : List ℕ) (i : ℕ) where
  calendar-judged : (fit : Option Window) (b : Bounds)
      → judgement_of boxes (calendar_by fit i b)
      ≡ on_fit fit impossible (λ w. if same_bounds w.bounds b then not_admitted else moved (with_bounds boxes i w.bounds))
  unfolding calendar_by on_fit judgement_of on_judged
  calendar-judged None b = refl
  calendar-judged (Some w) b = if-ap (judgement_of boxes) _ _ _

  -- L and U: tests that must hold, and then one that says impossible
  test-judged : (p q : Bool) (b : Bounds)
      → judgement_of boxes (if p then (if q then Impossible else Moved i b) else NotAdmitted)
      ≡ (if p then (if q then impossible else moved (with_bounds boxes i b)) else not_admitted)
  unfolding judgement_of on_judged
  test-judged true true b = refl
  test-judged true false b = refl
  test-judged false q b = refl

  lower-judged : (w : Window) (b : Bounds) (e : Bool) (t : ℕ)
      → judgement_of boxes (move_by true w i b e t)
      ≡ (if ltb t (ect w) and leb b.earliest.0 t and e
      then (if leb b.latest.0 t then impossible else moved (with_bounds boxes i (with_earliest b (t + 1))))
      else not_admitted)
  unfolding move_by lower_by
  lower-judged w b e t = test-judged _ _ _

  upper-judged : (w : Window) (b : Bounds) (e : Bool) (t : ℕ)
      → judgement_of boxes (move_by false w i b e t)
      ≡ (if leb (lst w) t and ltb t (b.latest.0 + b.shortest.0) and e
      then (if ltb t (b.earliest.0 + b.shortest.0) then impossible else moved (with_bounds boxes i (with_latest b (t - b.shortest.0))))
      else not_admitted)
  unfolding move_by upper_by
  upper-judged w b e t = test-judged _ _ _

  -- of a task with a window, where f finds e of it
  bound-judged : (by : Window → Bool → Judged) (says : Window → Judgement) (f : Window → Bool) (e : Bool)
      → ((w : Window) → judgement_of boxes (by w e) ≡ says w) → (fit : Option Window) → ((w : Window) → fit ≡ Some w → f w ≡ e)
      → judgement_of boxes (on_fit fit NotAdmitted (λ w. by w (f w))) ≡ on_fit fit not_admitted says
  unfolding on_fit judgement_of on_judged
  bound-judged by says f e same None h = refl
  bound-judged by says f e same (Some w) h = rw (h w refl) (same w)

-- F and B: of a pair whose tasks both have a window
pair-judged : (boxes : List ℕ) (f g : Option Window) (by : Window → Window → Judged) (says : Window → Window → Judgement)
    → ((w v : Window) → judgement_of boxes (by w v) ≡ says w v)
    → judgement_of boxes (on_fit f NotAdmitted (λ w. on_fit g NotAdmitted (λ v. by w v)))
    ≡ on_fit f not_admitted (λ w. on_fit g not_admitted (λ v. says w v))
unfolding on_fit judgement_of on_judged
pair-judged boxes None g by says same = refl
pair-judged boxes (Some w) None by says same = refl
pair-judged boxes (Some w) (Some v) by says same = same w v

module _ (P : Plan) (boxes : List ℕ) (fits : List (Option Window)) (k : Keeping P boxes fits) where
  abbrev By : Step → Judged
  By = judge_by P boxes fits

  pub load_kept : (room t : ℕ) → room < room_count P → load_of fits (heights_of P room) t ≡ load P room boxes t
  unfolding load_of load heights_where height_of
  load_kept room t l =
      rw (room-heights P boxes k.passed room l) (where-eq _ _ _ (task_count P) (λ j m. ap (λ (f : Option Window). must_run f t) (k.kept j m)))

  excess-kept : (i t : ℕ) → i < task_count P → (w : Window) → fit_at P.shifts boxes i ≡ Some w
      → excess_by P fits w i t ≡ excess P boxes i t
  unfolding excess_by excess
  excess-kept i t l w e = some-eq _ _ (room_count P) (λ room m. room-kept room m)
    where
      room-kept : (room : ℕ) → room < room_count P
          → excess_in P fits w i t room ≡ room_excess P room boxes i t
      room-kept room m = unfold excess_in in (rw (load_kept room t m) (exceeds-excess P room boxes i t w l e))

  kind-kept : (kind : Kind) (i t : ℕ) → is_step P kind i t ≡ true
      → judgement_of boxes (judge_kind_by P boxes fits kind i t) ≡ judge_kind P boxes kind i t
  unfolding judge_kind_by judge_kind judge_c judge_o judge_l judge_u judge_f judge_b on_pair bound_by pair_by forward_by backward_by is_step
      judgement_of on_judged
  kind-kept kind_c i t is =
      rw (k.kept i (ltb-true _ _ (and_left _ _ is))) (calendar-judged boxes i (fit_at P.shifts boxes i) (bounds_at boxes i))
  kind-kept kind_o room t is = rw (load_kept room t (ltb-true _ _ (and_left _ _ is))) (if-ap (judgement_of boxes) _ _ _)
  kind-kept kind_l i t is =
      let l : i < task_count P = ltb-true _ _ (and_left _ _ is) in
      rw (k.kept i l)
      (bound-judged boxes i (λ w x. move_by true w i (bounds_at boxes i) x t) _ _ (excess P boxes i t)
      (λ w. lower-judged boxes i w (bounds_at boxes i) (excess P boxes i t) t)
      (fit_at P.shifts boxes i)
      (excess-kept i t l))
  kind-kept kind_u i t is =
      let l : i < task_count P = ltb-true _ _ (and_left _ _ is) in
      rw (k.kept i l)
      (bound-judged boxes i (λ w x. move_by false w i (bounds_at boxes i) x t) _ _ (excess P boxes i t)
      (λ w. upper-judged boxes i w (bounds_at boxes i) (excess P boxes i t) t)
      (fit_at P.shifts boxes i)
      (excess-kept i t l))
  kind-kept kind_f n t is =
      let pair = k.passed.pair n (ltb-true _ _ (and_left _ _ is)) in
      rw (k.kept _ pair.earlier, k.kept _ pair.later) (pair-judged boxes _ _ _ _ (λ w v. test-judged boxes _ _ _ _))
  kind-kept kind_b n t is =
      let pair = k.passed.pair n (ltb-true _ _ (and_left _ _ is)) in
      rw (k.kept _ pair.earlier, k.kept _ pair.later) (pair-judged boxes _ _ _ _ (λ w v. test-judged boxes _ _ _ _))
  kind-kept unknown_kind i t is = refl

  pub judge-kept : (x : Step) → judgement_of boxes (By x) ≡ judge P boxes x
  unfolding judge judge_by judgement_of on_judged
  judge-kept x =
      if-all (λ (j : Judgement). judgement_of boxes (By x) ≡ j) _ _ _
      (λ e. ap (judgement_of boxes) (if-true _ _ _ e) ∙ kind-kept (kind_of x.kind) x.task x.hour e)
      (λ e. ap (judgement_of boxes) (if-false _ _ _ e))

  -- ---- the first admitted step, in any order of kinds

  by-judged : (x : Step) (r : Judged)
      → on_judged r None None (Some x) (λ i b. Some x)
      ≡ on_option (on_judgement (judgement_of boxes r) None None (Some (stops x)) (λ left. Some (moves x left))) None (λ a. Some (step_of a))
  unfolding judgement_of on_judged on_judgement on_option
  by-judged x Unknown = refl
  by-judged x NotAdmitted = refl
  by-judged x Impossible = refl
  by-judged x (Moved i b) = refl

  admitted-kept : (x : Step)
      → admitted_by P boxes fits x ≡ on_option (if_admitted P boxes x) None (λ a. Some (step_of a))
  unfolding admitted_by if_admitted
  admitted-kept x = rw (← judge-kept x) (by-judged x _)

  pub next-kept : (order : List Kind)
      → first_by P (admitted_by P boxes fits) order
      ≡ on_option (next_by order P boxes) None (λ a. Some (step_of a))
  unfolding next_by
  next-kept order = first-maps P step_of (if_admitted P boxes) _ admitted-kept order

  -- ---- what is known of a step that the code has judged

  module _ (x : Step) (r : Judged) (is : r ≡ By x) where
    pub judges : judgement_of boxes r ≡ judge P boxes x
    judges = ap (judgement_of boxes) is ∙ judge-kept x

    pub judges-unknown : r ≡ Unknown → judge P boxes x ≡ unknown
    unfolding judgement_of on_judged
    judges-unknown e = sym judges ∙ ap (judgement_of boxes) e

    pub judges-not : r ≡ NotAdmitted → judge P boxes x ≡ not_admitted
    unfolding judgement_of on_judged
    judges-not e = sym judges ∙ ap (judgement_of boxes) e

    pub judges-impossible : r ≡ Impossible → judge P boxes x ≡ impossible
    unfolding judgement_of on_judged
    judges-impossible e = sym judges ∙ ap (judgement_of boxes) e

    pub judges-moved : (i : ℕ) (b : Bounds) → r ≡ Moved i b → judge P boxes x ≡ moved (with_bounds boxes i b)
    unfolding judgement_of on_judged
    judges-moved i b e = sym judges ∙ ap (judgement_of boxes) e

-- ---- a bound that the code moves is one of a task that exists

module _ (i : ℕ) (b : Bounds) (n : ℕ) where
  -- a step of task n, so judged, moves the bounds of task n
  Names : Judged → Type 0
  Names r = r ≡ Moved i b → i ≡ n

  impossible-names : Names Impossible
  unfolding Names
  impossible-names e = absurd (let z : ◌≡◌ {A = ℕ} 0 1 = cc in omega arith)

  not-names : Names NotAdmitted
  unfolding Names
  not-names e = absurd (let z : ◌≡◌ {A = ℕ} 0 1 = cc in omega arith)

  moved-names : (c : Bounds) → Names (Moved n c)
  unfolding Names
  moved-names c e = cc

  names-test : (p q : Bool) (c : Bounds) → Names (if p then (if q then Impossible else Moved n c) else NotAdmitted)
  names-test p q c =
      if-all Names p _ _ (λ e. if-all Names q _ _ (λ f. impossible-names) (λ f. moved-names c)) (λ e. not-names)

  names-calendar : (fit : Option Window) (c : Bounds) → Names (calendar_by fit n c)
  unfolding calendar_by
  names-calendar fit c =
      fit_all Names fit _ _ (λ q. impossible-names) (λ w q. if-all Names _ _ _ (λ s. not-names) (λ d. moved-names w.bounds))

  names-move : (lower : Bool) (w : Window) (c : Bounds) (excess : Bool) (t : ℕ) → Names (move_by lower w n c excess t)
  unfolding move_by lower_by upper_by
  names-move true w c excess t = names-test _ _ _
  names-move false w c excess t = names-test _ _ _

  names-bound : (P : Plan) (boxes : List ℕ) (fits : List (Option Window)) (lower : Bool) (t : ℕ) → Names (bound_by P boxes fits lower n t)
  unfolding bound_by
  names-bound P boxes fits lower t =
      fit_all Names (get_or fits n None) _ _ (λ q. not-names)
      (λ w q. names-move lower w (bounds_at boxes n) _ t)

  -- of two tasks that both have to have a window
  names-pair : (f g : Option Window) (by : Window → Window → Judged) → ((w v : Window) → Names (by w v))
      → Names (on_fit f NotAdmitted (λ w. on_fit g NotAdmitted (λ v. by w v)))
  names-pair f g by h = fit_all Names f _ _ (λ q. not-names) (λ w q. fit_all Names g _ _ (λ r. not-names) (λ v r. h w v))

module _ (P : Plan) (boxes : List ℕ) (fits : List (Option Window)) (paired : (k : ℕ) → k < pair_count P → PassedPair P k) (i : ℕ) (b : Bounds) where
  there-if : (n : ℕ) → i ≡ n → n < task_count P → i < task_count P
  there-if n e l = omega arith

  kind-there : (kind : Kind) (n t : ℕ) → is_step P kind n t ≡ true → judge_kind_by P boxes fits kind n t ≡ Moved i b → i < task_count P
  unfolding judge_kind_by is_step pair_by forward_by backward_by Names
  kind-there kind_c n t is e = there-if n (names-calendar i b n (get_or fits n None) (bounds_at boxes n) e) (ltb-true _ _ (and_left _ _ is))
  kind-there kind_o n t is e =
      absurd (if-case (ltb (capacity_of P n) (load_of fits (heights_of P n) t)) Impossible NotAdmitted (Moved i b) e
      (λ p q. let z : ◌≡◌ {A = ℕ} 0 1 = cc in omega arith) (λ p q. let z : ◌≡◌ {A = ℕ} 0 1 = cc in omega arith))
  kind-there kind_l n t is e = there-if n (names-bound i b n P boxes fits true t e) (ltb-true _ _ (and_left _ _ is))
  kind-there kind_u n t is e = there-if n (names-bound i b n P boxes fits false t e) (ltb-true _ _ (and_left _ _ is))
  kind-there kind_f n t is e =
      there-if _ (names-pair i b (pair_of P n).later _ _ _ (λ w v. names-test i b _ _ _ _) e) (paired n (ltb-true _ _ (and_left _ _ is))).later
  kind-there kind_b n t is e =
      there-if _ (names-pair i b (pair_of P n).earlier _ _ _ (λ w v. names-test i b _ _ _ _) e) (paired n (ltb-true _ _ (and_left _ _ is))).earlier
  kind-there unknown_kind n t is e = absurd (false≢true is)

  pub moved-there : (x : Step) (r : Judged) → r ≡ judge_by P boxes fits x → r ≡ Moved i b → i < task_count P
  unfolding judge_by
  moved-there x r is e =
      if-case _ _ _ _ (sym is ∙ e) (λ w q. kind-there (kind_of x.kind) x.task x.hour w q)
      (λ w q. absurd (let z : ◌≡◌ {A = ℕ} 0 1 = cc in omega arith))
