-- What is known of a step, by its kind, once it is judged to move a bound or to be impossible. Assumes nothing.
use lib.Dec.{leb, ltb}
use Rattle.std.specs.Prelude.{Option, None, Some}
use mathlib.Core.Path.{◌≡◌, refl, subst}
use mathlib.Core.Bool.{true, false}
use mathlib.Core.List.{List}
use Prim.Native.Nat.{ℕ, ◌+◌, ◌-◌, ◌≤◌, ◌<◌}
use Rattle.std.specs.Prelude.{if◌then◌else◌}
use Rattle.units.specs.Choice.{◌and◌}
use borrow.Author.Tests.{leb-true, leb-false, ltb-true, ltb-false}
use Rattle.units.specs.Limits.{with_earliest, with_latest}
use Rattle.units.proofs.Choices.{and_left, and_right, if-all, some_at}
use Rattle.plan.specs.Plan.{Plan, room_count, task_count, pair_count, capacity_of, height_of, pair_of}
use Rattle.plan.specs.Boxes.{bounds_at, with_bounds}
use Rattle.calendar.specs.declared.Window.{Window}
use Rattle.calendar.specs.Rule.{lst, ect}
use Rattle.steps.specs.declared.Step.{Step}
use Rattle.steps.specs.Load.{fit_at, load, others_load, room_excess, excess}
use Rattle.steps.specs.Steps.{Kind, kind_c, kind_o, kind_l, kind_u, kind_f, kind_b, unknown_kind, kind_of, is_step, Judgement, unknown, not_admitted}
use Rattle.steps.specs.Steps.{impossible, moved, on_judgement, on_fit, on_pair, same_bounds, judge_c, judge_o, judge_l, judge_u, judge_f, judge_b, judge_kind}
use Rattle.steps.specs.Steps.{judge}

-- a fact of what is made of a judgement, or of a fit, from the fact of each case
pub judgement-all : {A : Type 0} (C : A → Type 0) (j : Judgement) (u n i : A) (m : List ℕ → A) → (j ≡ unknown → C u)
    → (j ≡ not_admitted → C n)
    → (j ≡ impossible → C i) → ((left : List ℕ) → j ≡ moved left → C (m left)) → C (on_judgement j u n i m)
unfolding on_judgement
judgement-all C unknown u n i m a b c d = a refl
judgement-all C not_admitted u n i m a b c d = b refl
judgement-all C impossible u n i m a b c d = c refl
judgement-all C (moved left) u n i m a b c d = d left refl

pub fit_all : {A : Type 0} (C : A → Type 0) (f : Option Window) (a : A) (g : Window → A) → (f ≡ None → C a)
    → ((w : Window) → f ≡ Some w → C (g w))
    → C (on_fit f a g)
unfolding on_fit
fit_all C None a g p q = p refl
fit_all C (Some w) a g p q = q w refl

-- what L and U share: the task and the hour exist, the task has a valid triple, and there is the excess, in some room
pub record Crowded (P : Plan) (boxes : List ℕ) (i t : ℕ) (w : Window) : Type 0 where
  pub task : i < task_count P
  pub hour : t < P.shifts.hours
  pub fit : fit_at P.shifts boxes i ≡ Some w
  pub room : ℕ
  pub there : room < room_count P
  pub excess : capacity_of P room < height_of P room i + others_load P room boxes i t

-- what F and B share: the pair is one of the plan's, and both its tasks have a valid triple
pub record Paired (P : Plan) (boxes : List ℕ) (k : ℕ) (w v : Window) : Type 0 where
  pub pair : k < pair_count P
  pub earlier : fit_at P.shifts boxes (pair_of P k).earlier ≡ Some w
  pub later : fit_at P.shifts boxes (pair_of P k).later ≡ Some v

module _ (P : Plan) (boxes : List ℕ) (i t : ℕ) where
  -- of pair i the tasks, and their boxes
  abbrev first : ℕ
  first = (pair_of P i).earlier

  abbrev second : ℕ
  second = (pair_of P i).later

  -- a step moves a bound
  pub data Moves (left : List ℕ) : Kind → Type 0 where
    moves_c : (w : Window) → i < task_count P → fit_at P.shifts boxes i ≡ Some w → same_bounds w.bounds (bounds_at boxes i) ≡ false
        → left ≡ with_bounds boxes i w.bounds → Moves left kind_c
    moves_l : (w : Window) → Crowded P boxes i t w → t < ect w → (bounds_at boxes i).earliest.0 ≤ t → t < (bounds_at boxes i).latest.0
        → left ≡ with_bounds boxes i (with_earliest (bounds_at boxes i) (t + 1)) → Moves left kind_l
    moves_u : (w : Window) → Crowded P boxes i t w → lst w ≤ t → t < (bounds_at boxes i).latest.0 + (bounds_at boxes i).shortest.0
        → (bounds_at boxes i).earliest.0 + (bounds_at boxes i).shortest.0 ≤ t
        → left ≡ with_bounds boxes i (with_latest (bounds_at boxes i) (t - (bounds_at boxes i).shortest.0)) → Moves left kind_u
    moves_f : (w v : Window) → Paired P boxes i w v → (bounds_at boxes second).earliest.0 < ect w → ect w ≤ (bounds_at boxes second).latest.0
        → left ≡ with_bounds boxes second (with_earliest (bounds_at boxes second) (ect w)) → Moves left kind_f
    moves_b : (w v : Window) → Paired P boxes i w v → lst v < (bounds_at boxes first).latest.0 + (bounds_at boxes first).shortest.0
        → (bounds_at boxes first).earliest.0 + (bounds_at boxes first).shortest.0 ≤ lst v
        → left ≡ with_bounds boxes first (with_latest (bounds_at boxes first) (lst v - (bounds_at boxes first).shortest.0)) → Moves left kind_b

  -- a step says impossible
  pub data Stops : Kind → Type 0 where
    stops_c : i < task_count P → fit_at P.shifts boxes i ≡ None → Stops kind_c
    stops_o : i < room_count P → t < P.shifts.hours → capacity_of P i < load P i boxes t → Stops kind_o
    stops_l : (w : Window) → Crowded P boxes i t w → t < ect w → (bounds_at boxes i).latest.0 ≤ t → Stops kind_l
    stops_u : (w : Window) → Crowded P boxes i t w → lst w ≤ t → t < (bounds_at boxes i).earliest.0 + (bounds_at boxes i).shortest.0 → Stops kind_u
    stops_f : (w v : Window) → Paired P boxes i w v → (bounds_at boxes second).latest.0 < ect w → Stops kind_f
    stops_b : (w v : Window) → Paired P boxes i w v → lst v < (bounds_at boxes first).earliest.0 + (bounds_at boxes first).shortest.0 → Stops kind_b

  Known : Kind → Judgement → Type 0
  Known k unknown = Unit {0}
  Known k not_admitted = Unit {0}
  Known k impossible = Stops k
  Known k (moved left) = Moves left k

  known-C : i < task_count P → Known kind_c (judge_c P boxes i)
  unfolding judge_c Known
  known-C l =
      fit_all (Known kind_c) (fit_at P.shifts boxes i) _ _ (λ q. stops_c l q)
      (λ w q. if-all (Known kind_c) _ _ _ (λ same. tt) (λ differ. moves_c w l q differ refl))

  known-O : i < room_count P → t < P.shifts.hours → Known kind_o (judge_o P boxes i t)
  unfolding judge_o Known
  known-O l m = if-all (Known kind_o) _ _ _ (λ over. stops_o l m (ltb-true _ _ over)) (λ under. tt)

  crowded : (w : Window) → i < task_count P → t < P.shifts.hours → fit_at P.shifts boxes i ≡ Some w → excess P boxes i t ≡ true
      → Crowded P boxes i t w
  unfolding excess room_excess
  crowded w l m q e =
      let (room, there, over) = some_at _ _ e in
      record { task = l; hour = m; fit = q; room = room; there = there; excess = ltb-true _ _ over }

  known-L : i < task_count P → t < P.shifts.hours → Known kind_l (judge_l P boxes i t)
  unfolding judge_l Known
  known-L l m =
      let within = leb (bounds_at boxes i).earliest.0 t in
      fit_all (Known kind_l) (fit_at P.shifts boxes i) _ _ (λ q. tt)
      (λ w q. if-all (Known kind_l) (ltb t (ect w) and within and excess P boxes i t) (if _ then impossible else moved _) not_admitted
      (λ a.
      let rest = and_right (ltb t (ect w)) _ a in
      let c = crowded w l m q (and_right within _ rest) in
      let ends : t < ect w = ltb-true _ _ (and_left (ltb t (ect w)) _ a) in
      if-all (Known kind_l) _ impossible (moved _) (λ last. stops_l w c ends (leb-true _ _ last))
      (λ more. moves_l w c ends (leb-true _ _ (and_left within _ rest)) (leb-false _ _ more) refl))
      (λ a. tt))

  known-U : i < task_count P → t < P.shifts.hours → Known kind_u (judge_u P boxes i t)
  unfolding judge_u Known
  known-U l m =
      let within = ltb t ((bounds_at boxes i).latest.0 + (bounds_at boxes i).shortest.0) in
      fit_all (Known kind_u) (fit_at P.shifts boxes i) _ _ (λ q. tt)
      (λ w q. if-all (Known kind_u) (leb (lst w) t and within and excess P boxes i t) (if _ then impossible else moved _) not_admitted
      (λ a.
      let rest = and_right (leb (lst w) t) _ a in
      let c = crowded w l m q (and_right within _ rest) in
      let starts : lst w ≤ t = leb-true _ _ (and_left (leb (lst w) t) _ a) in
      if-all (Known kind_u) _ impossible (moved _) (λ first. stops_u w c starts (ltb-true _ _ first))
      (λ more. moves_u w c starts (ltb-true _ _ (and_left within _ rest)) (ltb-false _ _ more) refl))
      (λ a. tt))

  -- both tasks of the pair have their windows, or the step is not admitted
  known-pair : (k : Kind) (f : Window → Window → Judgement) → i < pair_count P → ((w v : Window) → Paired P boxes i w v → Known k (f w v))
      → Known k (on_pair P boxes (pair_of P i) f)
  unfolding on_pair Known
  known-pair k f l h =
      fit_all (Known k) (fit_at P.shifts boxes first) _ _ (λ q. tt)
      (λ w q. fit_all (Known k) (fit_at P.shifts boxes second) _ _ (λ r. tt) (λ v r. h w v (record { pair = l; earlier = q; later = r })))

  known-F : i < pair_count P → Known kind_f (judge_f P boxes (pair_of P i))
  unfolding judge_f Known
  known-F l =
      known-pair kind_f _ l
      (λ w v p. if-all (Known kind_f) (ltb (bounds_at boxes second).earliest.0 (ect w)) (if _ then impossible else moved _) not_admitted
      (λ a.
      if-all (Known kind_f) _ impossible (moved _) (λ last. stops_f w v p (ltb-true _ _ last))
      (λ more. moves_f w v p (ltb-true _ _ a) (ltb-false _ _ more) refl))
      (λ a. tt))

  known-B : i < pair_count P → Known kind_b (judge_b P boxes (pair_of P i))
  unfolding judge_b Known
  known-B l =
      let end = (bounds_at boxes first).latest.0 + (bounds_at boxes first).shortest.0 in
      known-pair kind_b _ l
      (λ w v p. if-all (Known kind_b) (ltb (lst v) end) (if _ then impossible else moved _) not_admitted
      (λ a.
      if-all (Known kind_b) _ impossible (moved _) (λ before. stops_b w v p (ltb-true _ _ before))
      (λ more. moves_b w v p (ltb-true _ _ a) (ltb-false _ _ more) refl))
      (λ a. tt))

  known : (k : Kind) → is_step P k i t ≡ true → Known k (judge_kind P boxes k i t)
  unfolding judge_kind is_step
  known kind_c e = known-C (ltb-true _ _ (and_left _ _ e))
  known kind_o e = known-O (ltb-true _ _ (and_left _ _ e)) (ltb-true _ _ (and_right _ _ e))
  known kind_l e = known-L (ltb-true _ _ (and_left _ _ e)) (ltb-true _ _ (and_right _ _ e))
  known kind_u e = known-U (ltb-true _ _ (and_left _ _ e)) (ltb-true _ _ (and_right _ _ e))
  known kind_f e = known-F (ltb-true _ _ (and_left _ _ e))
  known kind_b e = known-B (ltb-true _ _ (and_left _ _ e))
  known unknown_kind e = unfold Known in tt

module _ (P : Plan) (boxes : List ℕ) (x : Step) where
  judged : Known P boxes x.task x.hour (kind_of x.kind) (judge P boxes x)
  unfolding judge Known
  judged = if-all (Known P boxes x.task x.hour (kind_of x.kind)) _ _ _ (λ e. known P boxes x.task x.hour (kind_of x.kind) e) (λ e. tt)

  pub judged-moved : (left : List ℕ) → judge P boxes x ≡ moved left → Moves P boxes x.task x.hour left (kind_of x.kind)
  unfolding Known
  judged-moved left e = subst (Known P boxes x.task x.hour (kind_of x.kind)) e judged

  pub judged-impossible : judge P boxes x ≡ impossible → Stops P boxes x.task x.hour (kind_of x.kind)
  unfolding Known
  judged-impossible e = subst (Known P boxes x.task x.hour (kind_of x.kind)) e judged
