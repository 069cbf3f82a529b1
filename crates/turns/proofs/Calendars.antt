-- What the search finds and what a step comes to, by the answers kept, is asked of how many tasks a plan has, of its hours, capacities, heights and
-- pairs, and of nothing else: it is the same whatever the calendars and the work times. Assumes nothing.
use mathlib.Core.Path.{◌≡◌, refl, ap, ◌∙◌}
use Rattle.std.proofs.Math.Path.{fun_ext}
use Rattle.std.specs.Prelude.{Option, None, Some}
use mathlib.Core.Bool.{Bool, true, false}
use mathlib.Core.List.{List, [], ◌∷◌}
use Prim.Native.Nat.{ℕ}
use lib.ListN.{length, get_or}
use Rattle.units.specs.Choice.{some_of}
use Rattle.plan.specs.Plan.{Plan, plan, room_count, task_count, heights_of, height_of}
use Rattle.plan.specs.Boxes.{bounds_at}
use Rattle.calendar.specs.declared.Window.{Window}
use Rattle.steps.specs.declared.Step.{Step}
use Rattle.steps.specs.declared.Judged.{Judged}
use Rattle.steps.specs.declared.Judged.TheVariants.{NotAdmitted}
use Rattle.steps.specs.Steps.{Kind, kind_c, kind_o, kind_l, kind_u, kind_f, kind_b, unknown_kind, kind_of, is_step, on_fit}
use Rattle.steps.specs.Filter.{first_of_kind, first_by}
use Rattle.turns.specs.Inner.Kept.{excess_in, excess_by, on_judged, move_by, bound_by, pair_by, judge_kind_by, judge_by, admitted_by}

module _ (P : Plan) (calendars task_calendars work_times boxes : List ℕ) (fits : List (Option Window))
    (each : length task_calendars ≡ task_count P) where
  -- the plan with these calendars and work times
  abbrev other : Plan
  other = plan P.shifts.hours P.capacities calendars task_calendars work_times P.heights P.pairs

  same-step : (k : Kind) (i t : ℕ) → is_step P k i t ≡ is_step other k i t
  unfolding is_step
  same-step kind_c i t = rw each refl
  same-step kind_o i t = refl
  same-step kind_l i t = rw each refl
  same-step kind_u i t = rw each refl
  same-step kind_f i t = refl
  same-step kind_b i t = refl
  same-step unknown_kind i t = refl

  same-room : (w : Window) (i t room : ℕ) → excess_in P fits w i t room ≡ excess_in other fits w i t room
  unfolding excess_in height_of heights_of
  same-room w i t room = rw each refl

  same-excess : (w : Window) (i t : ℕ) → excess_by P fits w i t ≡ excess_by other fits w i t
  unfolding excess_by
  same-excess w i t = ap (λ (f : ℕ → Bool). some_of f (room_count P)) (fun_ext (same-room w i t))

  same-bound : (lower : Bool) (i t : ℕ) → bound_by P boxes fits lower i t ≡ bound_by other boxes fits lower i t
  unfolding bound_by
  same-bound lower i t =
      ap (on_fit (get_or fits i None) NotAdmitted)
      (fun_ext (λ w. ap (λ (e : Bool). move_by lower w i (bounds_at boxes i) e t) (same-excess w i t)))

  same-kind : (k : Kind) (i t : ℕ) → judge_kind_by P boxes fits k i t ≡ judge_kind_by other boxes fits k i t
  unfolding judge_kind_by heights_of pair_by
  same-kind kind_c i t = refl
  same-kind kind_o i t = rw each refl
  same-kind kind_l i t = same-bound true i t
  same-kind kind_u i t = same-bound false i t
  same-kind kind_f k t = refl
  same-kind kind_b k t = refl
  same-kind unknown_kind i t = refl

  pub same-judged : (x : Step) → judge_by P boxes fits x ≡ judge_by other boxes fits x
  unfolding judge_by
  same-judged x = rw (same-step (kind_of x.kind) x.task x.hour, same-kind (kind_of x.kind) x.task x.hour) refl

  same-admitted : (x : Step) → admitted_by P boxes fits x ≡ admitted_by other boxes fits x
  unfolding admitted_by
  same-admitted x = ap (λ (j : Judged). on_judged j None None (Some x) (λ i b. Some x)) (same-judged x)

  module _ (f : Step → Option Step) where
    same-first : (k : Kind) → first_of_kind P f k ≡ first_of_kind other f k
    unfolding first_of_kind
    same-first kind_c = rw each refl
    same-first kind_o = refl
    same-first kind_l = rw each refl
    same-first kind_u = rw each refl
    same-first kind_f = refl
    same-first kind_b = refl
    same-first unknown_kind = refl

    same-by : (order : List Kind) → first_by P f order ≡ first_by other f order
    unfolding first_by
    same-by [] = refl
    same-by (k ∷ ks) = rw (same-first k, same-by ks) refl

  pub same-found : (order : List Kind) → first_by P (admitted_by P boxes fits) order ≡ first_by other (admitted_by other boxes fits) order
  same-found order =
      same-by (admitted_by P boxes fits) order
      ∙ ap (λ (f : Step → Option Step). first_by other f order) (fun_ext same-admitted)
