-- The filter's order before 02, W-207: C before O; and what O before C makes of a run. That is proved for every plan, all boxes that number one for each
-- task, and every room of the log.
use Rattle.std.specs.Prelude.{List, [], ◌∷◌, ◌++◌, ◌≡◌, ◌⊎◌, ℕ, ◌≤◌, ◌<◌}
use Rattle.plan.specs.Plan.{Plan}
use Rattle.steps.specs.declared.Step.{Step}
use Rattle.steps.specs.Steps.{step, letter_o, Kind, kind_c, kind_o, kind_l, kind_u, kind_f, kind_b}
use Rattle.steps.specs.Filter.{next_by, settled, impossible, Run, count, run_by, run}
use Rattle.steps.specs.Widths.{widths}

-- 01's order, with F and B last (02, W-206)
unfoldable pub former_order : List Kind
former_order = kind_c ∷ kind_o ∷ kind_l ∷ kind_u ∷ kind_f ∷ kind_b ∷ []

abbrev pub former_run : Plan → List ℕ → ℕ → Run
former_run P = run_by (next_by former_order P)

-- A run ends impossible by an O, after steps that are the first of the former's log, and its count is at most the former's.
pub record EndsByOverload (now former : Run) : Type 0 where
  pub ends : now.ending ≡ impossible
  pub first : List Step
  -- the room and the hour of that O
  pub room : ℕ
  pub hour : ℕ
  pub log : now.log ≡ first ++ step letter_o room hour ∷ []
  pub rest : List Step
  pub former_log : former.log ≡ first ++ rest
  pub counted : count now ≤ count former

-- What O before C makes of the run from the boxes, where the log has room for so many steps.
pub record OverloadFirst (P : Plan) (boxes : List ℕ) (room : ℕ) : Type 0 where
  -- the run is the former one, or ends so
  pub either : (run P boxes room ≡ former_run P boxes room) ⊎ EndsByOverload (run P boxes room) (former_run P boxes room)
  -- where the former settles, with this room or any other, the two are equal
  pub settles : (m : ℕ) → (former_run P boxes m).ending ≡ settled → run P boxes room ≡ former_run P boxes room
  -- where they differ, the former ends impossible once the log has room for more steps than the boxes are wide: if it did not with this room, it was
  -- stopped on the way there
  pub differs : (run P boxes room ≡ former_run P boxes room → ⊥) → (m : ℕ) → widths P boxes < m → (former_run P boxes m).ending ≡ impossible
