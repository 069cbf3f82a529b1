-- The starred weeks of 01's "Worked weeks", those of calendar A with their witnesses (02, W-204), and a week of O before C (W-207): a list of weeks and
-- their outcomes, of the calendar rule and the filter as they are called. That the definitions give each outcome is proved.
use Rattle.std.specs.Prelude.{Option, None, Some}
use Rattle.std.specs.Prelude.{Bool, true, false, List, [], ◌∷◌, ◌++◌, map, ℕ, zero, suc, length, replicate, if◌then◌else◌}
use Rattle.units.specs.Limits.{hour, duration}
use Rattle.units.specs.declared.Bounds.{Bounds}
use Rattle.plan.specs.Plan.{Plan, plan}
use Rattle.plan.specs.Refusals.{fault, Answer, answered}
use Rattle.calendar.specs.declared.Triple.{Triple}
use Rattle.calendar.specs.declared.Window.{Window}
use Rattle.calendar.specs.declared.Witnesses.{Witnesses}
use Rattle.calendar.specs.declared.Witnessed.{Witnessed}
use Rattle.calendar.specs.Triples.{triple, end_of, valid_triple, valid_triples}
use Rattle.calendar.specs.Rule.{rule_of, witnessed}
use Rattle.calendar.specs.Entry.{calendar_rule}
use Rattle.steps.specs.Load.{must_run}
use Rattle.steps.specs.Steps.{step, letter_c, letter_o, letter_l, letter_u}
use Rattle.plan.specs.HourKinds.{regular, closed, overtime}
use Rattle.steps.specs.declared.Step.{Step}
use Rattle.steps.specs.Entry.{FilterAnswer, no_room_for, settled_after, impossible_after, count_of, FilterLeft, filter_records}

abbrev pub bounds : ℕ → ℕ → ℕ → ℕ → ℕ → ℕ → Bounds
bounds s₁ s₂ e₁ e₂ o₁ o₂ =
    record {
      earliest = hour s₁;
      latest = hour s₂;
      shortest = duration e₁;
      longest = duration e₂;
      fewest = duration o₁;
      most = duration o₂;
    }

-- the witnesses of the lower and the upper S, of the lower and the upper E, and of the lower and the upper O
abbrev pub by : Triple → Triple → Triple → Triple → Triple → Triple → Witnesses
by s₁ s₂ e₁ e₂ o₁ o₂ = record { earliest = s₁; latest = s₂; shortest = e₁; longest = e₂; fewest = o₁; most = o₂ }

abbrev pub window : Bounds → ℕ → ℕ → Window
window b c₁ c₂ = record { bounds = b; ect = hour c₁; lct = hour c₂ }

-- What a week asks: the calendar rule's answer; the hours of the compulsory part; whether a triple is valid; the valid triples in a box, with
-- their ends; the filter, lent a log with room for so many steps.
pub data Week : Type 0 where
  rule compulsory_part triples_and_ends : List ℕ → ℕ → Bounds → Week
  is_valid : List ℕ → ℕ → Triple → Week
  filter : Plan → List ℕ → ℕ → Week

pub data Outcome : Type 0 where
  fits : Answer (Option Witnessed) → Outcome
  hours : List ℕ → Outcome
  triples : List Triple → List ℕ → Outcome
  holds : Bool → Outcome
  leaves : FilterAnswer → List ℕ → List Step → Outcome

-- the hours 0 .. n - 1 that the compulsory part holds
unfoldable pub hours_held : Option Window → ℕ → List ℕ
hours_held fit zero = []
hours_held fit (suc n) = hours_held fit n ++ (if must_run fit n then n ∷ [] else [])

-- what the filter answers, the boxes that it leaves, and its own log: the first cells, as many as its count
unfoldable pub left : FilterLeft → Outcome
left l = leaves l.answer l.boxes (l.first (count_of 0 l.answer))

unfoldable pub outcome_of : Week → Outcome
outcome_of (rule cal p b) = fits (calendar_rule cal p b)
outcome_of (compulsory_part cal p b) = hours (hours_held (rule_of cal p b) (length cal))
outcome_of (triples_and_ends cal p b) = triples (valid_triples cal p b) (map (λ t. end_of t) (valid_triples cal p b))
outcome_of (is_valid cal p t) = holds (valid_triple cal p t)
outcome_of (filter P boxes room) = left (filter_records P boxes (replicate room (step 0 0 0)))

pub record Starred : Type 0 where
  pub week : Week
  pub outcome : Outcome

abbrev pub starred : Week → Outcome → Starred
starred week outcome = record { week = week; outcome = outcome }

-- calendar A, `cooocorrc`
abbrev pub calendar_a : List ℕ
calendar_a = closed ∷ overtime ∷ overtime ∷ overtime ∷ closed ∷ overtime ∷ regular ∷ regular ∷ closed ∷ []

-- the week that 01 prints under "Plan text and listing", and its boxes
abbrev pub printed : Plan
printed = plan 6 (1 ∷ []) (regular ∷ closed ∷ regular ∷ regular ∷ regular ∷ regular ∷ []) (0 ∷ 0 ∷ []) (2 ∷ 2 ∷ []) (1 ∷ 1 ∷ []) []

abbrev pub printed_boxes : List ℕ
printed_boxes = 0 ∷ 3 ∷ 2 ∷ 3 ∷ 0 ∷ 0 ∷ 0 ∷ 2 ∷ 2 ∷ 3 ∷ 0 ∷ 0 ∷ []

-- `rr`, capacity 1, one task of height 2
abbrev pub too_high : Plan
too_high = plan 2 (1 ∷ []) (regular ∷ regular ∷ []) (0 ∷ []) (1 ∷ []) (2 ∷ []) []

-- `rrr`, capacity 1, two tasks of height 1 that both must run in hour 1
abbrev pub in_one_hour : Plan
in_one_hour = plan 3 (1 ∷ []) (regular ∷ regular ∷ regular ∷ []) (0 ∷ 0 ∷ []) (2 ∷ 2 ∷ []) (1 ∷ 1 ∷ []) []

unfoldable pub weeks : List Starred
weeks =
    -- A, S 0..8, E 1..9, O 0..3: S 1..5, E 3..7, O 1..3, ect 4, lct 8, no compulsory part
    starred (rule calendar_a 3 (bounds 0 8 1 9 0 3))
    (fits (answered (Some (witnessed (window (bounds 1 5 3 7 1 3) 4 8)
    (by (triple 1 3 3) (triple 5 3 1) (triple 1 3 3) (triple 1 7 1) (triple 1 7 1) (triple 1 3 3))))))
    ∷ starred (compulsory_part calendar_a 3 (bounds 0 8 1 9 0 3)) (hours [])
    -- the same with O 0..1: S 1..5, E 3..7, O 1..1, compulsory part [5, 8)
    ∷ starred (rule calendar_a 3 (bounds 0 8 1 9 0 1))
    (fits (answered (Some (witnessed (window (bounds 1 5 3 7 1 1) 8 8)
    (by (triple 1 7 1) (triple 5 3 1) (triple 5 3 1) (triple 1 7 1) (triple 1 7 1) (triple 1 7 1))))))
    ∷ starred (compulsory_part calendar_a 3 (bounds 0 8 1 9 0 1)) (hours (5 ∷ 6 ∷ 7 ∷ []))
    -- O 0..0: no valid triple
    ∷ starred (rule calendar_a 3 (bounds 0 8 1 9 0 0)) (fits (answered None))
    -- O 2..2: S 1..3, E 4..6, compulsory part [3, 7)
    ∷ starred (rule calendar_a 3 (bounds 0 8 1 9 2 2))
    (fits (answered (Some (witnessed (window (bounds 1 3 4 6 2 2) 7 7)
    (by (triple 1 6 2) (triple 3 4 2) (triple 3 4 2) (triple 1 6 2) (triple 1 6 2) (triple 1 6 2))))))
    ∷ starred (compulsory_part calendar_a 3 (bounds 0 8 1 9 2 2)) (hours (3 ∷ 4 ∷ 5 ∷ 6 ∷ []))
    -- A: (1, 7, 1) valid; (6, 2, 1) not, it holds no overtime hour
    ∷ starred (is_valid calendar_a 3 (triple 1 7 1)) (holds true)
    ∷ starred (is_valid calendar_a 3 (triple 6 2 1)) (holds false)
    -- `o`, p = 1: (0, 1, 1) valid; `oo`, p = 1: (0, 2, 1) not
    ∷ starred (is_valid (overtime ∷ []) 1 (triple 0 1 1)) (holds true)
    ∷ starred (is_valid (overtime ∷ overtime ∷ []) 1 (triple 0 2 1)) (holds false)
    -- `rcr`, p = 1: the triple from hour 0 is (0, 1, 0), end 1, not 2
    ∷ starred (triples_and_ends (regular ∷ closed ∷ regular ∷ []) 1 (bounds 0 0 1 3 0 1)) (triples (triple 0 1 0 ∷ []) (1 ∷ []))
    -- the printed week: settled, with the log L 0 2; C 0 0; U 1 3; C 1 0
    ∷ starred (filter printed printed_boxes 2048)
    (leaves (settled_after 4)
    (3 ∷ 3 ∷ 2 ∷ 2 ∷ 0 ∷ 0 ∷ 0 ∷ 0 ∷ 3 ∷ 3 ∷ 0 ∷ 0 ∷ [])
    (step letter_l 0 2 ∷ step letter_c 0 0 ∷ step letter_u 1 3 ∷ step letter_c 1 0 ∷ []))
    -- with log room 2: 32, count 2, task 0 has S 3..3 and E 2..2, task 1 as opened
    ∷ starred (filter printed printed_boxes 2)
    (leaves (no_room_for (fault 32 0) 2)
    (3 ∷ 3 ∷ 2 ∷ 2 ∷ 0 ∷ 0 ∷ 0 ∷ 2 ∷ 2 ∷ 3 ∷ 0 ∷ 0 ∷ [])
    (step letter_l 0 2 ∷ step letter_c 0 0 ∷ []))
    -- a height above the capacity, p = 1, S 0..1, E 1..2, O 0..0: C 0 0, L 0 0, O 0 1, impossible; left S 1..1, E 1..1, O 0..0
    ∷ starred (filter too_high (0 ∷ 1 ∷ 1 ∷ 2 ∷ 0 ∷ 0 ∷ []) 2048)
    (leaves (impossible_after 3)
    (1 ∷ 1 ∷ 1 ∷ 1 ∷ 0 ∷ 0 ∷ [])
    (step letter_c 0 0 ∷ step letter_l 0 0 ∷ step letter_o 0 1 ∷ []))
    -- 02, W-207: O before C, p = 2, S 0..1, E 2..3, O 0..0 each: O 0 1, impossible; left as opened
    ∷ starred (filter in_one_hour (0 ∷ 1 ∷ 2 ∷ 3 ∷ 0 ∷ 0 ∷ 0 ∷ 1 ∷ 2 ∷ 3 ∷ 0 ∷ 0 ∷ []) 2048)
    (leaves (impossible_after 1)
    (0 ∷ 1 ∷ 2 ∷ 3 ∷ 0 ∷ 0 ∷ 0 ∷ 1 ∷ 2 ∷ 3 ∷ 0 ∷ 0 ∷ [])
    (step letter_o 0 1 ∷ []))
    ∷ []
