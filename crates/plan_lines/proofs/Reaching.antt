-- Laws of the sections of a text: their order is that of their numbers. Assumes nothing.
use mathlib.Core.Path.{◌≡◌, refl, sym, ◌∙◌}
use mathlib.Core.Bool.{true, false}
use lib.Dec.{eqb, leb}
use denote.Enum.Bare.{sameb}
use Rattle.std.specs.Ordering.{partial_le}
use Rattle.units.specs.Limits.{within}
use Rattle.units.proofs.Choices.{if-true, if-false, and-rest, not_left}
use Rattle.plan_format.specs.Text.{plan_section, comes}
use Rattle.plan_lines.specs.contracts.Section.{the_type}
use Rattle.plan_lines.specs.contracts.SectionPartialOrd.TheImpl.{partial_cmp-value}
use Rattle.plan_lines.specs.declared.Section.{Section}
use Rattle.plan_lines.specs.declared.Section.TheVariants.{Start, Plan, Calendars, Tasks, Pairs}
use Rattle.plan_lines.specs.Inner.Scanning.{section_number}

-- a fact of each section
every : (C : Section → Type 0) → C Start → C Plan → C Calendars → C Tasks → C Pairs → (a : Section) → C a
every C start plan calendars tasks pairs Start = start
every C start plan calendars tasks pairs Plan = plan
every C start plan calendars tasks pairs Calendars = calendars
every C start plan calendars tasks pairs Tasks = tasks
every C start plan calendars tasks pairs Pairs = pairs

is-plan : (a : Section) → sameb the_type a Plan ≡ eqb (section_number a) plan_section
is-plan = every _ refl refl refl refl refl

is-start : (a : Section) → sameb the_type a Start ≡ eqb (section_number a) 0
is-start = every _ refl refl refl refl refl

pub le-section : (a b : Section) → partial_le partial_cmp-value.it a b ≡ leb (section_number a) (section_number b)
le-section =
    every _
    (every _ refl refl refl refl refl)
    (every _ refl refl refl refl refl)
    (every _ refl refl refl refl refl)
    (every _ refl refl refl refl refl)
    (every _ refl refl refl refl refl)

-- what may come, test by test
module _ (section reached : Section) where
  pub plan-comes : sameb the_type section Plan ≡ true → sameb the_type reached Start ≡ comes (section_number section) (section_number reached)
  unfolding comes
  plan-comes p = is-start reached ∙ sym (if-true _ _ _ (sym (is-plan section) ∙ p))

  module _ (p : sameb the_type section Plan ≡ false) where
    others-come : within plan_section (section_number section) (section_number reached) ≡ comes (section_number section) (section_number reached)
    unfolding comes
    others-come = sym (if-false _ _ _ (sym (is-plan section) ∙ p))

    pub begun-comes : partial_le partial_cmp-value.it Plan reached ≡ true
        → partial_le partial_cmp-value.it reached section ≡ comes (section_number section) (section_number reached)
    unfolding within
    begun-comes q = le-section reached section ∙ sym (and-rest _ _ (sym (le-section Plan reached) ∙ q)) ∙ others-come

    pub unbegun-comes : partial_le partial_cmp-value.it Plan reached ≡ false → false ≡ comes (section_number section) (section_number reached)
    unfolding within
    unbegun-comes q = sym (not_left _ _ (sym (le-section Plan reached) ∙ q)) ∙ others-come
