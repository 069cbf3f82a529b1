-- What the calendar rule's core leans on for task i of a plan in memory, and what is kept of its answers for the first tasks. Only contracts of private
-- functions cite this.
use Rattle.std.specs.Prelude.{◌≡◌, List, ℕ, ◌+◌, ◌*◌, ◌≤◌, ◌<◌, length, get_or, None}
use Rattle.units.specs.Limits.{most_hours, most_tasks, box_numbers}
use Rattle.plan.specs.Plan.{Shifts, calendar_of, work_time_of}
use Rattle.plan.specs.Boxes.{bounds_at}
use Rattle.plan.specs.Lent.{HasCalendar}
use Rattle.incremental.specs.declared.TheConstants.Starts.{NONE}
use Rattle.incremental.specs.Inner.Keeps.{Keeps}
use Rattle.propagation.specs.declared.kept.Answers.{Answers}

pub record Fitting (S : Shifts) (boxes : List ℕ) (i : ℕ) : Type 0 where
  pub short : S.hours ≤ most_hours
  pub calendar : HasCalendar S i
  pub work : i < length S.work_times
  pub box : box_numbers * i + box_numbers ≤ length boxes
  pub latest : (bounds_at boxes i).latest.0 < S.hours
  pub shortest : 1 ≤ (bounds_at boxes i).shortest.0

-- task i's answer and starts are those of its box
abbrev pub KeepsAt : Shifts → List ℕ → Answers → ℕ → Type 0
KeepsAt S boxes a i =
    Keeps (calendar_of S i) (work_time_of S i) (bounds_at boxes i) (record { fit = get_or a.fits i None; starts = get_or a.starts i NONE })

-- so are those of the first n tasks
pub record Answered (S : Shifts) (n : ℕ) (boxes : List ℕ) (a : Answers) : Type 0 where
  pub fits : length a.fits ≡ most_tasks
  pub starts : length a.starts ≡ most_tasks
  pub keeps : (i : ℕ) → i < n → KeepsAt S boxes a i
