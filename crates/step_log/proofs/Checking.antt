-- Laws of the log checker in parts: the core's answer for a part as the log's, and the loop over the parts. Assumes nothing.
use mathlib.Core.Path.{◌≡◌, refl, sym, ap, ◌∙◌, subst}
use mathlib.Core.Bool.{Bool, false}
use Rattle.std.specs.Prelude.{Option, None, Some, Result, Ok, Err}
use mathlib.Core.List.{List, ◌++◌}
use Prim.Native.Nat.{ℕ, ◌+◌, ◌-◌, ◌≤◌, ◌<◌, min}
use native.Mathlib.Omega.{arith}
use lib.ListN.{length, take, drop, take-append-drop, length-take, length-drop}
use lib.Seq.{length-take-le, take_all, drop-drop}
use Rattle.units.specs.Choice.{on_option}
use Rattle.units.proofs.Choices.{None≢Some}
use Rattle.plan.specs.declared.Fault.{Fault}
use Rattle.plan.specs.Refusals.{Answer, refused, answered, answer_unless, answer_of, fault_of}
use Rattle.plan.specs.Faults.{input_fault}
use Rattle.plan.specs.Over.{PackedPlan, unpacked}
use Rattle.plan.proofs.Over.{over-tested}
use Rattle.plan.specs.declared.Refusal.{Refusal}
use Rattle.plan.proofs.Refusals.{refused≢answered}
use Rattle.steps.specs.declared.Step.{Step}
use Rattle.steps.specs.declared.Accepted.{Accepted}
use Rattle.steps.specs.Log.{LogEnd, log_end, replay_from, replay}
use Rattle.steps.specs.Entry.{packed_input_fault, packed_entry_fault, check_answer}
use Rattle.steps.specs.Inner.From.{check_from}
use Rattle.steps.proofs.Contracts.{packed-same-fault}
use Rattle.step_log.specs.declared.part.Part.{Part}
use Rattle.step_log.specs.Entry.{check_steps, check_steps_packed}
use Rattle.step_log.specs.Inner.Size.{part_size}
use Rattle.step_log.specs.Inner.Parts.{part_steps, check_steps_from, CheckedAs}
use Rattle.step_log.proofs.Copying.{part_length, steps-lent}
use Rattle.step_log.proofs.Passing.{replay-passes}
use Rattle.step_log.proofs.Appending.{replay-append, goes_on, ends_there, replay-reaches}

-- ---- an answer and the end that it is of

-- what a refusal and an acceptance say of the end
pub refused_end : (e : LogEnd) (f : Fault) → refused f ≡ check_answer e → e.refusal ≡ Some f
unfolding check_answer answer_unless
refused_end e f q = go e.refusal q
  where
    go : (o : Option Fault) → ◌≡◌ {A = Answer Accepted} (refused f) (answer_unless o (record { steps = e.steps; impossible = e.impossible }))
        → o ≡ Some f
    go None r = refused≢answered r
    go (Some g) r = cc

pub accepted-end : (e : LogEnd) (a : Accepted) → answered a ≡ check_answer e
    → (e.refusal ≡ None) × (a.steps ≡ e.steps) × (a.impossible ≡ e.impossible)
unfolding check_answer answer_unless
accepted-end e a q = go e.refusal q
  where
    go : (o : Option Fault) → ◌≡◌ {A = Answer Accepted} (answered a) (answer_unless o (record { steps = e.steps; impossible = e.impossible }))
        → (o ≡ None) × (a.steps ≡ e.steps) × (a.impossible ≡ e.impossible)
    go None r =
        let z : a ≡ record { steps = e.steps; impossible = e.impossible } = cc in
        (refl, ap (λ (x : Accepted). x.steps) z, ap (λ (x : Accepted). x.impossible) z)
    go (Some g) r = refused≢answered (sym r)

-- ---- the core's faults, lent the first cells of three arrays

pub lent-fault : (P : PackedPlan) (boxes ks ts hs : List ℕ) (n : ℕ) → n ≤ length ks → n ≤ length ts → n ≤ length hs
    → packed_entry_fault P boxes (take n ks) (take n ts) (take n hs) ≡ packed_input_fault P boxes
lent-fault P boxes ks ts hs n l m o =
    let k = length-take-le n ks l in
    packed-same-fault P boxes (take n ks) (take n ts) (take n hs) (length-take-le n ts m ∙ sym k) (length-take-le n hs o ∙ sym k)

-- ---- the end from a step on

module _ (P : PackedPlan) (boxes : List ℕ) (k : ℕ) (said : Bool) (steps : List Step) where
  -- a plan that passes: the end is the log's
  pub from-passed : packed_input_fault P boxes ≡ None → check_steps_from P k said boxes steps ≡ replay_from (unpacked P) k said boxes steps
  unfolding check_steps_from on_option
  from-passed e = rw e

  from-refused : (f : Fault) → packed_input_fault P boxes ≡ Some f → check_steps_from P k said boxes steps ≡ log_end 0 false boxes (Some f)
  unfolding check_steps_from on_option
  from-refused f e = rw e

-- by the core, lent the first cells of the part's arrays
module _ (P : PackedPlan) (boxes : List ℕ) (from : ℕ) (said : Bool) (part : Part) (all_kinds : length part.kinds ≡ part_size)
    (all_tasks : length part.tasks ≡ part_size) (all_hours : length part.hours ≡ part_size) where
  abbrev core : LogEnd
  core = check_from P boxes (take part.count part.kinds) (take part.count part.tasks) (take part.count part.hours) from said

  core_is : core ≡ check_steps_from P from said boxes (part_steps part)
  unfolding check_from check_steps_from part_steps
  core_is =
      let l : part.count ≤ length part.kinds = omega (arith, part.counted, all_kinds) in
      let m : part.count ≤ length part.tasks = omega (arith, part.counted, all_tasks) in
      let o : part.count ≤ length part.hours = omega (arith, part.counted, all_hours) in
      rw (
        lent-fault P boxes part.kinds part.tasks part.hours part.count l m o,
        steps-lent part.kinds part.tasks part.hours
            part.count l,
      )

  pub core-checked : (a : Result Accepted Refusal) (left : List ℕ) → (answer_of a ≡ check_answer core) × (left ≡ core.boxes)
      → CheckedAs (check_steps_from P from said boxes (part_steps part)) a left
  core-checked a left (is, leaves) =
      record { answers = is ∙ ap check_answer core_is; leaves = leaves ∙ ap (λ (x : LogEnd). x.boxes) core_is }

-- ---- a log in parts

-- the rest of a log, after a part of n steps from step k on that is accepted
pub record Rest (P : PackedPlan) (k n : ℕ) (ys : List Step) (whole end : LogEnd) : Type 0 where
  pub passes : packed_input_fault P end.boxes ≡ None
  pub all : end.steps ≡ k + n
  pub rest : check_steps_from P end.steps end.impossible end.boxes ys ≡ whole

module _ (P : PackedPlan) (k : ℕ) (said : Bool) (boxes : List ℕ) (xs ys : List Step) where
  abbrev end : LogEnd
  end = check_steps_from P k said boxes xs

  abbrev whole : LogEnd
  whole = check_steps_from P k said boxes (xs ++ ys)

  pub part-accepted : end.refusal ≡ None → Rest P k (length xs) ys whole end
  part-accepted a = go (packed_input_fault P boxes) refl
    where
      go : (o : Option Fault) → packed_input_fault P boxes ≡ o → Rest P k (length xs) ys whole end
      go (Some f) e = None≢Some (sym a ∙ ap (λ (l : LogEnd). l.refusal) (from-refused P boxes k said xs f e))
      go None e =
          let is = from-passed P boxes k said xs e in
          let r = replay_from (unpacked P) k said boxes xs in
          let none-refused : r.refusal ≡ None = ap (λ (l : LogEnd). l.refusal) (sym is) ∙ a in
          let passes : packed_input_fault P r.boxes ≡ None = replay-passes P k said boxes xs e in
          subst (Rest P k (length xs) ys whole) (sym is)
          record {
            passes = passes;
            all = (replay-reaches (unpacked P) k said boxes xs).all none-refused;
            rest = from-passed P r.boxes r.steps r.impossible ys passes
                ∙ sym (from-passed P boxes k said (xs ++ ys) e ∙ replay-append (unpacked P) k said boxes xs ys ∙ goes_on (unpacked P) r ys none-refused);
          }

  -- a part that is refused ends the log
  pub part-refused : (f : Fault) → end.refusal ≡ Some f → end ≡ whole
  part-refused f a = go (packed_input_fault P boxes) refl
    where
      go : (o : Option Fault) → packed_input_fault P boxes ≡ o → end ≡ whole
      go (Some g) e = from-refused P boxes k said xs g e ∙ sym (from-refused P boxes k said (xs ++ ys) g e)
      go None e =
          let is = from-passed P boxes k said xs e in
          let some-refused : (replay_from (unpacked P) k said boxes xs).refusal ≡ Some f = ap (λ (l : LogEnd). l.refusal) (sym is) ∙ a in
          is
          ∙ sym
          (from-passed P boxes k said (xs ++ ys) e
          ∙ replay-append (unpacked P) k said boxes xs ys
          ∙ ends_there (unpacked P) (replay_from (unpacked P) k said boxes xs) ys f some-refused)

-- What holds at each turn of the loop over the parts: the end from here is the log's end.
pub record Going (P : PackedPlan) (opening : List ℕ) (log : List Step) (from : ℕ) (said : Bool) (boxes : List ℕ) : Type 0 where
  pub inside : from ≤ length log
  pub ends : check_steps_from P from said boxes (drop from log) ≡ check_steps_packed P opening log
  pub same : length boxes ≡ length opening

-- in memory too the log checker comes to the log's end, or at once to a refusal
pub check-steps-is : (P : PackedPlan) (boxes : List ℕ) (log : List Step)
    → check_steps_packed P boxes log
    ≡ on_option (packed_input_fault P boxes) (replay (unpacked P) boxes log) (λ f. log_end 0 false boxes (Some f))
unfolding check_steps_packed packed_input_fault check_steps input_fault
check-steps-is P boxes log = over-tested _ P boxes _ _ _ refl

pub going-opens : (P : PackedPlan) (opening : List ℕ) (log : List Step) → Going P opening log 0 false opening
going-opens P opening log =
    record {
      inside = omega arith;
      ends = unfold check_steps_from replay in sym (check-steps-is P opening log);
      same = refl;
    }

module _ {P : PackedPlan} {opening : List ℕ} {log : List Step} {from : ℕ} {said : Bool} {boxes : List ℕ} (g : Going P opening log from said boxes)
    (steps : Part) (is : part_steps steps ≡ take part_size (drop from log)) where
  count-is : steps.count ≡ min part_size (length log - from)
  count-is =
      sym (part_length steps) ∙ ap length is ∙ length-take part_size (drop from log) ∙ ap (min part_size) (length-drop from log)

  pub part-inside : from + steps.count ≤ length log
  part-inside = omega (arith, count-is, g.inside)

  parts : part_steps steps ++ drop part_size (drop from log) ≡ drop from log
  parts = ap (λ (l : List Step). l ++ drop part_size (drop from log)) is ∙ take-append-drop part_size (drop from log)

  abbrev part_end : LogEnd
  part_end = check_steps_from P from said boxes (part_steps steps)

  abbrev LogEnds : Answer Accepted → List ℕ → Type 0
  LogEnds answer left = (answer ≡ check_answer (check_steps_packed P opening log)) × (left ≡ (check_steps_packed P opening log).boxes)

  module _ {left : List ℕ} where
    -- a part's end that is the log's
    ends-log : (answer : Result Accepted Refusal) → CheckedAs part_end answer left → part_end ≡ check_steps_packed P opening log
        → LogEnds (answer_of answer) left
    ends-log answer c q = (c.answers ∙ ap check_answer q, c.leaves ∙ ap (λ (e : LogEnd). e.boxes) q)

    -- a part that is refused is the log's end
    pub part-refuses : {d : Refusal} → CheckedAs part_end (Err d) left → LogEnds (refused (fault_of d)) left
    part-refuses {d} c =
        ends-log (Err d) c
        (part-refused P from said boxes (part_steps steps) (drop part_size (drop from log)) (fault_of d) (refused_end part_end (fault_of d) c.answers)
        ∙ ap (check_steps_from P from said boxes) parts
        ∙ g.ends)

    module _ {a : Accepted} (c : CheckedAs part_end (Ok a) left) where
      -- a part that is not full is the last one
      pub part-ends : steps.count < part_size → LogEnds (answered a) left
      part-ends few =
          let short : length (drop from log) ≤ part_size = rw (length-drop from log) (omega (arith, few, count-is)) in
          ends-log (Ok a) c (ap (check_steps_from P from said boxes) (is ∙ take_all part_size (drop from log) short) ∙ g.ends)

      -- after a full part that is accepted the log goes on, from a part further on
      module _ (full : part_size ≤ steps.count) where
        further : a.steps ≡ from + part_size
        further =
            let (accepted, number, said-is) = accepted-end part_end a c.answers in
            let rest = part-accepted P from said boxes (part_steps steps) (drop part_size (drop from log)) accepted in
            omega (arith, number, rest.all, part_length steps, full, steps.counted)

        pub part-goes-on : length left ≡ length boxes → Going P opening log a.steps a.impossible left
        part-goes-on kept =
            let (accepted, number, said-is) = accepted-end part_end a c.answers in
            let rest = part-accepted P from said boxes (part_steps steps) (drop part_size (drop from log)) accepted in
            record {
              inside = omega (arith, further, full, part-inside);
              ends =
                  ap (λ (n : ℕ). check_steps_from P a.steps a.impossible left (drop n log)) further
                  ∙ ap (λ (l : List Step). check_steps_from P a.steps a.impossible left l) (sym (drop-drop part_size from log))
                  ∙ rw (number, said-is, c.leaves) rest.rest
                  ∙ ap (check_steps_from P from said boxes) parts
                  ∙ g.ends;
              same = kept ∙ g.same;
            }

        pub part-shortens : length log - a.steps < length log - from
        part-shortens = omega (arith, further, full, part-inside)
