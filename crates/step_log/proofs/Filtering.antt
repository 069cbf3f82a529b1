-- Laws of the filter in parts: the core's answer for a part, a run in two parts, and the loop over the parts. Assumes nothing.
use mathlib.Core.Path.{◌≡◌, refl, sym, ap, ◌∙◌, subst}
use mathlib.Core.Logic.{◌≢◌}
use mathlib.Core.Bool.{Bool, true, false, false≢true}
use Rattle.std.specs.Prelude.{Option, None, Some, Result, Ok, Err}
use Rattle.std.specs.Result.{IsErrAnd}
use Rattle.std.proofs.lemmas.Result.{err_from_is_err_and}
use Rattle.plan.specs.declared.Refusal.{Refusal}
use mathlib.Core.List.{List, [], ◌∷◌, ◌++◌, map, append_assoc}
use Prim.Native.Nat.{ℕ, suc, ◌+◌, ◌-◌, ◌≤◌, ◌<◌, min}
use native.Mathlib.Nat.{suc-add}
use native.Mathlib.Omega.{arith}
use lib.Dec.{eqb}
use lib.ListN.{length, take, drop, replicate, length-append, length-drop}
use lib.Seq.{length-take-le, take_at, drop_at, drop-drop}
use borrow.Author.Tests.{ltb-true, ltb-false, eqb-true, eqb-false}
use Rattle.units.specs.Choice.{on_option}
use Rattle.units.specs.Cells.{written}
use Rattle.units.proofs.Choices.{None≢Some}
use Rattle.plan.specs.Plan.{Plan}
use Rattle.plan.specs.declared.Fault.{Fault}
use Rattle.plan.specs.Refusals.{fault_of}
use Rattle.plan.specs.Faults.{input_fault}
use Rattle.plan.specs.Over.{PackedPlan, unpacked}
use Rattle.plan.proofs.Over.{over-tested}
use Rattle.steps.specs.declared.Step.{Step}
use Rattle.steps.specs.declared.Filtered.{Filtered}
use Rattle.steps.specs.Log.{LogEnd, replay}
use Rattle.steps.specs.Filter.{next, Ending, settled, impossible, no_room, Run, count, ended, after, run}
use Rattle.steps.specs.Entry.{packed_input_fault, steps_from, FilterAnswer, count_of, refused_by, ending_answer, FilterEnd, filter_end}
use Rattle.steps.specs.Entry.{ending_of, filter_answer}
use Rattle.steps.specs.Inner.From.{logged_from, filter_from}
use Rattle.steps.proofs.Runs.{run_settled, run-stops, run-moves, run-all, run-replays, run_fits, resumed, run-resumes}
use Rattle.steps.proofs.Contracts.{steps-written}
use Rattle.step_log.specs.declared.part.PartFiltered.{PartFiltered}
use Rattle.step_log.specs.Entry.{StepsEnd, steps_end, logged_steps, filter_steps, filter_steps_packed}
use Rattle.step_log.specs.Inner.Size.{part_size}
use Rattle.step_log.specs.Inner.Parts.{part_steps, does_go_on, part_run, RanAs, FilteredAs}
use Rattle.step_log.proofs.Passing.{replay-passes}
use Rattle.step_log.proofs.Checking.{lent-fault}

-- ---- a run with more room

module _ (P : Plan) where
  -- a run that did not stop for room is the same with more
  pub run_more : (a b : ℕ) (boxes : List ℕ) → ((run P boxes a).ending ≡ no_room → ⊥) → run P boxes (a + b) ≡ run P boxes a
  unfolding after
  run_more a b boxes =
      run-all (next P) (λ boxes a r. (r.ending ≡ no_room → ⊥) → run P boxes (a + b) ≡ r)
      (λ boxes a e h. run_settled (next P) boxes (a + b) e)
      (λ boxes h. absurd (h refl))
      (λ boxes a x e h. rw (suc-add a b) (run-stops (next P) boxes (a + b) x e))
      (λ boxes left a x r e h q. rw (suc-add a b, run-moves (next P) boxes (a + b) x left e) (ap (after x) (h q)))
      a
      boxes

  -- one that did has used it all
  pub run-filled : (a : ℕ) (boxes : List ℕ) → (run P boxes a).ending ≡ no_room → count (run P boxes a) ≡ a
  unfolding after
  run-filled a boxes =
      run-all (next P) (λ boxes a r. r.ending ≡ no_room → count r ≡ a)
      (λ boxes a e h. grind arith)
      (λ boxes h. refl)
      (λ boxes a x e h. grind arith)
      (λ boxes left a x r e h q. ap suc (h q))
      a
      boxes

  -- a run with at least as much room as one that did not stop for room, or stopped with all of it
  pub run-last : (m n : ℕ) (boxes : List ℕ) → m ≤ n → ((run P boxes m).ending ≡ no_room → n ≤ m) → run P boxes n ≡ run P boxes m
  run-last m n boxes l h = go (eqb m n) refl
    where
      go : (b : Bool) → eqb m n ≡ b → run P boxes n ≡ run P boxes m
      go true q = ap (run P boxes) (sym (eqb-true m n q))
      go false q =
          let ne : m ≢ n = eqb-false m n q in
          let e : n ≡ m + (n - m) = omega arith in
          ap (run P boxes) e ∙ run_more m (n - m) boxes (λ w. ne (omega (arith, h w)))

-- the boxes that a run leaves pass the tests again
pub run-passes : (P : PackedPlan) (a : ℕ) (boxes : List ℕ) → packed_input_fault P boxes ≡ None
    → packed_input_fault P (run (unpacked P) boxes a).boxes ≡ None
unfolding replay
run-passes P a boxes e =
    ap (λ (l : LogEnd). packed_input_fault P l.boxes) (sym (run-replays (unpacked P) boxes a))
    ∙ replay-passes P 0 false boxes (run (unpacked P) boxes a).log e

-- ---- what the core's answer makes of a part

count-ending : (e : Ending) (taken n : ℕ) → count_of taken (ending_answer e n) ≡ n
count-ending settled taken n = unfold ending_answer in refl
count-ending impossible taken n = unfold ending_answer in refl
count-ending no_room taken n = unfold ending_answer in refl

goes-ending : (e : Ending) (room n : ℕ) → does_go_on room (ending_answer e n) ≡ true → (e ≡ no_room) × (n < room)
unfolding ending_answer
goes-ending settled room n q = absurd (false≢true q)
goes-ending impossible room n q = absurd (false≢true q)
goes-ending no_room room n q = (refl, ltb-true n room q)

ends-ending : (e : Ending) (room n : ℕ) → does_go_on room (ending_answer e n) ≡ false → e ≡ no_room → room ≤ n
unfolding ending_answer
ends-ending settled room n q w = grind arith
ends-ending impossible room n q w = grind arith
ends-ending no_room room n q w = ltb-false n room q

-- an ending is no refusal
ends≢refused : {C : Type 0} {f : Fault} (e : Ending) (n : ℕ) → ending_answer e n ≡ refused_by f → C
unfolding ending_answer
ends≢refused settled n q = grind arith
ends≢refused impossible n q = grind arith
ends≢refused no_room n q = grind arith

-- the count of a run that ended so
counted : (f : Filtered) (e : Ending) (n : ℕ) → filter_answer (Ok f) ≡ ending_answer e n → f.count ≡ n
counted f e n q = sym (count-ending (ending_of f.ending) 0 f.count) ∙ ap (count_of 0) q ∙ count-ending e 0 n

-- the steps in the first cells of three lists that a log was written to
steps_back : (log : List Step) (ks ts hs xs ys zs rest : List ℕ) → ks ≡ map (λ x. x.kind) log ++ xs → ts ≡ map (λ x. x.task) log ++ ys
    → hs ≡ map (λ x. x.hour) log ++ zs → steps_from (ks ++ rest) (ts ++ rest) (hs ++ rest) 0 (length log) ≡ log
steps_back log ks ts hs xs ys zs rest p q s =
    ap (λ (l : List ℕ). steps_from l (ts ++ rest) (hs ++ rest) 0 (length log))
    (ap (λ (l : List ℕ). l ++ rest) p ∙ append_assoc (map (λ x. x.kind) log) xs rest)
    ∙ ap (λ (l : List ℕ). steps_from (map (λ x. x.kind) log ++ (xs ++ rest)) l (hs ++ rest) 0 (length log))
    (ap (λ (l : List ℕ). l ++ rest) q ∙ append_assoc (map (λ x. x.task) log) ys rest)
    ∙ ap (λ (l : List ℕ). steps_from (map (λ x. x.kind) log ++ (xs ++ rest)) (map (λ x. x.task) log ++ (ys ++ rest)) l 0 (length log))
    (ap (λ (l : List ℕ). l ++ rest) s ∙ append_assoc (map (λ x. x.hour) log) zs rest)
    ∙ steps-written log (xs ++ rest) (ys ++ rest) (zs ++ rest)

-- the array that is lent
unfoldable pub blank : List ℕ
blank = replicate part_size 0

-- the cells of a part that ends there
module _ (taken room end : ℕ) (ends : end ≡ taken + min part_size (room - taken)) where
  abbrev cells : ℕ
  cells = end - taken

  few : cells ≡ min part_size (room - taken)
  few = omega (arith, ends)

  fits : cells ≤ part_size
  fits = omega (arith, ends)

  pub lent_length : cells ≡ length (take cells blank)
  unfolding blank
  lent_length = sym (length-take-le cells blank fits)

  inside : cells ≤ length blank
  unfolding blank
  inside = fits

  -- the core, lent the first cells of three arrays, after so many steps
  module _ (P : PackedPlan) (boxes : List ℕ) where
    abbrev core : FilterEnd
    core = filter_from P boxes (take cells blank) (take cells blank) (take cells blank) taken

    abbrev ran : Run
    ran = run (unpacked P) boxes cells

    core-refused : (f : Fault) → packed_input_fault P boxes ≡ Some f
        → core ≡ filter_end (refused_by f) boxes (take cells blank) (take cells blank) (take cells blank)
    unfolding filter_from on_option
    core-refused f e = rw (lent-fault P boxes blank blank blank cells inside inside inside, e)

    core-runs : packed_input_fault P boxes ≡ None → core ≡ logged_from taken ran (take cells blank) (take cells blank) (take cells blank)
    unfolding filter_from on_option
    core-runs e =
        rw (lent-fault P boxes blank blank blank cells inside inside inside, e)
        (ap (λ (n : ℕ). logged_from taken (run (unpacked P) boxes n) (take cells blank) (take cells blank) (take cells blank)) (sym lent_length))

    -- a refusal of the core is of the plan, and changes nothing; it is the part's
    pub refused-as : (d : Refusal) (a : Result PartFiltered Refusal) → IsErrAnd a (λ e. e ≡ d)
        → (left ks ts hs : List ℕ) → filter_end (refused_by (fault_of d)) left ks ts hs ≡ core → FilteredAs P boxes taken room a left
    unfolding logged_from
    refused-as d a h left ks ts hs is = let p = err_from_is_err_and a h in rw (p.1, p.2) (go (packed_input_fault P boxes) refl)
      where
        go : (o : Option Fault) → packed_input_fault P boxes ≡ o → (packed_input_fault P boxes ≡ Some (fault_of d)) × (left ≡ boxes)
        go (Some f) e =
            let c = is ∙ core-refused f e in
            let same : fault_of d ≡ f = let w = ap (λ (x : FilterEnd). x.answer) c in cc in
            (e ∙ ap Some (sym same), ap (λ (x : FilterEnd). x.boxes) c)
        go None e = ends≢refused ran.ending (taken + count ran) (sym (ap (λ (x : FilterEnd). x.answer) (is ∙ core-runs e)))

    module _ (f : Filtered) (left ks ts hs : List ℕ) (is : filter_end (filter_answer (Ok f)) left ks ts hs ≡ core) where
      -- the plan passes
      passed-core : packed_input_fault P boxes ≡ None
      passed-core = go (packed_input_fault P boxes) refl
        where
          go : (o : Option Fault) → packed_input_fault P boxes ≡ o → packed_input_fault P boxes ≡ None
          go None e = e
          go (Some g) e = ends≢refused (ending_of f.ending) f.count (ap (λ (x : FilterEnd). x.answer) (is ∙ core-refused g e))

      core-is : filter_end (filter_answer (Ok f)) left ks ts hs ≡ logged_from taken ran (take cells blank) (take cells blank) (take cells blank)
      core-is = is ∙ core-runs passed-core

      pub count-is : f.count ≡ taken + count ran
      unfolding logged_from
      count-is = counted f ran.ending (taken + count ran) (ap (λ (x : FilterEnd). x.answer) core-is)

      -- the part's steps are as many as a part holds
      pub count-inside : f.count - taken ≤ part_size
      count-inside = omega (arith, count-is, run_fits (next (unpacked P)) boxes cells, fits)

      pub ran-as : (held : f.count - taken ≤ part_size) → FilteredAs P boxes taken room
          (Ok (record {
            steps = record {
              kinds = ks ++ drop cells blank;
              tasks = ts ++ drop cells blank;
              hours = hs ++ drop cells blank;
              count = f.count - taken;
              counted = held;
            };
            filtered = f;
          }))
          left
      unfolding part_run part_steps logged_from written
      ran-as held =
          let past : List ℕ → List ℕ = λ l. drop (length l) (take cells blank) in
          let number : f.count - taken ≡ count ran = omega (arith, count-is) in
          let kinds = ks ++ drop cells blank in
          let tasks = ts ++ drop cells blank in
          let hours = hs ++ drop cells blank in (
            passed-core,
            subst
                (λ (n : ℕ). RanAs (run (unpacked P) boxes n) taken
                (record { steps = record { kinds = kinds; tasks = tasks; hours = hours; count = f.count - taken; counted = held }; filtered = f }) left)
                few
                record {
                  answers = ap (λ (x : FilterEnd). x.answer) core-is;
                  leaves = ap (λ (x : FilterEnd). x.boxes) core-is;
                  steps = ap (steps_from kinds tasks hours 0) number
                      ∙ steps_back ran.log ks ts hs (past (map (λ x. x.kind) ran.log)) (past (map (λ x. x.task) ran.log))
                      (past (map (λ x. x.hour) ran.log))
                      (drop cells blank)
                      (ap (λ (x : FilterEnd). x.kinds) core-is) (ap (λ (x : FilterEnd). x.tasks) core-is) (ap (λ (x : FilterEnd). x.hours) core-is);
                  number = number;
                },
          )

-- ---- the loop over the parts

-- in memory too it is the run, or at once a refusal
pub filter-steps-is : (P : PackedPlan) (boxes : List ℕ) (log : List Step)
    → filter_steps_packed P boxes log
    ≡ on_option (packed_input_fault P boxes) (logged_steps (run (unpacked P) boxes (length log)) log) (λ f. steps_end (refused_by f) boxes log)
unfolding filter_steps_packed packed_input_fault filter_steps input_fault
filter-steps-is P boxes log = over-tested _ P boxes _ _ _ refl

-- ends that agree in each part
same_end : {a a' : FilterAnswer} {b b' : List ℕ} {l l' : List Step} → a ≡ a' → b ≡ b' → l ≡ l' → steps_end a b l ≡ steps_end a' b' l'
same_end p q r = rw (p, q, r)

-- an answer that hands a refusal on
pub handed_end : {left : List ℕ} {log : List Step} (d : Refusal) (r : Result Filtered Refusal) (e : StepsEnd) → IsErrAnd r (λ x. x ≡ d)
    → steps_end (refused_by (fault_of d)) left log ≡ e → steps_end (filter_answer r) left log ≡ e
handed_end d r e h p = let q = err_from_is_err_and r h in rw (q.1, q.2) p

-- What holds at each turn: the steps taken stand in the log's first cells, and the run goes on from here.
pub record Running (P : PackedPlan) (opening : List ℕ) (cells : List Step) (taken : ℕ) (boxes : List ℕ) (log : List Step) : Type 0 where
  pub steps : List Step
  pub number : length steps ≡ taken
  pub inside : taken ≤ length cells
  pub logs : log ≡ steps ++ drop taken cells
  pub goes_on : packed_input_fault P opening ≡ None
      → (packed_input_fault P boxes ≡ None) × (run (unpacked P) opening (length cells) ≡ resumed steps (run (unpacked P) boxes (length cells - taken)))
  pub refuses : (f : Fault) → packed_input_fault P opening ≡ Some f → (boxes ≡ opening) × (taken ≡ 0)
  pub same : length boxes ≡ length opening

module _ {P : PackedPlan} {opening : List ℕ} {cells : List Step} {taken : ℕ} {boxes : List ℕ} {log : List Step}
    (t : Running P opening cells taken boxes log) where
  pub same_log : length log ≡ length cells
  same_log = ap length t.logs ∙ length-append t.steps (drop taken cells) ∙ (omega (arith, t.number, t.inside, length-drop taken cells))

  abbrev room : ℕ
  room = length cells

  abbrev r : Run
  r = part_run P boxes taken room

  -- a plan that passes here passed at the start
  passed-opening : packed_input_fault P boxes ≡ None → packed_input_fault P opening ≡ None
  passed-opening e = go (packed_input_fault P opening) refl
    where
      go : (o : Option Fault) → packed_input_fault P opening ≡ o → packed_input_fault P opening ≡ None
      go None q = q
      go (Some g) q = None≢Some (sym e ∙ ap (packed_input_fault P) (t.refuses g q).0 ∙ q)

  -- a refusal is of the opening, and nothing has changed
  pub part-refuses : (d : Refusal) (left : List ℕ) → FilteredAs P boxes taken room (Err d) left
      → steps_end (refused_by (fault_of d)) left log ≡ filter_steps_packed P opening cells
  unfolding on_option
  part-refuses d left (e, kept) = go (packed_input_fault P opening) refl
    where
      empty : (l : List Step) → length l ≡ 0 → l ≡ []
      empty [] q = refl
      empty (x ∷ xs) q = absurd (omega (arith, q))

      go : (o : Option Fault) → packed_input_fault P opening ≡ o → steps_end (refused_by (fault_of d)) left log ≡ filter_steps_packed P opening cells
      go None q = None≢Some (sym (t.goes_on q).0 ∙ e)
      go (Some h) q =
          let (b, z) = t.refuses h q in
          let no_steps : t.steps ≡ [] = empty t.steps (t.number ∙ z) in
          let same-fault : fault_of d ≡ h = let w : Some (fault_of d) ≡ Some h = sym e ∙ ap (packed_input_fault P) b ∙ q in cc in
          rw (filter-steps-is P opening cells, q)
          (same_end (ap refused_by same-fault) (kept ∙ b)
          (t.logs ∙ ap (λ (s : List Step). s ++ drop taken cells) no_steps ∙ ap (λ (n : ℕ). drop n cells) z))

  module _ (f : PartFiltered) (left : List ℕ) (c : FilteredAs P boxes taken room (Ok f) left) where
    abbrev as_run : RanAs r taken f left
    as_run = c.1

    -- the part's steps fit the log
    pub steps-inside : taken + f.steps.count ≤ length log
    unfolding part_run
    steps-inside = omega (arith, same_log, t.inside, run_fits (next (unpacked P)) boxes (min part_size (room - taken)), as_run.number)

    module _ (new : List Step) (is : new ≡ take taken log ++ written (part_steps f.steps) (drop taken log)) where
      -- the log with the part's steps
      logs_more : new ≡ (t.steps ++ r.log) ++ drop (taken + count r) cells
      unfolding written
      logs_more =
          is
          ∙ ap (λ (s : List Step). s ++ written (part_steps f.steps) (drop taken log))
          (ap (take taken) t.logs ∙ take_at t.steps (drop taken cells) taken t.number)
          ∙ ap (λ (s : List Step). t.steps ++ written (part_steps f.steps) s)
          (ap (drop taken) t.logs ∙ drop_at t.steps (drop taken cells) taken t.number)
          ∙ ap (λ (s : List Step). t.steps ++ (s ++ drop (length s) (drop taken cells))) as_run.steps
          ∙ ap (λ (s : List Step). t.steps ++ (r.log ++ s)) (drop-drop (count r) taken cells)
          ∙ sym (append_assoc t.steps r.log (drop (taken + count r) cells))

      -- a part after which the run goes on was full, with room after it
      module _ (more : does_go_on room (filter_answer (Ok f.filtered)) ≡ true) where
        part-full : (r.ending ≡ no_room) × (count r ≡ min part_size (room - taken)) × (f.filtered.count ≡ taken + count r) × (f.filtered.count < room)
        unfolding part_run
        part-full =
            let number = counted f.filtered r.ending (taken + count r) as_run.answers in
            let (full, inside) = goes-ending r.ending room (taken + count r) (sym (ap (does_go_on room) as_run.answers) ∙ more) in
            (full, run-filled (unpacked P) (min part_size (room - taken)) boxes full, number, omega (arith, number, inside))

        pub part-runs-on : length left ≡ length boxes → Running P opening cells f.filtered.count left new
        unfolding part_run
        part-runs-on kept =
            let (full, all, number, inside) = part-full in
            let m = min part_size (room - taken) in
            let now = f.filtered.count in
            let rest : room - taken ≡ m + (room - now) = omega (arith, all, number, t.inside) in
            let opened = passed-opening c.0 in
            record {
              steps = t.steps ++ r.log;
              number = length-append t.steps r.log ∙ (omega (arith, t.number, number));
              inside = omega (arith, inside);
              logs = logs_more ∙ ap (λ (n : ℕ). (t.steps ++ r.log) ++ drop n cells) (sym number);
              goes_on = λ q. (
                ap (packed_input_fault P) as_run.leaves ∙ run-passes P m boxes c.0,
                (t.goes_on q).1
                    ∙ ap (λ (n : ℕ). resumed t.steps (run (unpacked P) boxes n)) rest
                    ∙ ap (resumed t.steps) (run-resumes (next (unpacked P)) boxes m (room - now) full)
                    ∙ ap (λ (l : List ℕ). resumed t.steps (resumed r.log (run (unpacked P) l (room - now)))) (sym as_run.leaves)
                    ∙ ap (λ (l : List Step). ended (run (unpacked P) left (room - now)).ending l (run (unpacked P) left (room - now)).boxes)
                    (sym (append_assoc t.steps r.log (run (unpacked P) left (room - now)).log)),
              );
              refuses = λ g q. None≢Some (sym opened ∙ q);
              same = kept ∙ t.same;
            }

        pub part-shortens : room - f.filtered.count < room - taken
        part-shortens = let (_, all, number, inside) = part-full in omega (arith, all, number, inside, t.inside)

      pub part-leaves : does_go_on room (filter_answer (Ok f.filtered)) ≡ false
          → steps_end (filter_answer (Ok f.filtered)) left new ≡ filter_steps_packed P opening cells
      unfolding part_run logged_steps on_option written
      part-leaves more =
          let last = ends-ending r.ending room (taken + count r) (sym (ap (does_go_on room) as_run.answers) ∙ more) in
          let opened = passed-opening c.0 in
          let m = min part_size (room - taken) in
          let ends : run (unpacked P) boxes (room - taken) ≡ run (unpacked P) boxes m =
          run-last (unpacked P) m (room - taken) boxes (omega arith) (λ q. omega (arith, last q, run_fits (next (unpacked P)) boxes m)) in
          let whole : run (unpacked P) opening room ≡ resumed t.steps r = (t.goes_on opened).1 ∙ ap (resumed t.steps) ends in
          let long : length (t.steps ++ r.log) ≡ taken + count r = length-append t.steps r.log ∙ (omega (arith, t.number)) in
          rw (filter-steps-is P opening cells, opened, whole)
          (same_end (as_run.answers ∙ ap (ending_answer r.ending) (sym long)) as_run.leaves
          (logs_more ∙ ap (λ (n : ℕ). (t.steps ++ r.log) ++ drop n cells) (sym long)))
