-- Plan text is read as before W-208: a text that was accepted is, since its lines are short and few; one that is accepted now was, or was too long or of
-- too many hours. Assumes nothing.
use Rattle.std.specs.Prelude.{if◌then◌else◌}
use mathlib.Core.Path.{◌≡◌, refl, sym, ap, ◌∙◌, subst}
use mathlib.Core.Bool.{Bool, true, false}
use mathlib.Core.Logic.{◌⊎◌, inl, inr}
use mathlib.Core.List.{List, [], ◌∷◌, ◌++◌, map, append_assoc, append-nil}
use Rattle.std.specs.Prelude.{Option, None, Some}
use Prim.Native.Nat.{ℕ, suc, ◌+◌, ◌≤◌, ◌<◌}
use native.Mathlib.Omega.{arith}
use lib.Dec.{eqb, leb}
use lib.ListN.{length, take}
use lib.Seq.{take_all}
use borrow.Author.Tests.{leb-true, leb-false, le-leb, eqb-true}
use Rattle.units.specs.Choice.{◌and◌, ◌or_else◌, on_option}
use Rattle.units.specs.Limits.{within, most_hours}
use Rattle.units.specs.Lists.{joined}
use Rattle.units.proofs.Choices.{and_both, and_left, and_right, if_some, if-case, None≢Some, option-case, if-true, neither}
use Rattle.units.proofs.Ranges.{from-least, to-most, is_within, too_large}
use Rattle.plan.specs.Packed.{bytes_of, packed}
use Rattle.plan.specs.Refusals.{fault, unless, refused, answered, on_answer}
use Rattle.plan.specs.Faults.{plan_fault}
use Rattle.plan.proofs.Passed.{counts-passed}
use Rattle.plan.proofs.Refusals.{unless-none, go_on, refuse, refused≢answered}
use Rattle.text.specs.Fields.{lf, parts, into_first}
use Rattle.plan_format.specs.Records.{Record, plan_record, cal_record, task_record, after_record, record_of}
use Rattle.plan_format.specs.Text.{Read, nothing, plan_section, comes, is_task_line, with_record, with_line}
use Rattle.plan_format.specs.Text.{most_lines, is_line, with_line_at, read_lines, read_text}
use Rattle.plan_format.specs.Reading.{all_of, line_fault, read_fault, is_enough, stored, read_plan, plan_in}
use Rattle.plan_format.specs.ShortTexts as former
use Rattle.plan_format.specs.ShortTexts.{most_bytes, AsBefore}
use Rattle.plan_format.proofs.Calendars.{letters-read}
use Rattle.plan_format.proofs.Readings.{enough, read_whole, not-refused}
use Rattle.plan_format.proofs.Texts.{line-comes}
use Rattle.plan_format.proofs.Widths.{width, record-width}

-- what an accepted plan has of rooms and of hours a calendar
record Short (r : Read) : Type 0 where
  pub rooms : length r.capacities ≤ 8
  pub calendars : (before after : List (List ℕ)) (l : List ℕ) → r.calendars ≡ before ++ (l ∷ after) → length l ≤ 1008

-- what was read stays in what is read in the end
record Stays (r end : Read) : Type 0 where
  pub capacities : end.capacities ≡ r.capacities
  pub more : List (List ℕ)
  pub calendars : end.calendars ≡ r.calendars ++ more

stays-none : (r : Read) → Stays r r
stays-none r = record { capacities = refl; more = []; calendars = sym (append-nil r.calendars) }

stays-both : {a b c : Read} → Stays a b → Stays b c → Stays a c
stays-both {a = a} p q =
    record {
      capacities = q.capacities ∙ p.capacities;
      more = p.more ++ q.more;
      calendars = q.calendars ∙ ap (λ l. l ++ q.more) p.calendars ∙ append_assoc a.calendars p.more q.more;
    }

plan-first : (reached : ℕ) → comes plan_section reached ≡ true → eqb reached 0 ≡ true
unfolding comes
plan-first reached e = e

-- a record more, once the plan line has come
step : (r more : Read) (x : Record) → 1 ≤ r.reached → with_record r x ≡ Some more → Stays r more × (1 ≤ more.reached)
unfolding with_record
step r more (plan_record h cs) begun e =
    let first : eqb r.reached 0 ≡ true = plan-first r.reached (if_some _ _ _ e).0 in
    absurd (omega (arith, eqb-true r.reached 0 first, begun))
step r more (cal_record l) begun e =
    rw (← (if_some _ _ _ e).1) (record { capacities = refl; more = l ∷ []; calendars = refl }, omega arith)
step r more (task_record ns) begun e =
    rw (← (if_some _ _ _ e).1) (record { capacities = refl; more = []; calendars = sym (append-nil r.calendars) }, omega arith)
step r more (after_record a b) begun e =
    rw (← (if_some _ _ _ e).1) (record { capacities = refl; more = []; calendars = sym (append-nil r.calendars) }, omega arith)

begins : (r more : Read) (x : Record) → with_record r x ≡ Some more → 1 ≤ more.reached
unfolding with_record
begins r more (plan_record h cs) e = rw (← (if_some _ _ _ e).1) (omega arith)
begins r more (cal_record l) e = rw (← (if_some _ _ _ e).1) (omega arith)
begins r more (task_record ns) e = rw (← (if_some _ _ _ e).1) (omega arith)
begins r more (after_record a b) e = rw (← (if_some _ _ _ e).1) (omega arith)

-- a record of an accepted plan needs no more than this
task-numbers : (rooms n : ℕ) → is_task_line rooms n ≡ true → n ≤ rooms + 8
unfolding is_task_line
task-numbers rooms n e =
    if-case _ _ _ _ e (λ t k. omega (arith, eqb-true n (rooms + 2) t)) (λ f k. omega (arith, eqb-true n (rooms + 8) k))

small : (r more end : Read) (x : Record) → with_record r x ≡ Some more → Stays more end → Short end → width x ≤ 6000
unfolding with_record width
small r more end (plan_record h cs) e stays short =
    let q = (if_some _ _ _ e).1 in
    let same : end.capacities ≡ cs = stays.capacities ∙ sym (ap (λ (y : Read). y.capacities) q) in
    omega (arith, ap length same, short.rooms)
small r more end (cal_record l) e stays short =
    let q = (if_some _ _ _ e).1 in
    let all : end.calendars ≡ r.calendars ++ (l ∷ stays.more) =
    stays.calendars ∙ ap (λ cs. cs ++ stays.more) (sym (ap (λ (y : Read). y.calendars) q)) ∙ append_assoc r.calendars (l ∷ []) stays.more in
    omega (arith, short.calendars r.calendars stays.more l all)
small r more end (task_record ns) e stays short =
    let (is, q) = if_some _ _ _ e in
    let same : end.capacities ≡ r.capacities = stays.capacities ∙ sym (ap (λ (y : Read). y.capacities) q) in
    omega (arith, ap length same, short.rooms, task-numbers (length r.capacities) (length ns) (and_right _ _ is))
small r more end (after_record a b) e stays short = omega arith

-- ---- from line to line

in-line : (r more : Read) (line : List ℕ) → with_line r line ≡ Some more → (x : Record) × (record_of line ≡ Some x) × (with_record r x ≡ Some more)
unfolding with_line
in-line r more line e = option-case (record_of line) _ _ _ e (λ none k. None≢Some k) (λ x is k. (x, is, k))

same-answered : {A : Type 0} {x y : A} → answered x ≡ answered y → x ≡ y
same-answered e = cc

stays-all : (whole : Bool) (k : ℕ) (r end : Read) (ls : List (List ℕ)) → 1 ≤ r.reached → former.read_lines whole k r ls ≡ answered end → Stays r end
unfolding former.read_lines
stays-all whole k r end [] begun e = refused≢answered e
stays-all whole k r end (line ∷ []) begun e =
    if-case (whole and leb plan_section r.reached and eqb (length line) 0) (answered r) (refused (fault 1 k)) (answered end) e
    (λ t q. subst (Stays r) (same-answered q) (stays-none r))
    (λ f q. refused≢answered q)
stays-all whole k r end (line ∷ (next ∷ ls)) begun e =
    option-case (with_line r line) _ _ _ e (λ none q. refused≢answered q)
    (λ more is q.
    let (x, record-is, with-is) = in-line r more line is in
    let (stays, begun') = step r more x begun with-is in
    stays-both stays (stays-all whole (k + 1) more end (next ∷ ls) begun' q))

module _ (end : Read) (short : Short end) where
  reads : (whole : Bool) (k : ℕ) (r : Read) (ls : List (List ℕ)) → k + length ls ≤ most_lines + 2 → former.read_lines whole k r ls ≡ answered end
      → read_lines k r ls ≡ answered end
  unfolding former.read_lines read_lines with_line_at on_option
  reads whole k r [] few e = refused≢answered e
  reads whole k r (line ∷ []) few e =
      if-case (whole and leb plan_section r.reached and eqb (length line) 0) (answered r) (refused (fault 1 k)) (answered end) e
      (λ t q. if-true _ _ _ (and_right whole _ t) ∙ q)
      (λ f q. refused≢answered q)
  reads whole k r (line ∷ (next ∷ ls)) few e =
      option-case (with_line r line) _ _ _ e (λ none q. refused≢answered q)
      (λ more is q.
      let (x, record-is, with-is) = in-line r more line is in
      let stays = stays-all whole (k + 1) more end (next ∷ ls) (begins r more x with-is) q in
      let size : length line ≤ 6000 = omega (arith, record-width line x record-is, small r more end x with-is stays short) in
      let fits = line-comes k (length line) (omega (arith, size)) (omega (arith, few)) in
      rw fits (rw is (reads whole (k + 1) more (next ∷ ls) (omega (arith, few)) q)))

whole-told : (whole : Bool) (k : ℕ) (r end : Read) (ls : List (List ℕ)) → former.read_lines whole k r ls ≡ answered end → whole ≡ true
unfolding former.read_lines
whole-told whole k r end [] e = refused≢answered e
whole-told whole k r end (line ∷ []) e =
    if-case (whole and leb plan_section r.reached and eqb (length line) 0) (answered r) (refused (fault 1 k)) (answered end) e
    (λ t q. and_left whole _ t)
    (λ f q. refused≢answered q)
whole-told whole k r end (line ∷ (next ∷ ls)) e =
    option-case (with_line r line) _ _ _ e (λ none q. refused≢answered q) (λ more is q. whole-told whole (k + 1) more end (next ∷ ls) q)

parts-few : (l : List ℕ) → length (parts lf l) ≤ length l + 1
unfolding parts into_first
parts-few [] = omega arith
parts-few (b ∷ bs) = go (parts-few bs) (parts lf bs) refl (eqb b lf)
  where
    go : length (parts lf bs) ≤ length bs + 1 → (ps : List (List ℕ)) → parts lf bs ≡ ps → (t : Bool)
        → length (if t then [] ∷ parts lf bs else into_first b (parts lf bs)) ≤ suc (length bs) + 1
    go h ps e true = omega (arith, h)
    go h [] e false = rw e (omega arith)
    go h (p ∷ ps) e false = rw e (omega (arith, h, ap length e))

-- a text that was read, of a plan that passes, is read as the same
text-accepted : (text : List ℕ) (end : Read) → former.read_text text ≡ answered end → Short end → read_text text ≡ answered end
unfolding former.read_text read_text
text-accepted text end e short =
    let size : length text ≤ most_bytes = leb-true _ _ (whole-told _ 1 nothing end _ e) in
    let all : take most_bytes text ≡ text = take_all most_bytes text size in
    reads end short (leb (length text) most_bytes) 1 nothing (parts lf text) (omega (arith, size, parts-few text)) (rw all at e)

-- ---- as an older reader answers

older-lines : (k : ℕ) (r end : Read) (ls : List (List ℕ)) → read_lines k r ls ≡ answered end → former.read_lines true k r ls ≡ answered end
unfolding former.read_lines read_lines with_line_at on_option
older-lines k r end [] e = refused≢answered e
older-lines k r end (line ∷ []) e = e
older-lines k r end (line ∷ (next ∷ ls)) e = go (λ more. older-lines (k + 1) more end (next ∷ ls)) (is_line k (length line)) e
  where
    by-line : (o : Option Read)
        → ((more : Read) → read_lines (k + 1) more (next ∷ ls) ≡ answered end → former.read_lines true (k + 1) more (next ∷ ls) ≡ answered end)
        → on_option o (refused (fault 1 k)) (λ more. read_lines (k + 1) more (next ∷ ls)) ≡ answered end
        → on_option o (refused (fault 1 k)) (λ more. former.read_lines true (k + 1) more (next ∷ ls)) ≡ answered end
    by-line None before q = refused≢answered q
    by-line (Some more) before q = before more q

    go : ((more : Read) → read_lines (k + 1) more (next ∷ ls) ≡ answered end → former.read_lines true (k + 1) more (next ∷ ls) ≡ answered end)
        → (b : Bool) → on_option (if b then with_line r line else None) (refused (fault 1 k)) (λ more. read_lines (k + 1) more (next ∷ ls)) ≡ answered end
        → on_option (with_line r line) (refused (fault 1 k)) (λ more. former.read_lines true (k + 1) more (next ∷ ls)) ≡ answered end
    go before true q = by-line (with_line r line) before q
    go before false q = refused≢answered q

too-long : (k : ℕ) (r : Read) (ls : List (List ℕ)) → (m : ℕ) × (former.read_lines false k r ls ≡ refused (fault 1 m))
unfolding former.read_lines on_option
too-long k r [] = (k, refl)
too-long k r (line ∷ []) = (k, refl)
too-long k r (line ∷ (next ∷ ls)) = go (with_line r line) (λ more. too-long (k + 1) more (next ∷ ls))
  where
    go : (o : Option Read) → ((more : Read) → (m : ℕ) × (former.read_lines false (k + 1) more (next ∷ ls) ≡ refused (fault 1 m)))
        → (m : ℕ) × (on_option o (refused (fault 1 k)) (λ more. former.read_lines false (k + 1) more (next ∷ ls)) ≡ refused (fault 1 m))
    go None h = (k, refl)
    go (Some more) h = h more

-- a text that is read now was read as the same, or was longer than 32,768 bytes and malformed for that
text-older : (text : List ℕ) (end : Read) → read_text text ≡ answered end
    → (former.read_text text ≡ answered end) ⊎ ((most_bytes < length text) × ((m : ℕ) × (former.read_text text ≡ refused (fault 1 m))))
unfolding former.read_text read_text
text-older text end e = go (leb (length text) most_bytes) refl
  where
    go : (b : Bool) → leb (length text) most_bytes ≡ b
        → (former.read_lines (leb (length text) most_bytes) 1 nothing (parts lf (take most_bytes text)) ≡ answered end)
        ⊎ ((most_bytes < length text)
        × ((m : ℕ) × (former.read_lines (leb (length text) most_bytes) 1 nothing (parts lf (take most_bytes text)) ≡ refused (fault 1 m))))
    go true q = inl (rw (q, take_all most_bytes text (leb-true _ _ q)) (older-lines 1 nothing end (parts lf text) e))
    go false q = inr (leb-false _ _ q, rw q (too-long 1 nothing (parts lf (take most_bytes text))))

-- ---- the plans

module _ (r : Read) where
  -- 2 alone has another limit
  former-pass : former.read_fault r ≡ None → (read_fault true r ≡ None) × (r.hours ≤ former.most_hours)
  unfolding former.read_fault
  former-pass e =
      let (few, rest) = neither _ _ e in
      (rest, to-most 1 former.most_hours r.hours (unless-none _ 2 0 few))

  -- a line of the calendars, wherever it stands among them
  among : (h : ℕ) (before after : List (List ℕ)) (l : List ℕ) → all_of h (before ++ (l ∷ after)) ≡ true → length l ≡ h
  unfolding all_of
  among h [] after l e = eqb-true (length l) h (and_left _ _ e)
  among h (k ∷ before) after l e = among h before after l (and_right _ _ e)

  passed-short : former.read_fault r ≡ None → Short r
  unfolding read_fault line_fault plan_fault plan_in
  passed-short e =
      let (now, few) = former-pass e in
      let (lines, rest) = neither _ _ (neither _ _ now).1 in
      let all = and_right _ _ (unless-none _ 3 0 (neither _ _ lines).1) in
      record {
        rooms = (counts-passed (neither _ _ (neither _ _ rest).1).0).rooms;
        calendars = λ before after l q. omega (arith, few, among r.hours before after l (ap (all_of r.hours) (sym q) ∙ all));
      }

  pub accepted : (text : List ℕ) → former.read_text text ≡ answered r → former.read_fault r ≡ None
      → (read_text text ≡ answered r) × (read_fault true r ≡ None)
  accepted text e passes = (text-accepted text r e (passed-short passes), (former-pass passes).0)

  -- what was answered of a plan that passes now
  by-hours : read_fault true r ≡ None
      → (former.read_fault r ≡ None) ⊎ ((former.read_fault r ≡ Some (fault 2 0)) × (former.most_hours < r.hours))
  unfolding former.read_fault read_fault line_fault
  by-hours passes = go (leb r.hours former.most_hours) refl
    where
      some : 1 ≤ r.hours
      some = from-least 1 most_hours r.hours (unless-none _ 2 0 (neither _ _ (neither _ _ (neither _ _ passes).1).0).0)

      go : (b : Bool) → leb r.hours former.most_hours ≡ b
          → ((unless (within 1 former.most_hours r.hours) 2 0 or_else read_fault true r) ≡ None)
          ⊎ (((unless (within 1 former.most_hours r.hours) 2 0 or_else read_fault true r) ≡ Some (fault 2 0)) × (former.most_hours < r.hours))
      go true q = inl (go_on _ 2 0 _ (is_within 1 former.most_hours r.hours some (leb-true _ _ q)) ∙ passes)
      go false q =
          let long : former.most_hours < r.hours = leb-false _ _ q in
          inr (refuse _ 2 0 _ (too_large 1 former.most_hours r.hours long), long)

  older : (text : List ℕ) → read_text text ≡ answered r → read_fault true r ≡ None
      → ((former.read_text text ≡ answered r) × (former.read_fault r ≡ None))
      ⊎ (((most_bytes < length text) × ((k : ℕ) × (former.read_text text ≡ refused (fault 1 k))))
      ⊎ ((former.read_text text ≡ answered r) × (former.read_fault r ≡ Some (fault 2 0)) × (former.most_hours < r.hours)))
  older text e passes = by-text (text-older text r e) (by-hours passes)
    where
      by-text : (former.read_text text ≡ answered r) ⊎ ((most_bytes < length text) × ((k : ℕ) × (former.read_text text ≡ refused (fault 1 k))))
          → (former.read_fault r ≡ None) ⊎ ((former.read_fault r ≡ Some (fault 2 0)) × (former.most_hours < r.hours))
          → ((former.read_text text ≡ answered r) × (former.read_fault r ≡ None))
          ⊎ (((most_bytes < length text) × ((k : ℕ) × (former.read_text text ≡ refused (fault 1 k))))
          ⊎ ((former.read_text text ≡ answered r) × (former.read_fault r ≡ Some (fault 2 0)) × (former.most_hours < r.hours)))
      by-text (inr long) h = inr (inl long)
      by-text (inl same) (inl h) = inl (same, h)
      by-text (inl same) (inr h) = inr (inr (same, h.0, h.1))

-- ---- into memory

module _ (rs cs ts ws hs ps bs text : List ℕ) (r : Read) (room : is_enough rs cs ts ws hs ps bs ≡ true) (e : former.read_text text ≡ answered r)
    (passes : former.read_fault r ≡ None) where
  -- memory that is enough for bytes was enough for letters
  room-before : former.is_enough rs cs ts ws hs ps bs ≡ true
  unfolding former.is_enough bytes_of
  room-before =
      let lent = enough rs cs ts ws hs ps bs room in
      and_both _ _ (le-leb _ _ lent.capacities)
      (and_both _ _ (le-leb _ _ (omega (arith, lent.calendars)))
      (and_both _ _ (le-leb _ _ lent.task_calendars)
      (and_both _ _ (le-leb _ _ lent.work_times)
      (and_both _ _ (le-leb _ _ lent.heights)
      (and_both _ _ (le-leb _ _ lent.pairs) (le-leb _ _ lent.boxes))))))

  left-before : former.read_plan rs cs ts ws hs ps bs text ≡ former.stored_with rs cs ts ws hs ps bs (joined r.calendars) r
  unfolding former.read_plan on_answer on_option
  left-before = rw (e, go_on _ 31 0 (former.read_fault r) room-before ∙ passes)

  stored-now : stored rs cs ts ws hs ps bs r ≡ former.stored_with rs cs ts ws hs ps bs (joined (map packed r.calendars)) r
  unfolding stored former.stored_with
  stored-now = refl

  left-now : read_plan rs cs ts ws hs ps bs text ≡ former.stored_with rs cs ts ws hs ps bs (joined (map packed r.calendars)) r
  left-now =
      let (is, free) = accepted r text e passes in
      sym (read_whole rs cs ts ws hs ps bs text r is) ∙ sym (not-refused rs cs ts ws hs ps bs r room free) ∙ stored-now

pub as-before : AsBefore
as-before =
    record {
      accepted = λ text r e passes. accepted r text e passes;
      older = λ text r e passes. older r text e passes;
      left = λ rs cs ts ws hs ps bs text r room e passes. (
        left-before rs cs ts ws hs ps bs text r room e passes,
        left-now rs cs ts ws hs ps bs text r room e passes,
      );
      letters = letters-read;
    }
