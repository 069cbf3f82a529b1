-- Laws of a text that is read piece by piece: what one piece more makes of what has been read. Assumes nothing.
use Rattle.std.specs.Prelude.{if◌then◌else◌}
use mathlib.Core.Path.{◌≡◌, refl, sym, ap, ap₂, ◌∙◌, subst}
use mathlib.Core.Bool.{true, false}
use Rattle.std.specs.Prelude.{Option, None, Some}
use mathlib.Core.List.{List, [], ◌∷◌, ◌++◌, append_assoc, append-nil}
use Prim.Native.Nat.{ℕ, ◌+◌, ◌≤◌, ◌<◌}
use native.Mathlib.Omega.{arith}
use lib.Dec.{leb, eqb}
use lib.ListN.{length, take, length-append}
use lib.Seq.{length-take-le}
use borrow.Author.Tests.{le-leb, lt-leb}
use Rattle.units.specs.Choice.{◌and◌}
use Rattle.units.proofs.Cells.{written-length, written-front}
use Rattle.units.proofs.Choices.{if-true, if-false, and_both, not_right, true≢false}
use Rattle.plan.specs.Refusals.{fault, Answer, refused, answered}
use Rattle.text.specs.Fields.{lf, parts, first_at}
use Rattle.text.specs.Putting.{Put}
use Rattle.text.proofs.Parting.{without-both}
use Rattle.plan_format.specs.Text.{Read, nothing, plan_section, with_line, most_line, most_lines, is_line, read_lines, read_text}
use Rattle.plan_lines.specs.declared.Reading.{Reading}
use Rattle.plan_lines.specs.declared.Store.{Store}
use Rattle.plan_lines.specs.declared.Scan.{Scan}
use Rattle.plan_lines.specs.Inner.Scanning.{bytes_before, Follows, line_ended}
use Rattle.plan_lines.specs.Pieces.{held_of, rest_of, IsRead, IsReady, Takes, SameState}
use Rattle.plan_lines.proofs.Lining.{line-read, line-broken, line-no, line-long, text-end}
use Rattle.units.specs.Limits.{most_rooms}
use Rattle.plan_lines.specs.Inner.Scanning.{capacities_at}
use Rattle.plan_lines.specs.declared.Section.TheVariants as section_is
use Rattle.plan_lines.proofs.Sections.{kept-none}
use Rattle.plan_lines.proofs.Following.{bare, holds-empty, holds_later}

no-first : (held : List ℕ) → first_at lf (take 0 held) ≡ 0
unfolding first_at
no-first held = refl

-- a longer text
longer : (text more after : List ℕ) (a : Answer Read) → read_text (text ++ (more ++ after)) ≡ a → read_text (text ++ more ++ after) ≡ a
longer text more after a e = ap read_text (append_assoc text more after) ∙ e

module _ {text : List ℕ} {m : Reading} (read : IsRead text m) where
  -- what broke the rules stays broken
  pub stays-broken : (more : List ℕ) → m.broken ≡ true → IsRead (text ++ more) m
  unfolding rest_of
  stays-broken more b =
      record {
        so_far = read.so_far;
        decides = λ after. longer text more after _ (read.decides (more ++ after) ∙ if-true _ _ _ b) ∙ sym (if-true _ _ _ b);
        begun = read.begun;
        few = read.few;
        cells = read.cells;
        short = read.short;
        no_lf = λ f. true≢false b f;
        holds = λ f. true≢false b f;
      }

  module _ (whole : m.broken ≡ false) where
    going : (after : List ℕ) → read_text (text ++ after) ≡ read_lines m.line read.so_far (parts lf (held_of m ++ after))
    unfolding rest_of
    going after = read.decides after ∙ if-false _ _ _ whole

    -- this piece breaks them
    pub breaks : (more : List ℕ) (store : Store) (held : List ℕ) → length held ≡ most_line
        → ((after : List ℕ) → read_lines m.line read.so_far (parts lf (held_of m ++ (more ++ after))) ≡ refused (fault 1 m.line))
        → IsRead (text ++ more) (record m { store = store; held = held; broken = true })
    unfolding rest_of
    breaks more store held cells h =
        record {
          so_far = read.so_far;
          decides = λ after. longer text more after _ (going (more ++ after) ∙ h after);
          begun = read.begun;
          few = read.few;
          cells = cells;
          short = read.short;
          no_lf = λ f. true≢false refl f;
          holds = λ f. true≢false refl f;
        }

    -- bytes without LF after those held
    module _ (part : List ℕ) (no-lf : first_at lf part ≡ length part) where
      held-length : length (held_of m) ≡ m.length
      held-length = length-take-le m.length m.held (omega (arith, read.short, read.cells))

      pub line-length : length (held_of m ++ part) ≡ m.length + length part
      line-length = omega (arith, length-append (held_of m) part, held-length)

      line-no-lf : first_at lf (held_of m ++ part) ≡ length (held_of m ++ part)
      line-no-lf = without-both lf (held_of m) part (read.no_lf whole ∙ sym held-length) no-lf

      -- they are too many
      pub too-long : (after : List ℕ) → most_line ≤ m.length + length part
          → read_lines m.line read.so_far (parts lf (held_of m ++ (part ++ after))) ≡ refused (fault 1 m.line)
      too-long after l =
          ap (λ xs. read_lines m.line read.so_far (parts lf xs)) (sym (append_assoc (held_of m) part after))
          ∙ line-long m.line read.so_far (held_of m ++ part) after line-no-lf (omega (arith, l, line-length))

      module _ (fits : m.length + length part < most_line) {next : ℕ} {held : List ℕ} (put : Put part m.length m.held next held) where
        pub held-cells : length held ≡ most_line
        held-cells = ap length put.cells_left ∙ written-length m.length part m.held (omega (arith, fits, read.cells)) ∙ read.cells

        pub held-now : take next held ≡ held_of m ++ part
        held-now =
            ap₂ (λ (n : ℕ) (xs : List ℕ). take n xs) put.place put.cells_left
            ∙ written-front m.length part m.held (omega (arith, read.short, read.cells))

        -- and the line goes on
        pub held-more : IsRead (text ++ part) (record m { held = held; length = next })
        unfolding rest_of
        held-more =
            record {
              so_far = read.so_far;
              decides = λ after.
                  longer text part after _ (going (part ++ after)
                  ∙ ap (λ xs. read_lines m.line read.so_far (parts lf xs)) (sym (append_assoc (held_of m) part after) ∙ ap (λ xs. xs ++ after) (sym held-now)))
                  ∙ sym (if-false _ _ _ whole);
              begun = read.begun;
              few = read.few;
              cells = held-cells;
              short = omega (arith, put.place, fits);
              no_lf = λ f. ap (first_at lf) held-now ∙ line-no-lf ∙ line-length ∙ sym put.place;
              holds = read.holds;
            }

      -- LF after them
      ended-by : (after : List ℕ) → read_lines m.line read.so_far (parts lf (held_of m ++ (part ++ (lf ∷ []) ++ after)))
          ≡ read_lines m.line read.so_far (parts lf (held_of m ++ part ++ (lf ∷ after)))
      ended-by after =
          ap (λ xs. read_lines m.line read.so_far (parts lf xs))
          (ap (λ xs. held_of m ++ xs) (append_assoc part (lf ∷ []) after) ∙ sym (append_assoc (held_of m) part (lf ∷ after)))

      -- too many bytes before their LF, or too late a line
      pub end-too-long : (after : List ℕ) → most_line ≤ m.length + length part
          → read_lines m.line read.so_far (parts lf (held_of m ++ (part ++ (lf ∷ []) ++ after))) ≡ refused (fault 1 m.line)
      end-too-long after l =
          ended-by after ∙ line-long m.line read.so_far (held_of m ++ part) (lf ∷ after) line-no-lf (omega (arith, l, line-length))

      pub end-too-late : (after : List ℕ) → most_lines < m.line
          → read_lines m.line read.so_far (parts lf (held_of m ++ (part ++ (lf ∷ []) ++ after))) ≡ refused (fault 1 m.line)
      unfolding is_line
      end-too-late after l =
          ended-by after
          ∙ line-no m.line read.so_far (held_of m ++ part) after line-no-lf (not_right _ (leb m.line most_lines) (lt-leb _ _ l))

      module _ (fits : m.length + length part < most_line) (early : m.line ≤ most_lines) where
        is-line : is_line m.line (length (held_of m ++ part)) ≡ true
        unfolding is_line
        is-line = and_both _ _ (le-leb (length (held_of m ++ part) + 1) most_line (omega (arith, fits, line-length))) (le-leb m.line most_lines early)

        -- the line is none
        end-broken : (after : List ℕ) → with_line read.so_far (held_of m ++ part) ≡ None
            → read_lines m.line read.so_far (parts lf (held_of m ++ (part ++ (lf ∷ []) ++ after))) ≡ refused (fault 1 m.line)
        end-broken after e =
            ended-by after ∙ line-broken m.line read.so_far (held_of m ++ part) after line-no-lf is-line e

        -- the line is one, and the next begins
        next-line : (s : Scan) (store : Store) (held : List ℕ) {n : ℕ} → length held ≡ most_line
            → Follows (with_line read.so_far (held_of m ++ part)) (Some s) n store.calendars store.cells → n ≤ bytes_before m.line + most_line
            → IsRead (text ++ (part ++ (lf ∷ [])))
            (record { store = store; scan = s; line = m.line + 1; held = held; length = 0; broken = m.broken })
        unfolding rest_of Follows
        next-line s store held cells follows bytes =
            let (r, e, holds) = follows in
            let begun = read.begun in
            record {
              so_far = r;
              decides = λ after.
                  longer text (part ++ (lf ∷ [])) after _ (going (part ++ (lf ∷ []) ++ after)
                  ∙ ended-by after
                  ∙ line-read m.line read.so_far (held_of m ++ part) after line-no-lf r is-line e)
                  ∙ sym (if-false _ _ _ whole);
              begun = omega arith;
              few = omega (arith, early);
              cells = cells;
              short = omega arith;
              no_lf = λ f. no-first held;
              holds = λ f. holds_later holds (bytes_before (m.line + 1)) (omega (arith, bytes, begun));
            }

        -- either, as the code goes on
        pub line-taken : (o : Option Scan) (store : Store) (held : List ℕ) {n : ℕ} {after : Reading} → length held ≡ most_line
            → Follows (with_line read.so_far (held_of m ++ part)) o n store.calendars store.cells → n ≤ bytes_before m.line + most_line
            → after ≡ line_ended (record m { store = store; held = held }) o → IsRead (text ++ (part ++ (lf ∷ []))) after
        unfolding Follows
        line-taken None store held cells follows bytes e =
            subst (IsRead _) (sym e) (breaks (part ++ (lf ∷ [])) store held cells (λ after. end-broken after follows))
        line-taken (Some s) store held cells follows bytes e = subst (IsRead _) (sym e) (next-line s store held cells follows bytes)

      -- nothing is held
      pub held-none : m.length ≡ 0 → held_of m ++ part ≡ part
      held-none e = rw e refl

  -- the text ends
  pub told-broken : m.broken ≡ true → read_text text ≡ refused (fault 1 m.line)
  unfolding rest_of
  told-broken b = ap read_text (sym (append-nil text)) ∙ read.decides [] ∙ if-true _ _ _ b

  pub told : (whole : m.broken ≡ false) → read_text text
      ≡ (if leb plan_section read.so_far.reached and eqb m.length 0 then answered read.so_far else refused (fault 1 m.line))
  told whole =
      let size : length (held_of m) ≡ m.length = length-take-le m.length m.held (omega (arith, read.short, read.cells)) in
      ap read_text (sym (append-nil text))
      ∙ going whole []
      ∙ ap (λ xs. read_lines m.line read.so_far (parts lf xs)) (append-nil (held_of m))
      ∙ text-end m.line read.so_far (held_of m) (read.no_lf whole ∙ sym size)
      ∙ ap (λ (n : ℕ). if leb plan_section read.so_far.reached and eqb n 0 then answered read.so_far else refused (fault 1 m.line)) size

-- before the first byte
pub nothing-read : (calendars cells held : List ℕ) → length held ≡ most_line
    → IsRead []
    (record {
      store = record { calendars = calendars; cells = cells };
      scan = bare section_is.Start 0 0;
      line = 1;
      held = held;
      length = 0;
      broken = false;
    })
unfolding read_text rest_of first_at
nothing-read calendars cells held long =
    record {
      so_far = nothing;
      decides = λ after. refl;
      begun = omega arith;
      few = omega arith;
      cells = long;
      short = omega arith;
      no_lf = λ f. refl;
      holds = λ f. holds-empty section_is.Start 0 0 (bytes_before 1) [] calendars cells refl (kept-none capacities_at most_rooms cells);
    }

-- ---- whatever the pieces

-- the state after two pieces is that after their bytes joined
pub two-pieces : {m after : Reading} {bytes : List ℕ} → IsReady m → Takes m bytes after → (one two : List ℕ) (between other : Reading)
    → bytes ≡ one ++ two → Takes m one between → Takes between two other → SameState after other
two-pieces (text, read) taken one two between other e first second more x y a b to_x to_y ends_x ends_y =
    let all = text ++ one ++ two ++ more in
    let joined : text ++ _ ++ more ≡ all = ap (λ xs. text ++ xs ++ more) e ∙ ap (λ xs. xs ++ more) (sym (append_assoc text one two)) in (
      read_text all,
      ends_x all (subst (λ t. IsRead t x) joined (to_x _ (taken text read))),
      ends_y all (to_y _ (second _ (first text read))),
    )
