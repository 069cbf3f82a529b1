-- Laws of a text that is read piece by piece. Assumes nothing.
use Rattle.std.specs.Prelude.{if◌then◌else◌}
use mathlib.Core.Path.{◌≡◌, refl, ◌∙◌}
use mathlib.Core.Bool.{Bool, true, false}
use Rattle.std.specs.Prelude.{None, Some}
use mathlib.Core.List.{List, [], ◌∷◌, ◌++◌}
use Prim.Native.Nat.{ℕ, suc, ◌+◌, ◌≤◌}
use native.Mathlib.Omega.{arith}
use lib.Dec.{leb, eqb, ltb}
use lib.ListN.{length, take, drop}
use native.Mathlib.Nat.{zero-add}
use lib.Seq.{length-take-le}
use borrow.Author.Tests.{lt-leb, ltb-true, ltb-false, ne_eqb}
use Rattle.units.specs.Choice.{◌and◌, on_option}
use Rattle.units.proofs.Choices.{if-false, not_left, not_right}
use Rattle.plan.specs.Refusals.{fault, refused, answered}
use Rattle.text.specs.Fields.{lf, parts, first_at}
use Rattle.text.proofs.Parts.{first-within, parts_last, parts_first, parts_more}
use Rattle.text.proofs.Parting.{parts_next, without-rest}
use Rattle.plan_format.specs.Text.{Read, plan_section, with_line}
use Rattle.plan_format.specs.Text.{most_line, is_line, with_line_at, read_lines}

-- line k up to its LF, and what follows
module _ (k : ℕ) (r : Read) (line after : List ℕ) (no-lf : first_at lf line ≡ length line) where
  pub line-next : read_lines k r (parts lf (line ++ (lf ∷ after)))
      ≡ on_option (with_line_at k r line) (refused (fault 1 k)) (λ more. read_lines (k + 1) more (parts lf after))
  unfolding read_lines
  line-next =
      let (ps, q) = parts_first lf after in
      rw (parts_next lf line after no-lf, q) refl

  pub line-read : (more : Read) → is_line k (length line) ≡ true → with_line r line ≡ Some more
      → read_lines k r (parts lf (line ++ (lf ∷ after))) ≡ read_lines (k + 1) more (parts lf after)
  unfolding on_option with_line_at
  line-read more is e = line-next ∙ rw (is, e) refl

  pub line-broken : is_line k (length line) ≡ true → with_line r line ≡ None → read_lines k r (parts lf (line ++ (lf ∷ after))) ≡ refused (fault 1 k)
  unfolding on_option with_line_at
  line-broken is e = line-next ∙ rw (is, e) refl

  pub line-no : is_line k (length line) ≡ false → read_lines k r (parts lf (line ++ (lf ∷ after))) ≡ refused (fault 1 k)
  unfolding on_option with_line_at
  line-no is = line-next ∙ rw is refl

first-other : (b : ℕ) (bs : List ℕ) → eqb b lf ≡ false → first_at lf (b ∷ bs) ≡ suc (first_at lf bs)
unfolding first_at
first-other b bs ne = if-false _ _ _ ne

-- where the first separator stands in a text that begins without one
first-append : (line after : List ℕ) → first_at lf line ≡ length line → first_at lf (line ++ after) ≡ length line + first_at lf after
first-append [] after h = omega (arith, zero-add (first_at lf after))
first-append (b ∷ bs) after h =
    let (ne, rest) = without-rest lf b bs h in
    first-other b (bs ++ after) ne ∙ (let e = first-append bs after rest in omega arith)

module _ (k : ℕ) (r : Read) where
  -- the end of the text
  pub text-end : (line : List ℕ) → first_at lf line ≡ length line
      → read_lines k r (parts lf line) ≡ (if leb plan_section r.reached and eqb (length line) 0 then answered r else refused (fault 1 k))
  unfolding read_lines
  text-end line no-lf = rw (parts_last lf line no-lf) refl

  -- a text whose first line is too long
  first-long : (text : List ℕ) → most_line ≤ first_at lf text → read_lines k r (parts lf text) ≡ refused (fault 1 k)
  unfolding read_lines with_line_at is_line on_option
  first-long text long = go (ltb (first_at lf text) (length text)) refl
    where
      size : first_at lf text ≤ length text
      size = first-within lf text

      go : (b : Bool) → ltb (first_at lf text) (length text) ≡ b → read_lines k r (parts lf text) ≡ refused (fault 1 k)
      go true q =
          let l = ltb-true _ _ q in
          let (ps, p) = parts_first lf (drop (suc (first_at lf text)) text) in
          let is : is_line k (length (take (first_at lf text) text)) ≡ false =
          not_left _ _ (lt-leb (length (take (first_at lf text) text) + 1) most_line (omega (arith, long, length-take-le (first_at lf text) text size))) in
          rw (parts_more lf text l, p) (rw is refl)
      go false q =
          let e : first_at lf text ≡ length text = omega (arith, ltb-false (first_at lf text) (length text) q, size) in
          text-end text e ∙ if-false _ _ _ (not_right _ _ (ne_eqb (length text) 0 (λ (z : length text ≡ 0). omega (arith, long, e, z))))

  -- a line that is too long before its LF, whatever follows
  pub line-long : (line after : List ℕ) → first_at lf line ≡ length line → most_line ≤ length line
      → read_lines k r (parts lf (line ++ after)) ≡ refused (fault 1 k)
  line-long line after no-lf long = first-long (line ++ after) (omega (arith, first-append line after no-lf, long))
