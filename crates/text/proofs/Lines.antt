-- Laws of lines as they are printed: number by number, and how long they are. Assumes nothing.
use mathlib.Core.Path.{◌≡◌, refl, sym, ap, subst, ◌∙◌}
use mathlib.Core.List.{List, [], ◌∷◌, ◌++◌, append_assoc, append-nil}
use Prim.Native.Nat.{ℕ, zero, suc, ◌+◌, ◌*◌, ◌≤◌, ◌<◌}
use native.Mathlib.Nat.{mul-suc}
use native.Mathlib.Numerals.{add-one}
use native.Mathlib.Omega.{arith}
use lib.ListN.{length, take, drop, get_or, length-append, take-append-drop}
use lib.Seq.{take-suc, drop-cons}
use Rattle.units.specs.Lists.{list_to}
use Rattle.units.proofs.Lists.{list-cells}
use Rattle.text.specs.Fields.{tab, lf}
use Rattle.text.specs.Numbers.{decimal_text}
use Rattle.text.specs.Lines.{number_fields, line_of}
use Rattle.text.specs.Putting.{Put}
use Rattle.text.proofs.Puts.{put_both}
use Rattle.text.proofs.Decimals.{reach, decimal-width}

fields-append : (ms ns : List ℕ) → number_fields (ms ++ ns) ≡ number_fields ms ++ number_fields ns
unfolding number_fields
fields-append [] ns = refl
fields-append (m ∷ ms) ns =
    ap (λ l. tab ∷ l) (ap (λ l. decimal_text m ++ l) (fields-append ms ns) ∙ sym (append_assoc (decimal_text m) (number_fields ms) (number_fields ns)))

-- ---- a loop that puts number by number

module _ (ns : List ℕ) (i : ℕ) (h : i < length ns) where
  fields-next : number_fields (take (i + 1) ns) ≡ number_fields (take i ns) ++ (tab ∷ decimal_text (get_or ns i 0))
  unfolding number_fields
  fields-next = rw (add-one, take-suc ns i 0 h)
      (fields-append (take i ns) (get_or ns i 0 ∷ []) ∙ ap (λ l. number_fields (take i ns) ++ (tab ∷ l)) (append-nil _))

  pub fields-longer : length (number_fields (take (i + 1) ns)) ≡ length (number_fields (take i ns)) + (1 + length (decimal_text (get_or ns i 0)))
  fields-longer = omega (arith, ap length fields-next, length-append (number_fields (take i ns)) (tab ∷ decimal_text (get_or ns i 0)))

  -- what was put and one number more are no longer than all
  pub fields-room : length (number_fields (take i ns)) + (1 + length (decimal_text (get_or ns i 0))) ≤ length (number_fields ns)
  unfolding number_fields
  fields-room =
      let all = ap length (ap number_fields (sym (take-append-drop i ns)) ∙ fields-append (take i ns) (drop i ns)) in
      let rest = ap (λ l. length (number_fields l)) (drop-cons ns i 0 h) in
      omega (
        arith,
        all,
        rest,
        length-append (number_fields (take i ns)) (number_fields (drop i ns)),
        length-append (decimal_text (get_or ns i 0)) (number_fields (drop (suc i) ns)),
      )

  pub put-field-next : {at m1 m2 m3 : ℕ} {cells l1 l2 l3 : List ℕ} → at ≤ length cells → Put (number_fields (take i ns)) at cells m1 l1
      → Put (tab ∷ []) m1 l1 m2 l2 → Put (decimal_text (get_or ns i 0)) m2 l2 m3 l3 → Put (number_fields (take (i + 1) ns)) at cells m3 l3
  put-field-next l p q r = rw fields-next (rw append_assoc at (put_both l (put_both l p q) r))

-- ---- how long

-- each number below a limit
unfoldable pub Below : ℕ → List ℕ → Type 0
Below most [] = Unit {0}
Below most (n ∷ ns) = (n < most) × Below most ns

pub below_both : (most : ℕ) (ms ns : List ℕ) → Below most ms → Below most ns → Below most (ms ++ ns)
unfolding Below
below_both most [] ns p q = q
below_both most (m ∷ ms) ns p q = (p.0, below_both most ms ns p.1 q)

pub below-to : (most : ℕ) (f : ℕ → ℕ) (n : ℕ) → ((i : ℕ) → i < n → f i < most) → Below most (list_to f n)
unfolding Below list_to
below-to most f zero h = _
below-to most f (suc n) h = below_both most (list_to f n) (f n ∷ []) (below-to most f n (λ i l. h i (omega arith))) (h n (omega arith), _)

pub below_each : (most : ℕ) (ns : List ℕ) → ((i : ℕ) → i < length ns → get_or ns i 0 < most) → Below most ns
below_each most ns h = subst (Below most) (list-cells ns 0 refl) (below-to most (λ i. get_or ns i 0) (length ns) h)

-- a tab and at most k digits a number
pub fields-width : (k : ℕ) (ns : List ℕ) → Below (reach (suc k)) ns → length (number_fields ns) ≤ (k + 2) * length ns
unfolding number_fields Below
fields-width k [] b = omega arith
fields-width k (n ∷ ns) b =
    omega (
      arith,
      length-append (decimal_text n) (number_fields ns),
      decimal-width k n b.0,
      fields-width k ns b.1,
      mul-suc (k + 2) (length ns),
    )

pub line-length : (word ns : List ℕ) → length (line_of word ns) ≡ length word + length (number_fields ns) + 1
unfolding line_of
line-length word ns =
    omega (arith, length-append (word ++ number_fields ns) (lf ∷ []), length-append word (number_fields ns))
