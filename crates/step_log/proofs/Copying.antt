-- Laws of a part of a log: its steps in three arrays, a step more, and the copies out of a lent log and into it. Assumes nothing.
use mathlib.Core.Path.{◌≡◌, refl, sym, ap, ◌∙◌}
use mathlib.Core.Logic.{◌≢◌}
use mathlib.Core.Bool.{Bool, true, false}
use mathlib.Core.List.{List, [], ◌∷◌, ◌++◌, append_assoc, append-nil}
use Prim.Native.Nat.{ℕ, zero, suc, ◌+◌, ◌-◌, ◌≤◌, ◌<◌, min}
use native.Mathlib.Nat.{zero-add, add-zero}
use native.Mathlib.Numerals.{add-one}
use native.Mathlib.Omega.{arith}
use lib.Dec.{leb}
use lib.ListN.{length, get_or, set, take, drop, length-drop}
use lib.Seq.{get_or-set_same, get_or-set_other, get_or-take, take-suc, drop-cons, set_at, length-take-le, take_all}
use borrow.Rule.Slice.PartMut.{put_mid}
use Rattle.std.proofs.lemmas.List.{drop_all}
use borrow.Author.Tests.{leb-true, leb-false}
use Rattle.units.specs.Cells.{written}
use Rattle.steps.specs.declared.Step.{Step}
use Rattle.steps.specs.Steps.{step}
use Rattle.steps.specs.Entry.{step_at, steps_from, steps_in}
use Rattle.step_log.specs.declared.part.Part.{Part}
use Rattle.step_log.specs.Inner.Size.{part_size}
use Rattle.step_log.specs.Inner.Parts.{no_step, part_steps}

-- ---- the steps in three lists

pub steps-length : (ks ts hs : List ℕ) (k n : ℕ) → length (steps_from ks ts hs k n) ≡ n
unfolding steps_from
steps-length ks ts hs k zero = refl
steps-length ks ts hs k (suc n) = ap suc (steps-length ks ts hs (k + 1) n)

pub part_length : (p : Part) → length (part_steps p) ≡ p.count
unfolding part_steps
part_length p = steps-length p.kinds p.tasks p.hours 0 p.count

-- the last of them
steps-last : (ks ts hs : List ℕ) (k n : ℕ) → steps_from ks ts hs k (suc n) ≡ steps_from ks ts hs k n ++ (step_at ks ts hs (k + n) ∷ [])
unfolding steps_from
steps-last ks ts hs k zero = ap (λ (i : ℕ). step_at ks ts hs i ∷ []) (sym (add-zero k))
steps-last ks ts hs k (suc n) =
    let e : k + 1 + n ≡ k + suc n = omega arith in
    ap (λ (l : List Step). step_at ks ts hs k ∷ l)
    (steps-last ks ts hs (k + 1) n ∙ ap (λ (i : ℕ). steps_from ks ts hs (k + 1) n ++ (step_at ks ts hs i ∷ [])) e)

-- cells that agree hold the same steps
steps-agree : (ks ts hs ks' ts' hs' : List ℕ) (k n : ℕ) → ((i : ℕ) → i < k + n → step_at ks ts hs i ≡ step_at ks' ts' hs' i)
    → steps_from ks ts hs k n ≡ steps_from ks' ts' hs' k n
unfolding steps_from
steps-agree ks ts hs ks' ts' hs' k zero h = refl
steps-agree ks ts hs ks' ts' hs' k (suc n) h =
    ap (λ (x : Step). x ∷ steps_from ks ts hs (k + 1) n) (h k (omega arith))
    ∙ ap (λ (l : List Step). step_at ks' ts' hs' k ∷ l) (steps-agree ks ts hs ks' ts' hs' (k + 1) n (λ i l. h i (omega (arith, l))))

module _ (ks ts hs : List ℕ) (n : ℕ) where
  -- a step more
  module _ (x : Step) (l : n < length ks) (m : n < length ts) (o : n < length hs) where
    pub steps-more : steps_from (set ks n x.kind) (set ts n x.task) (set hs n x.hour) 0 (n + 1) ≡ steps_from ks ts hs 0 n ++ (x ∷ [])
    unfolding step_at
    steps-more =
        ap (steps_from (set ks n x.kind) (set ts n x.task) (set hs n x.hour) 0) (add-one n)
        ∙ steps-last (set ks n x.kind) (set ts n x.task) (set hs n x.hour) 0 n
        ∙ ap (λ (s : List Step). s ++ (step_at (set ks n x.kind) (set ts n x.task) (set hs n x.hour) (0 + n) ∷ []))
        (steps-agree (set ks n x.kind) (set ts n x.task) (set hs n x.hour) ks ts hs 0 n (λ i q. before i (omega (arith, q))))
        ∙ ap (λ (y : Step). steps_from ks ts hs 0 n ++ (y ∷ [])) there
      where
        before : (i : ℕ) → i < n → step_at (set ks n x.kind) (set ts n x.task) (set hs n x.hour) i ≡ step_at ks ts hs i
        before i q =
            let ne : i ≢ n = omega arith in
            ap (λ (a : ℕ). step a (get_or (set ts n x.task) i 0) (get_or (set hs n x.hour) i 0)) (get_or-set_other ks n i x.kind 0 ne)
            ∙ ap (λ (a : ℕ). step (get_or ks i 0) a (get_or (set hs n x.hour) i 0)) (get_or-set_other ts n i x.task 0 ne)
            ∙ ap (λ (a : ℕ). step (get_or ks i 0) (get_or ts i 0) a) (get_or-set_other hs n i x.hour 0 ne)

        there : step_at (set ks n x.kind) (set ts n x.task) (set hs n x.hour) (0 + n) ≡ x
        there =
            let e : 0 + n ≡ n = omega arith in
            rw e
            (ap (λ (a : ℕ). step a (get_or (set ts n x.task) n 0) (get_or (set hs n x.hour) n 0)) (get_or-set_same ks n x.kind 0 l)
            ∙ ap (λ (a : ℕ). step x.kind a (get_or (set hs n x.hour) n 0)) (get_or-set_same ts n x.task 0 m)
            ∙ ap (λ (a : ℕ). step x.kind x.task a) (get_or-set_same hs n x.hour 0 o))

  -- the first cells of three arrays, as the core is lent them
  pub steps-lent : n ≤ length ks → steps_in (take n ks) (take n ts) (take n hs) ≡ steps_from ks ts hs 0 n
  unfolding steps_in step_at
  steps-lent l =
      ap (steps_from (take n ks) (take n ts) (take n hs) 0) (length-take-le n ks l)
      ∙ steps-agree (take n ks) (take n ts) (take n hs) ks ts hs 0 n (λ i q. first i (omega (arith, q)))
    where
      first : (i : ℕ) → i < n → step_at (take n ks) (take n ts) (take n hs) i ≡ step_at ks ts hs i
      first i q =
          ap (λ (a : ℕ). step a (get_or (take n ts) i 0) (get_or (take n hs) i 0)) (get_or-take n ks i 0 q)
          ∙ ap (λ (a : ℕ). step (get_or ks i 0) a (get_or (take n hs) i 0)) (get_or-take n ts i 0 q)
          ∙ ap (λ (a : ℕ). step (get_or ks i 0) (get_or ts i 0) a) (get_or-take n hs i 0 q)

-- ---- out of a lent log

-- what is copied of the steps by the turn of number i
pub record Copied (l : List Step) (i : ℕ) (p : Part) : Type 0 where
  pub steps : part_steps p ≡ take i l
  pub number : p.count ≡ i

pub one-copied : (l : List Step) (i : ℕ) (p q : Part) → Copied l i p → i < length l
    → part_steps q ≡ part_steps p ++ (get_or l i no_step ∷ []) → q.count ≡ p.count + 1 → Copied l (i + 1) q
one-copied l i p q c inside s n =
    record {
      steps = s
          ∙ ap (λ (m : List Step). m ++ (get_or l i no_step ∷ [])) c.steps
          ∙ sym (take-suc l i no_step inside)
          ∙ ap (λ (k : ℕ). take k l) (sym (add-one i));
      number = omega (arith, n, c.number);
    }

module _ (log : List Step) (from : ℕ) where
  pub all-copied : (end i : ℕ) (p : Part) → Copied (take (end - from) (drop from log)) i p → length (take (end - from) (drop from log)) ≤ i
      → end ≡ from + min part_size (length log - from) → part_steps p ≡ take part_size (drop from log)
  all-copied end i p c all e =
      let n : end - from ≡ min part_size (length (drop from log)) = rw (length-drop from log) (omega (arith, e)) in
      c.steps ∙ take_all i (take (end - from) (drop from log)) all ∙ ap (λ (k : ℕ). take k (drop from log)) n ∙ take_min (drop from log)
    where
      take_min : (l : List Step) → take (min part_size (length l)) l ≡ take part_size l
      take_min l = go (leb part_size (length l)) refl
        where
          go : (b : Bool) → leb part_size (length l) ≡ b → take (min part_size (length l)) l ≡ take part_size l
          go true q =
              let long : min part_size (length l) ≡ part_size = omega (arith, leb-true part_size (length l) q) in
              ap (λ (k : ℕ). take k l) long
          go false q =
              let short = leb-false part_size (length l) q in
              take_all (min part_size (length l)) l (omega arith) ∙ sym (take_all part_size l (omega arith))

-- ---- into a lent log

-- the cells lent, with k of the part's steps in the first of them
unfoldable pub put_in : List Step → Part → ℕ → List Step
put_in cells p k = steps_from p.kinds p.tasks p.hours 0 k ++ drop k cells

module _ (cells : List Step) (p : Part) (k : ℕ) where
  pub one-put : (held : List Step) (x : Step) → held ≡ put_in cells p k → x ≡ step_at p.kinds p.tasks p.hours k → k < length cells
      → set held k x ≡ put_in cells p (k + 1)
  unfolding put_in
  one-put held x so is inside =
      let s = steps_from p.kinds p.tasks p.hours 0 k in
      let rest = drop (suc k) cells in
      ap (λ (l : List Step). set l k x) (so ∙ ap (λ (l : List Step). s ++ l) (drop-cons cells k no_step inside))
      ∙ set_at s (get_or cells k no_step) rest x k (steps-length p.kinds p.tasks p.hours 0 k)
      ∙ sym (append_assoc s (x ∷ []) rest)
      ∙ ap (λ (y : Step). (s ++ (y ∷ [])) ++ rest) (is ∙ ap (step_at p.kinds p.tasks p.hours) (sym (zero-add k)))
      ∙ ap (λ (l : List Step). l ++ rest) (sym (steps-last p.kinds p.tasks p.hours 0 k))
      ∙ ap (λ (n : ℕ). steps_from p.kinds p.tasks p.hours 0 n ++ drop n cells) (sym (add-one k))

-- the log, once the cells of it that were lent hold all of the part's steps
pub all-put : (log : List Step) (from : ℕ) (p : Part) (n k : ℕ) (held : List Step) → from + p.count ≤ length log → n ≡ p.count
    → held ≡ put_in (take n (drop from log)) p k → k ≡ length (take n (drop from log))
    → put_mid from n log held ≡ take from log ++ written (part_steps p) (drop from log)
unfolding put_in written part_steps
all-put log from p n k held inside all so last =
    let long : length (take n (drop from log)) ≡ n =
    length-take-le n (drop from log) (rw (length-drop from log) (omega (arith, inside, all))) in
    let steps : held ≡ part_steps p =
    so
    ∙ ap (λ (l : List Step). steps_from p.kinds p.tasks p.hours 0 k ++ l) (drop_all k (take n (drop from log)) (omega (arith, last)))
    ∙ append-nil (steps_from p.kinds p.tasks p.hours 0 k)
    ∙ ap (steps_from p.kinds p.tasks p.hours 0) (last ∙ long ∙ all) in
    ap (λ (l : List Step). take from log ++ (l ++ drop n (drop from log))) steps
    ∙ ap (λ (m : ℕ). take from log ++ (part_steps p ++ drop m (drop from log))) (all ∙ sym (part_length p))
