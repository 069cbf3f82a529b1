-- Lists joined: one list more; lists of one length, how long they are and where each lies; a list that is parted and joined. Assumes nothing.
use mathlib.Core.Path.{◌≡◌, refl, sym, ap, ◌∙◌}
use mathlib.Core.Bool.{Bool, true, false}
use mathlib.Core.List.{List, [], ◌∷◌, ◌++◌, append_assoc, append-nil}
use Prim.Native.Nat.{ℕ, zero, suc, ◌*◌, ◌<◌}
use native.Mathlib.Nat.{zero-mul, suc-mul}
use native.Mathlib.Omega.{arith}
use lib.Dec.{ltb}
use lib.ListN.{length, take, drop, length-append}
use lib.Seq.{take-add, take-length, drop-append_seam}
use borrow.Author.Tests.{ltb-true, ltb-false}
use Rattle.std.proofs.lemmas.List.{drop-append-le, take-append-le, length-drop}
use Rattle.units.specs.Lists.{list_to, joined}
use Rattle.units.proofs.Multiples.{part-within}

pub joined-more : (ls : List (List ℕ)) (l : List ℕ) → joined (ls ++ (l ∷ [])) ≡ joined ls ++ l
unfolding joined
joined-more [] l = append-nil l
joined-more (k ∷ ls) l = ap (λ m. k ++ m) (joined-more ls l) ∙ sym (append_assoc k (joined ls) l)

module _ (f : ℕ → List ℕ) (h : ℕ) where
  next : (n : ℕ) → joined (list_to f (suc n)) ≡ joined (list_to f n) ++ f n
  unfolding list_to
  next n = joined-more (list_to f n) (f n)

  pub joined_length : (n : ℕ) → ((i : ℕ) → i < n → length (f i) ≡ h) → length (joined (list_to f n)) ≡ n * h
  unfolding list_to joined
  joined_length zero e = rw zero-mul
  joined_length (suc n) e =
      ap length (joined-more (list_to f n) (f n))
      ∙ omega (
        arith,
        length-append (joined (list_to f n)) (f n),
        joined_length n (λ i l. e i (omega arith)),
        e n (omega arith),
        suc-mul n h,
      )

  -- the part of the k-th of n
  pub joined-part : (n k : ℕ) → ((i : ℕ) → i < n → length (f i) ≡ h) → k < n → take h (drop (k * h) (joined (list_to f n))) ≡ f k
  joined-part zero k e l = absurd (omega arith)
  joined-part (suc n) k e l = ap (λ xs. take h (drop (k * h) xs)) (next n) ∙ go (λ m. joined-part n k before m) (ltb k n) refl
    where
      before : (i : ℕ) → i < n → length (f i) ≡ h
      before i m = e i (omega arith)

      long : length (joined (list_to f n)) ≡ n * h
      long = joined_length n before

      go : (k < n → take h (drop (k * h) (joined (list_to f n))) ≡ f k) → (b : Bool) → ltb k n ≡ b
          → take h (drop (k * h) (joined (list_to f n) ++ f n)) ≡ f k
      go below true q =
          let m : k < n = ltb-true k n q in
          let fits = part-within h n k m in
          ap (take h) (drop-append-le (k * h) (joined (list_to f n)) (f n) (omega (arith, long, fits)))
          ∙ take-append-le h (drop (k * h) (joined (list_to f n))) (f n) (omega (arith, long, fits, length-drop (k * h) (joined (list_to f n))))
          ∙ below m
      go below false q =
          let same : k ≡ n = omega (arith, ltb-false k n q) in
          rw same (
          ap (λ (m : ℕ). take h (drop m (joined (list_to f n) ++ f n))) (sym long)
          ∙ ap (take h) (drop-append_seam (joined (list_to f n)) (f n))
          ∙ ap (λ (m : ℕ). take m (f n)) (sym (e n (omega arith)))
          ∙ take-length (f n)
          )

-- a list in parts of k cells each
module _ (k : ℕ) (l : List ℕ) where
  -- the first n parts
  joined-take : (n : ℕ) → joined (list_to (λ i. take k (drop (i * k) l)) n) ≡ take (n * k) l
  unfolding joined list_to
  joined-take zero = rw (zero-mul k)
  joined-take (suc n) =
      joined-more (list_to (λ i. take k (drop (i * k) l)) n) (take k (drop (n * k) l))
      ∙ ap (λ m. m ++ take k (drop (n * k) l)) (joined-take n)
      ∙ sym (take-add (n * k) k l)
      ∙ ap (λ (m : ℕ). take m l) (sym (suc-mul n k))

  -- and all of them
  pub joined-parts : (n : ℕ) → length l ≡ n * k → joined (list_to (λ i. take k (drop (i * k) l)) n) ≡ l
  joined-parts n e = joined-take n ∙ ap (λ (m : ℕ). take m l) (sym e) ∙ take-length l
