-- Laws of a calendar's letters as they are put, one after the other. Assumes nothing.
use mathlib.Core.Path.{◌≡◌, refl, sym, ap, ◌∙◌, subst}
use mathlib.Core.List.{List, [], ◌∷◌, ◌++◌}
use Prim.Native.Nat.{ℕ, zero, suc, ◌+◌, ◌*◌, ◌/◌, ◌%◌, ◌≤◌, ◌<◌}
use native.Mathlib.Numerals.{add-one}
use native.Mathlib.Omega.{arith}
use lib.ListN.{length, get_or, take, drop, length-take}
use lib.Seq.{take-suc, take-length}
use Rattle.std.proofs.lemmas.List.{take-append-drop, length-drop}
use Rattle.plan.specs.Packed.{letter_of}
use Rattle.text.specs.Putting.{Put}
use Rattle.text.proofs.Puts.{put_both, put-length}

-- a letter, from its code
pub letter_made : (n : ℕ) → n ≤ 2 → 99 + 15 * (n % 2) + 12 * (n / 2) ≡ letter_of n
unfolding letter_of
letter_made zero l = refl
letter_made (suc zero) l = refl
letter_made (suc (suc zero)) l = refl
letter_made (suc (suc (suc n))) l = absurd (omega arith)

module _ (cal : List ℕ) {at m t : ℕ} {out l1 : List ℕ} (room : at + length cal ≤ length out) (p : Put (take t cal) at out m l1) where
  -- one letter more
  pub letter-put : {n x : ℕ} {l2 : List ℕ} → t < length cal → x ≡ get_or cal t 0 → Put (x ∷ []) m l1 n l2 → Put (take (t + 1) cal) at out n l2
  letter-put {n} {x} {l2} l e q =
      let next : take t cal ++ (x ∷ []) ≡ take (t + 1) cal = rw (e, add-one) (sym (take-suc cal t 0 l)) in
      subst (λ line. Put line at out n l2) next (put_both (omega (arith, room)) p q)

  -- so up to hour k
  pub letter-up : (k : ℕ) {n x : ℕ} {l2 : List ℕ} → k ≡ t + 1 → t < length cal → x ≡ get_or cal t 0 → Put (x ∷ []) m l1 n l2 → Put (take k cal) at out n l2
  letter-up k is l e q = rw is (letter-put l e q)

  -- for which there is room
  pub letter-room : t < length cal → m < length l1
  letter-room l =
      let long = length-take t cal in
      let same : length l1 ≡ length out = put-length p (omega (arith, long, room, l)) in
      omega (arith, long, room, l, p.place, same)

  -- until they are all put
  pub letters-end : t ≡ length cal → Put cal at out m l1
  letters-end e = subst (λ line. Put line at out m l1) (ap (λ (k : ℕ). take k cal) e ∙ take-length cal) p

-- the first f letters are put: then the others
module _ (cal : List ℕ) {at m f : ℕ} {out l1 : List ℕ} (room : at + length cal ≤ length out) (inside : f ≤ length cal) (p : Put (take f cal) at out m l1) where
  pub rest-room : m + length (drop f cal) ≤ length l1
  rest-room =
      let taken = length-take f cal in
      let left = length-drop f cal in
      let same : length l1 ≡ length out = put-length p (omega (arith, taken, room, inside)) in
      omega (arith, taken, left, room, inside, p.place, same)

  pub all-put : {i n : ℕ} {l2 : List ℕ} → Put (take i (drop f cal)) m l1 n l2 → i ≡ length (drop f cal) → Put cal at out n l2
  all-put {i} {n} {l2} q e =
      subst (λ line. Put line at out n l2) (take-append-drop f cal)
      (put_both (omega (arith, room)) p (letters-end (drop f cal) rest-room q e))
