-- Laws of lists that a loop makes: how long, their cells, what a map makes of them, and a list by its own cells. Assumes nothing.
use mathlib.Core.Path.{◌≡◌, refl, sym, ap, ap₂, ◌∙◌}
use mathlib.Core.Bool.{Bool, true, false}
use mathlib.Core.List.{List, [], ◌∷◌, ◌++◌, map}
use Prim.Native.Nat.{ℕ, zero, suc, ◌+◌, ◌≤◌, ◌<◌}
use native.Mathlib.Numerals.{add-one}
use native.Mathlib.Omega.{arith}
use lib.Dec.{ltb}
use lib.ListN.{length, get_or, take, length-append, get_or-append}
use lib.Seq.{take-suc, take-length, get_or_at}
use borrow.Author.Tests.{ltb-true, ltb-false}
use Rattle.units.specs.Lists.{list_to}

pub map_more : {A B : Type 0} (f : A → B) (xs : List A) (x : A) → map f (xs ++ (x ∷ [])) ≡ map f xs ++ (f x ∷ [])
map_more f [] x = refl
map_more f (y ∷ xs) x = ap (λ l. f y ∷ l) (map_more f xs x)

module _ {A : Type 0} (f : ℕ → A) where
  pub list-next : (n : ℕ) → list_to f (n + 1) ≡ list_to f n ++ (f n ∷ [])
  unfolding list_to
  list-next n = rw add-one

  pub list_length : (n : ℕ) → length (list_to f n) ≡ n
  unfolding list_to
  list_length zero = refl
  list_length (suc n) = omega (arith, length-append (list_to f n) (f n ∷ []), list_length n)

  pub list_at : (n i : ℕ) (d : A) → i < n → get_or (list_to f n) i d ≡ f i
  unfolding list_to
  list_at zero i d l = absurd (omega arith)
  list_at (suc n) i d l = go (list_at n i d) (ltb i n) refl
    where
      go : (i < n → get_or (list_to f n) i d ≡ f i) → (b : Bool) → ltb i n ≡ b → get_or (list_to f n ++ (f n ∷ [])) i d ≡ f i
      go before true e =
          let m = ltb-true _ _ e in get_or-append (list_to f n) (f n ∷ []) d i (omega (arith, list_length n)) ∙ before m
      go before false e =
          let same : i ≡ n = omega (arith, ltb-false i n e) in rw same (get_or_at (list_to f n) (f n) [] d n (list_length n))

  pub list-map : {B : Type 0} (g : A → B) (n : ℕ) → map g (list_to f n) ≡ list_to (λ i. g (f i)) n
  unfolding list_to
  list-map g zero = refl
  list-map g (suc n) = map_more g (list_to f n) (f n) ∙ ap (λ l. l ++ (g (f n) ∷ [])) (list-map g n)

  pub list-eq : (g : ℕ → A) (n : ℕ) → ((i : ℕ) → i < n → f i ≡ g i) → list_to f n ≡ list_to g n
  unfolding list_to
  list-eq g zero e = refl
  list-eq g (suc n) e = ap₂ (λ l x. l ++ (x ∷ [])) (list-eq g n (λ i l. e i (omega arith))) (e n (omega arith))

module _ {A : Type 0} (l : List A) (d : A) where
  -- the first cells, one by one
  pub list-take : (n : ℕ) → n ≤ length l → list_to (λ i. get_or l i d) n ≡ take n l
  unfolding list_to
  list-take zero h = refl
  list-take (suc n) h = ap (λ k. k ++ (get_or l n d ∷ [])) (list-take n (omega arith)) ∙ sym (take-suc l n d (omega arith))

  -- and all
  pub list-cells : {n : ℕ} → n ≡ length l → list_to (λ i. get_or l i d) n ≡ l
  list-cells {n} e = list-take n (omega arith) ∙ ap (λ (k : ℕ). take k l) e ∙ take-length l
