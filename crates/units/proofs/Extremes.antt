-- Laws of the least and the greatest, for any list and any key: each bounds every member, is some member's, and is the only such number.
-- Assumes nothing.
use mathlib.Core.Path.{◌≡◌, refl, sym}
use mathlib.Core.Logic.{◌⊎◌, inl, inr}
use mathlib.Core.List.Memᴰ
use mathlib.Core.List.{List, [], ◌∷◌, ◌++◌, Memᴰ}
use Prim.Native.Nat.{ℕ, ◌≤◌, min, max}
use native.Mathlib.Decide.{dec_le}
use native.Mathlib.Omega.{arith}
use Rattle.units.specs.Extremes.{least, greatest}

-- some member of the list has the value
pub record Attained {A : Type 0} (key : A → ℕ) (xs : List A) (k : ℕ) : Type 0 where
  pub witness : A
  pub member : Memᴰ witness xs
  pub value : key witness ≡ k

module _ {A : Type 0} (key : A → ℕ) where
  later : {x : A} {xs : List A} {k : ℕ} → Attained key xs k → Attained key (x ∷ xs) k
  later a = record { witness = a.witness; member = Memᴰ.tail a.member; value = a.value }

  -- ---- one list after another

  pub least-append : (m : ℕ) (xs ys : List A) → least key m (xs ++ ys) ≡ least key (least key m xs) ys
  unfolding least
  least-append m [] ys = refl
  least-append m (x ∷ xs) ys = least-append (min m (key x)) xs ys

  pub greatest-append : (m : ℕ) (xs ys : List A) → greatest key m (xs ++ ys) ≡ greatest key (greatest key m xs) ys
  unfolding greatest
  greatest-append m [] ys = refl
  greatest-append m (x ∷ xs) ys = greatest-append (max m (key x)) xs ys

  -- ---- a number before the list

  pub least-join : (m k : ℕ) (xs : List A) → least key (min m k) xs ≡ min m (least key k xs)
  unfolding least
  least-join m k [] = refl
  least-join m k (x ∷ xs) = let q : min (min m k) (key x) ≡ min m (min k (key x)) = omega arith in rw q (least-join m (min k (key x)) xs)

  pub greatest-join : (m k : ℕ) (xs : List A) → greatest key (max m k) xs ≡ max m (greatest key k xs)
  unfolding greatest
  greatest-join m k [] = refl
  greatest-join m k (x ∷ xs) = let q : max (max m k) (key x) ≡ max m (max k (key x)) = omega arith in rw q (greatest-join m (max k (key x)) xs)

  -- ---- bounds every member

  least_first : (m : ℕ) (xs : List A) → least key m xs ≤ m
  unfolding least
  least_first m [] = omega arith
  least_first m (x ∷ xs) = omega (arith, least_first (min m (key x)) xs)

  least-later : (m : ℕ) (xs : List A) (y : A) → Memᴰ y xs → least key m xs ≤ key y
  unfolding least
  least-later m [] y h = absurd (Memᴰ.not-nil h)
  least-later m (x ∷ xs) y (Memᴰ.head e) = rw e (omega (arith, least_first (min m (key x)) xs))
  least-later m (x ∷ xs) y (Memᴰ.tail h) = least-later (min m (key x)) xs y h

  pub least-bounds : (x : A) (xs : List A) (y : A) → Memᴰ y (x ∷ xs) → least key (key x) xs ≤ key y
  least-bounds x xs y (Memᴰ.head e) = rw e (least_first (key x) xs)
  least-bounds x xs y (Memᴰ.tail h) = least-later (key x) xs y h

  greatest-first : (m : ℕ) (xs : List A) → m ≤ greatest key m xs
  unfolding greatest
  greatest-first m [] = omega arith
  greatest-first m (x ∷ xs) = omega (arith, greatest-first (max m (key x)) xs)

  greatest-later : (m : ℕ) (xs : List A) (y : A) → Memᴰ y xs → key y ≤ greatest key m xs
  unfolding greatest
  greatest-later m [] y h = absurd (Memᴰ.not-nil h)
  greatest-later m (x ∷ xs) y (Memᴰ.head e) = rw e (omega (arith, greatest-first (max m (key x)) xs))
  greatest-later m (x ∷ xs) y (Memᴰ.tail h) = greatest-later (max m (key x)) xs y h

  pub greatest-bounds : (x : A) (xs : List A) (y : A) → Memᴰ y (x ∷ xs) → key y ≤ greatest key (key x) xs
  greatest-bounds x xs y (Memᴰ.head e) = rw e (greatest-first (key x) xs)
  greatest-bounds x xs y (Memᴰ.tail h) = greatest-later (key x) xs y h

  -- ---- is some member's

  least-among : (m : ℕ) (xs : List A) → (least key m xs ≡ m) ⊎ Attained key xs (least key m xs)
  unfolding least
  least-among m [] = inl refl
  least-among m (x ∷ xs) = go (least-among (min m (key x)) xs) (dec_le m (key x))
    where
      k : ℕ
      k = least key (min m (key x)) xs

      go : (k ≡ min m (key x)) ⊎ Attained key xs k → Dec (m ≤ key x) → (k ≡ m) ⊎ Attained key (x ∷ xs) k
      go (inl e) (yes h) = inl (omega arith)
      go (inl e) (no h) = inr record { witness = x; member = Memᴰ.head refl; value = omega arith }
      go (inr a) d = inr (later a)

  pub least-attained : (x : A) (xs : List A) → Attained key (x ∷ xs) (least key (key x) xs)
  least-attained x xs = go (least-among (key x) xs)
    where
      go : (least key (key x) xs ≡ key x) ⊎ Attained key xs (least key (key x) xs) → Attained key (x ∷ xs) (least key (key x) xs)
      go (inl e) = record { witness = x; member = Memᴰ.head refl; value = sym e }
      go (inr a) = later a

  greatest-among : (m : ℕ) (xs : List A) → (greatest key m xs ≡ m) ⊎ Attained key xs (greatest key m xs)
  unfolding greatest
  greatest-among m [] = inl refl
  greatest-among m (x ∷ xs) = go (greatest-among (max m (key x)) xs) (dec_le m (key x))
    where
      k : ℕ
      k = greatest key (max m (key x)) xs

      go : (k ≡ max m (key x)) ⊎ Attained key xs k → Dec (m ≤ key x) → (k ≡ m) ⊎ Attained key (x ∷ xs) k
      go (inl e) (yes h) = inr record { witness = x; member = Memᴰ.head refl; value = omega arith }
      go (inl e) (no h) = inl (omega arith)
      go (inr a) d = inr (later a)

  pub greatest-attained : (x : A) (xs : List A) → Attained key (x ∷ xs) (greatest key (key x) xs)
  greatest-attained x xs = go (greatest-among (key x) xs)
    where
      go : (greatest key (key x) xs ≡ key x) ⊎ Attained key xs (greatest key (key x) xs) → Attained key (x ∷ xs) (greatest key (key x) xs)
      go (inl e) = record { witness = x; member = Memᴰ.head refl; value = sym e }
      go (inr a) = later a

  -- ---- what follows from the two, over a list x ∷ xs

  module _ (x : A) (xs : List A) where
    pub above-least : (k : ℕ) → ((y : A) → Memᴰ y (x ∷ xs) → k ≤ key y) → k ≤ least key (key x) xs
    above-least k h = let a = least-attained x xs in omega (arith, h a.witness a.member, a.value)

    pub below-greatest : (k : ℕ) → ((y : A) → Memᴰ y (x ∷ xs) → key y ≤ k) → greatest key (key x) xs ≤ k
    below-greatest k h = let a = greatest-attained x xs in omega (arith, h a.witness a.member, a.value)

    -- the only number that bounds every member and is some member's
    pub least-is : (k : ℕ) → ((y : A) → Memᴰ y (x ∷ xs) → k ≤ key y) → Attained key (x ∷ xs) k → least key (key x) xs ≡ k
    least-is k h a = omega (arith, above-least k h, least-bounds x xs a.witness a.member, a.value)

    pub greatest-is : (k : ℕ) → ((y : A) → Memᴰ y (x ∷ xs) → key y ≤ k) → Attained key (x ∷ xs) k → greatest key (key x) xs ≡ k
    greatest-is k h a = omega (arith, below-greatest k h, greatest-bounds x xs a.witness a.member, a.value)

    pub least-to-greatest : least key (key x) xs ≤ greatest key (key x) xs
    least-to-greatest = omega (arith, least_first (key x) xs, greatest-first (key x) xs)
