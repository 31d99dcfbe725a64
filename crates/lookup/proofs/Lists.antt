-- What a function gives of each element of a list, and where the first element stands that passes a test.
use Prim.Native.Nat.{ℕ, zero, suc, ◌+◌, ◌≤◌, ◌<◌}
use native.Mathlib.Numerals.{add-one}
use native.Mathlib.Omega.{arith}
use mathlib.Core.Path.{◌≡◌, refl, ap, ◌∙◌}
use mathlib.Core.Bool.{Bool, true, false}
use mathlib.Core.List.{List, [], ◌∷◌, map}
use lib.ListN.{length, get_or, set, take, drop, drop_of_length-le}
use lib.Seq.{drop-cons}
use Rattle.rules.specs.Find.{first_at}

module _ {A B : Type 0} (f : A → B) where
  pub map-take : (n : ℕ) (l : List A) → map f (take n l) ≡ take n (map f l)
  map-take zero l = refl
  map-take (suc n) [] = refl
  map-take (suc n) (x ∷ l) = ap (λ (t : List B). f x ∷ t) (map-take n l)

  pub map-set : (l : List A) (k : ℕ) (y : A) → map f (set l k y) ≡ set (map f l) k (f y)
  map-set [] k y = refl
  map-set (x ∷ l) zero y = refl
  map-set (x ∷ l) (suc k) y = ap (λ (t : List B). f x ∷ t) (map-set l k y)

-- a search that has passed the first i elements: what is left says where the first one stands
pub record Passed {A : Type 0} (test : A → Bool) (l : List A) (i : ℕ) : Type 0 where
  pub inside : i ≤ length l
  pub left : i + first_at test (drop i l) ≡ first_at test l

module _ {A : Type 0} (test : A → Bool) (l : List A) where
  pub passed_none : Passed test l 0
  passed_none = record { inside = omega arith; left = omega arith }

  at_front : (x : A) (b : Bool) → test x ≡ b → (r : List A) → first_at test (x ∷ r) ≡ elim b [ true ↦ 0 | false ↦ suc (first_at test r) ]
  unfolding first_at
  at_front x b e r = rw (e, first_at)

  module _ (i : ℕ) (z : A) (p : Passed test l i) where
    pub found : i < length l → test (get_or l i z) ≡ true → i ≡ first_at test l
    found h e = let d = ap (first_at test) (drop-cons l i z h) ∙ at_front (get_or l i z) true e (drop (suc i) l) in omega (arith, p)

    pub passed-one : i < length l → test (get_or l i z) ≡ false → Passed test l (i + 1)
    passed-one h e =
        let d = ap (first_at test) (drop-cons l i z h) ∙ at_front (get_or l i z) false e (drop (suc i) l) in
        let f : first_at test (drop (i + 1) l) ≡ first_at test (drop (suc i) l) = ap (λ (k : ℕ). first_at test (drop k l)) (add-one i) in
        record { inside = omega arith; left = omega (arith, p) }

    pub passed-all : length l ≤ i → length l ≡ first_at test l
    unfolding first_at
    passed-all h = let d = ap (first_at test) (drop_of_length-le l {i = i} h) in omega (arith, p)
