-- A device changed in its properties, one after another.
use Rattle.std.specs.Prelude.{Option, None, Some}
use Prim.Native.Nat.{ℕ, zero, suc, ◌≤◌, ◌<◌, zero-le, suc-le-suc}
use native.Mathlib.Nat.{not-suc-le-zero, le_of_suc-le-suc}
use mathlib.Core.Path.{◌≡◌, refl, sym, ap}
use mathlib.Core.List.{List, [], ◌∷◌, map}
use lib.ListN.{length, get_or}
use Rattle.rules.specs.Table.{Property, Description, Device, properties_of}
use Rattle.rules.specs.Find.{in_description, in_device, change_at}
use Rattle.rules.specs.Messages.{with_description}

-- ---- lists

module _ {A : Type 0} where
  pub change-same : (i : ℕ) (f g : A → A) (l : List A) → ((z : A) → i < length l → f (get_or l i z) ≡ g (get_or l i z)) → change_at i f l ≡ change_at i g l
  unfolding change_at
  change-same i f g [] h = refl
  change-same zero f g (x ∷ l) h = ap (λ (y : A). y ∷ l) (h x (suc-le-suc zero-le))
  change-same (suc i) f g (x ∷ l) h = ap (λ (t : List A). x ∷ t) (change-same i f g l (λ z k. h z (suc-le-suc k)))

  pub change-not : (i : ℕ) (l : List A) → change_at i (λ x. x) l ≡ l
  unfolding change_at
  change-not i [] = refl
  change-not zero (x ∷ l) = refl
  change-not (suc i) (x ∷ l) = ap (λ (t : List A). x ∷ t) (change-not i l)

  pub change_twice : (i : ℕ) (f g : A → A) (l : List A) → change_at i g (change_at i f l) ≡ change_at i (λ x. g (f x)) l
  unfolding change_at
  change_twice i f g [] = refl
  change_twice zero f g (x ∷ l) = refl
  change_twice (suc i) f g (x ∷ l) = ap (λ (t : List A). x ∷ t) (change_twice i f g l)

  -- the first n changed
  unfoldable pub change_first : ℕ → (A → A) → List A → List A
  change_first zero f l = l
  change_first (suc n) f [] = []
  change_first (suc n) f (x ∷ l) = f x ∷ change_first n f l

  pub first_more : (n : ℕ) (f : A → A) (l : List A) → change_at n f (change_first n f l) ≡ change_first (suc n) f l
  unfolding change_at change_first
  first_more zero f [] = refl
  first_more zero f (x ∷ l) = refl
  first_more (suc n) f [] = refl
  first_more (suc n) f (x ∷ l) = ap (λ (t : List A). f x ∷ t) (first_more n f l)

  pub first-all : (n : ℕ) (f : A → A) (l : List A) → length l ≤ n → change_first n f l ≡ map f l
  unfolding change_first
  first-all zero f [] h = refl
  first-all zero f (x ∷ l) h = absurd (not-suc-le-zero h)
  first-all (suc n) f [] h = refl
  first-all (suc n) f (x ∷ l) h = ap (λ (t : List A). f x ∷ t) (first-all n f l (le_of_suc-le-suc h))

  pub first-length : (n : ℕ) (f : A → A) (l : List A) → length (change_first n f l) ≡ length l
  unfolding change_first
  first-length zero f l = refl
  first-length (suc n) f [] = refl
  first-length (suc n) f (x ∷ l) = ap suc (first-length n f l)

-- ---- devices

-- of a device's description the properties are changed
pub properties_in_lem : (f : List Property → List Property) → f [] ≡ [] → (v : Device) → properties_of (in_device f v).description ≡ f (properties_of v.description)
unfolding in_device in_description properties_of
properties_in_lem f e v = go v.description
  where
    go : (y : Option Description) → properties_of (in_description f y) ≡ f (properties_of y)
    go None = sym e
    go (Some x) = refl

pub in_device_lem : (f g : List Property → List Property) (v : Device) → f (properties_of v.description) ≡ g (properties_of v.description) → in_device f v ≡ in_device g v
unfolding in_device in_description properties_of
in_device_lem f g v = λ e. ap (λ (y : Option Description). with_description y v) (go v.description e)
  where
    go : (y : Option Description) → f (properties_of y) ≡ g (properties_of y) → in_description f y ≡ in_description g y
    go None e = refl
    go (Some x) e = ap (λ (ps : List Property). Some (record { root = x.root; parent = x.parent; version = x.version; properties = ps })) e

pub in_device_twice : (f g : List Property → List Property) (v : Device) → in_device g (in_device f v) ≡ in_device (λ ps. g (f ps)) v
unfolding in_device in_description
in_device_twice f g v = ap (λ (y : Option Description). with_description y v) (go v.description)
  where
    go : (y : Option Description) → in_description g (in_description f y) ≡ in_description (λ ps. g (f ps)) y
    go None = refl
    go (Some x) = refl

pub in_device-not : (v : Device) → in_device (λ ps. ps) v ≡ v
unfolding in_device in_description
in_device-not v = ap (λ (y : Option Description). with_description y v) (go v.description)
  where
    go : (y : Option Description) → in_description (λ ps. ps) y ≡ y
    go None = refl
    go (Some x) = refl
