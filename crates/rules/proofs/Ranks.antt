-- Devices and properties by rank: found, changed, taken out and put in at the place where the first one stands that passes the test.
use Prim.Native.Nat.{ℕ, zero, suc, ◌≤◌, ◌<◌, zero-le, suc-le-suc}
use native.Mathlib.Nat.{not-suc-le-zero, le_of_suc-le-suc}
use native.Mathlib.Omega.{arith}
use mathlib.Core.Path.{◌≡◌, refl, ap}
use mathlib.Core.List.{List, [], ◌∷◌, map}
use mathlib.Core.Bool.{Bool, true, false}
use lib.ListN.{length, get_or, set}
use Rattle.answer.specs.Answer.{refused, gives, only}
use Rattle.text.specs.Bytes.{eq_bytes, less_bytes}
use Rattle.text.proofs.Bytes.{both}
use Rattle.memory.specs.Bytes.{remove_at, insert_at}
use Rattle.rules.specs.Table.{Property, Device}
use Rattle.rules.specs.Find.{find, change, remove, insert, is_named, find_property, change_property, first_at, change_at}
use Rattle.rules.specs.Questions.{at}

-- ---- the first that passes a test

module _ {A : Type 0} (test : A → Bool) where
  pub first-within : (l : List A) → first_at test l ≤ length l
  unfolding first_at
  first-within [] = zero-le
  first-within (x ∷ l) = both (test x) (λ e. rw (e, first_at) zero-le) (λ e. rw (e, first_at) (suc-le-suc (first-within l)))

  pub first_passes : (l : List A) (z : A) → first_at test l < length l → test (get_or l (first_at test l) z) ≡ true
  unfolding first_at
  first_passes [] z h = absurd (not-suc-le-zero h)
  first_passes (x ∷ l) z h = both (test x) (λ e. rw (e, first_at) e) (λ e. rw (e, first_at) (first_passes l z (le_of_suc-le-suc (rw (e, first_at) at h))))

  pub before-first : (l : List A) (z : A) (i : ℕ) → i < first_at test l → test (get_or l i z) ≡ false
  unfolding first_at
  before-first [] z i h = absurd (not-suc-le-zero h)
  before-first (x ∷ l) z zero h = both (test x) (λ e. absurd (not-suc-le-zero (rw (e, first_at) at h))) (λ e. e)
  before-first (x ∷ l) z (suc i) h = both (test x)
      (λ e. absurd (not-suc-le-zero (rw (e, first_at) at h)))
      (λ e. before-first l z i (le_of_suc-le-suc (rw (e, first_at) at h)))

  -- a place before which none passes, and which is the end or passes
  pub first_is : (l : List A) (z : A) (r : ℕ) → r ≤ length l → ((i : ℕ) → i < r → test (get_or l i z) ≡ false) → (r < length l → test (get_or l r z) ≡ true) → r ≡ first_at test l
  unfolding first_at
  first_is [] z zero h none here = refl
  first_is [] z (suc r) h none here = absurd (not-suc-le-zero h)
  first_is (x ∷ l) z zero h none here = rw (here (suc-le-suc zero-le), first_at)
  first_is (x ∷ l) z (suc r) h none here =
      rw (none zero (suc-le-suc zero-le), first_at)
      (ap suc (first_is l z r (le_of_suc-le-suc h) (λ i k. none (suc i) (suc-le-suc k)) (λ k. here (suc-le-suc k))))

pub first-map : {A B : Type 0} (test : B → Bool) (f : A → B) (l : List A) → first_at test (map f l) ≡ first_at (λ (x : A). test (f x)) l
unfolding first_at
first-map test f [] = refl
first-map test f (x ∷ l) = both (test (f x)) (λ e. rw (e, first_at)) (λ e. rw (e, first_at) (ap suc (first-map test f l)))

-- ---- an element changed

module _ {A : Type 0} where
  pub change-set : (i : ℕ) (f : A → A) (l : List A) (z : A) → change_at i f l ≡ set l i (f (get_or l i z))
  unfolding change_at
  change-set i f [] z = refl
  change-set zero f (x ∷ l) z = refl
  change-set (suc i) f (x ∷ l) z = ap (λ (t : List A). x ∷ t) (change-set i f l z)

  pub change-length : (i : ℕ) (f : A → A) (l : List A) → length (change_at i f l) ≡ length l
  unfolding change_at
  change-length i f [] = refl
  change-length zero f (x ∷ l) = refl
  change-length (suc i) f (x ∷ l) = ap suc (change-length i f l)

-- ---- the i-th of a list

pub at_some : {A : Type 0} (i : ℕ) (l : List A) (z : A) → i < length l → at i l ≡ gives (get_or l i z)
unfolding at
at_some i [] z h = absurd (not-suc-le-zero h)
at_some zero (x ∷ l) z h = refl
at_some (suc i) (x ∷ l) z h = at_some i l z (le_of_suc-le-suc h)

pub at_none : {A : Type 0} (i : ℕ) (l : List A) → length l ≤ i → at i l ≡ refused (only 3)
unfolding at
at_none i [] h = refl
at_none zero (x ∷ l) h = absurd (not-suc-le-zero h)
at_none (suc i) (x ∷ l) h = at_none i l (le_of_suc-le-suc h)

-- ---- devices

-- the rank of an ID, the number of devices where none has it; and the rank a new device with it gets
abbrev pub rank_of : List ℕ → List Device → ℕ
rank_of id ds = first_at (λ (v : Device). eq_bytes v.id id) ds

abbrev pub place_for : List ℕ → List Device → ℕ
place_for id ds = first_at (λ (v : Device). less_bytes id v.id) ds

pub find_rank : (id : List ℕ) (ds : List Device) (z : Device) → rank_of id ds < length ds → find id ds ≡ gives (get_or ds (rank_of id ds) z)
unfolding find first_at
find_rank id [] z h = absurd (not-suc-le-zero h)
find_rank id (v ∷ vs) z h = both (eq_bytes v.id id) (λ e. rw (e, find, first_at)) (λ e. rw (e, find, first_at) (find_rank id vs z (le_of_suc-le-suc (rw (e, first_at) at h))))

pub find_none : (id : List ℕ) (ds : List Device) → rank_of id ds ≡ length ds → find id ds ≡ refused (only 12)
unfolding find first_at
find_none id [] h = refl
find_none id (v ∷ vs) h = both (eq_bytes v.id id)
    (λ e. let k : 0 ≡ length (v ∷ vs) = rw (e, first_at) at h in absurd (omega arith))
    (λ e. rw (e, find) (find_none id vs (let k : suc (rank_of id vs) ≡ suc (length vs) = rw (e, first_at) at h in omega arith)))

pub change_rank : (id : List ℕ) (f : Device → Device) (ds : List Device) → change id f ds ≡ change_at (rank_of id ds) f ds
unfolding change first_at change_at
change_rank id f [] = refl
change_rank id f (v ∷ vs) = both (eq_bytes v.id id) (λ e. rw (e, change, first_at)) (λ e. rw (e, change, first_at) (ap (λ (t : List Device). v ∷ t) (change_rank id f vs)))

pub remove_rank : (id : List ℕ) (ds : List Device) → remove id ds ≡ remove_at (rank_of id ds) ds
unfolding remove first_at remove_at
remove_rank id [] = refl
remove_rank id (v ∷ vs) = both (eq_bytes v.id id) (λ e. rw (e, remove, first_at)) (λ e. rw (e, remove, first_at) (ap (λ (t : List Device). v ∷ t) (remove_rank id vs)))

pub insert-place : (w : Device) (ds : List Device) → insert w ds ≡ insert_at (place_for w.id ds) w ds
unfolding insert first_at insert_at
insert-place w [] = refl
insert-place w (v ∷ vs) = both (less_bytes w.id v.id) (λ e. rw (e, insert, first_at)) (λ e. rw (e, insert, first_at) (ap (λ (t : List Device). v ∷ t) (insert-place w vs)))

-- ---- properties

abbrev pub rank_of_property : (node id : List ℕ) → List Property → ℕ
rank_of_property node id ps = first_at (is_named node id) ps

pub property_rank : (node id : List ℕ) (ps : List Property) (z : Property) → rank_of_property node id ps < length ps → find_property node id ps ≡ gives (get_or ps (rank_of_property node id ps) z)
unfolding find_property first_at
property_rank node id [] z h = absurd (not-suc-le-zero h)
property_rank node id (p ∷ ps) z h = both (is_named node id p) (λ e. rw (e, find_property, first_at)) (λ e. rw (e, find_property, first_at) (property_rank node id ps z (le_of_suc-le-suc (rw (e, first_at) at h))))

pub property-none : (node id : List ℕ) (ps : List Property) → rank_of_property node id ps ≡ length ps → find_property node id ps ≡ refused (only 16)
unfolding find_property first_at
property-none node id [] h = refl
property-none node id (p ∷ ps) h = both (is_named node id p)
    (λ e. let k : 0 ≡ length (p ∷ ps) = rw (e, first_at) at h in absurd (omega arith))
    (λ e. rw (e, find_property) (property-none node id ps (let k : suc (rank_of_property node id ps) ≡ suc (length ps) = rw (e, first_at) at h in omega arith)))

pub change_property_rank : (node id : List ℕ) (f : Property → Property) (ps : List Property) → change_property node id f ps ≡ change_at (rank_of_property node id ps) f ps
unfolding change_property first_at change_at
change_property_rank node id f [] = refl
change_property_rank node id f (p ∷ ps) = both (is_named node id p) (λ e. rw (e, change_property, first_at)) (λ e. rw (e, change_property, first_at) (ap (λ (t : List Property). p ∷ t) (change_property_rank node id f ps)))
