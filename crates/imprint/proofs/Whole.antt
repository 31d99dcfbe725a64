-- The whole image: what it means, and what its bytes from the description on make of a device.
use Rattle.std.specs.Prelude.{Option, Some}
use Prim.Native.Nat.{ℕ, ◌+◌, ◌-◌, ◌≤◌, ◌^◌, min}
use native.Mathlib.Omega.{arith}
use native.Mathlib.Decide.{dec_lt}
use mathlib.Core.Path.{◌≡◌, refl, ap, ◌∙◌}
use mathlib.Core.Bool.{true}
use mathlib.Core.List.{List}
use lib.ListN.{length, get_or, take, drop, replicate, length-drop, length-replicate, get_or-replicate, get_or-eq_default}
use lib.Seq.{get_or-drop}
use lib.IntN.{ℤ}
use Rattle.little_endian.specs.Bytes.{u64, put}
use Rattle.numbers.specs.Whole.{stands}
use Rattle.memory.specs.Layout.{room_size}
use Rattle.properties.specs.Entries.{contents, view}
use Rattle.description.specs.declared.Description.{Description}
use Rattle.description.specs.Description.{Described}
use Rattle.description.specs.Meaning.{Shows}
use Rattle.rules.specs.States.{state_at}
use Rattle.rules.specs.Table as table
use Rattle.rules.specs.Table.{Property, empty_lanes, new_description}
use Rattle.rules.specs.Messages.{with_description}
use Rattle.text.specs.Ids.{id_most}
use Rattle.device.specs.Layout.{id_at, state_code_at, time_at, described_at, root_at, parent_at, version_at, count_at, properties_most, records_at}
use Rattle.device.specs.Decode.{is_set, optional_at, count_in, properties_in, description_in, device_of}
use Rattle.patch.specs.Makes.{Makes}
use Rattle.patch.proofs.Frame.{Alike, put-new, put-before, within, front, byte-alike, set-alike, num-alike, text-alike, optional-alike, description-alike}
use Rattle.imprint.specs.Fits.{FitsRoom}
use Rattle.imprint.specs.Contract.{Imprinted}
use Rattle.imprint.specs.Parts.{Blank, Listed, Headed}
use Rattle.imprint.proofs.Fields.{alike-below}
use Rattle.description.proofs.Theorems.{shows}

abbrev blank : ℕ → List ℕ
blank n = replicate n 0

zeros : (n i : ℕ) → get_or (blank n) i 0 ≡ 0
zeros n i = elim (dec_lt i n) as (λ _. get_or (blank n) i 0 ≡ 0) [
  | yes h ↦ get_or-replicate n i 0 0 h
  | no h ↦ get_or-eq_default (blank n) 0 {n = i} (omega (arith, length-replicate {A = ℕ} n 0))
]

-- the records' place, after the head was written
pub records-blank : (n : ℕ) {s m : List ℕ} {root parent : Option ℕ} {version k : ℕ} → Headed (blank n) s root parent version k m → Blank m records_at
records-blank n w i h = w.within.above i (omega arith) ∙ zeros n i

described : (r : List ℕ) (root parent : Option (List ℕ)) (version : ℕ) (z : ℤ) (ps : List Property) → is_set r described_at ≡ true → optional_at r root_at id_most ≡ root → optional_at r parent_at id_most ≡ parent
    → u64 r version_at ≡ version → stands (2 ^ 63) version ≡ z → properties_in r ≡ ps → description_in r ≡ Some (record { root = root; parent = parent; version = z; properties = ps })
unfolding description_in
described r root parent version z ps a b c d e f = rw (a, description_in) (rw (b, c, d, e, f))

-- a room image, whose bytes before the description do not matter
module _ (image : List ℕ) (y : table.Description) (l : length image ≡ room_size) (e : description_in image ≡ Some y) where
  pub image-makes : Makes described_at (drop described_at image) (with_description (Some y))
  unfolding device_of
  image-makes = record {
    makes = λ r q.
        let bs = drop described_at image in
        let n : length bs ≡ room_size - described_at = length-drop described_at image ∙ ap (λ (k : ℕ). k - described_at) l in
        let fits : described_at + length bs ≤ length r = omega arith in
        let new = put-new r bs described_at fits in
        let head = put-before r bs described_at fits id_at described_at (omega arith) in
        let id = text-alike id_most (front head 33 (omega arith)) in
        let code = byte-alike head state_code_at {a' = state_code_at} {b' = state_code_at} refl refl (omega arith) in
        let time = num-alike (within head time_at {a' = time_at} {b' = time_at} {l = 8} refl refl (omega arith)) in
        let same : Alike (put r described_at bs) described_at image described_at (room_size - described_at) = record { inside = omega (arith, new.inside); inside' = omega arith; bytes = λ i h. new.bytes i (omega arith) ∙ get_or-drop described_at image (0 + i) 0 ∙ ap (λ (k : ℕ). get_or image k 0) (omega arith) } in
        let rest = description-alike same ∙ e in
        λ i. record { id = id i; state = state_at (code i); time = time i; description = rest i };
  }

module _ (m₀ m₁ m₂ s : List ℕ) (d : Description) (l : length m₀ ≡ room_size) (w₁ : Headed m₀ s d.root d.parent d.version d.properties.n m₁) (w₂ : Listed m₁ s d.properties m₂) where
  long₁ : length m₁ ≡ room_size
  long₁ = w₁.within.kept ∙ l

  long₂ : length m₂ ≡ room_size
  long₂ = w₂.within.kept ∙ long₁

  module _ (x : Described) (h : Shows s d x) (f : FitsRoom x) where
    counted : count_in m₂ ≡ min d.properties.n properties_most
    unfolding count_in
    counted = ap (λ (k : ℕ). min k properties_most) (w₂.within.below count_at (omega arith)) ∙ w₁.count

    properties_are : properties_in m₂ ≡ empty_lanes x.properties
    unfolding properties_in view
    properties_are = let q : contents s (take d.properties.n d.properties.items) ≡ x.properties = h.properties in rw counted (w₂.rows (rw q f.each) ∙ ap empty_lanes q)

    there_is : is_set m₂ described_at ≡ true
    there_is = set-alike (alike-below w₂.within described_at 1 (omega arith) (omega arith)) 0 refl refl (omega arith) ∙ w₁.there

    root_is : optional_at m₂ root_at id_most ≡ x.root
    root_is = optional-alike id_most (alike-below w₂.within root_at 33 (omega arith) (omega (arith, long₁))) ∙ w₁.rooted (rw h.root f.root) ∙ h.root

    parent_is : optional_at m₂ parent_at id_most ≡ x.parent
    parent_is = optional-alike id_most (alike-below w₂.within parent_at 33 (omega arith) (omega (arith, long₁))) ∙ w₁.parented (rw h.parent f.parent) ∙ h.parent

    version_is_lem : u64 m₂ version_at ≡ d.version
    version_is_lem = num-alike (alike-below w₂.within version_at 8 (omega arith) (omega (arith, long₁))) ∙ w₁.versioned

    description_is : description_in m₂ ≡ Some (new_description x)
    unfolding new_description
    description_is = described m₂ x.root x.parent d.version x.version (empty_lanes x.properties) there_is root_is parent_is version_is_lem h.version properties_are

  pub imprinted : Imprinted s d m₂
  imprinted x e f = image-makes m₂ (new_description x) long₂ (description_is x (shows s d x e) f)
