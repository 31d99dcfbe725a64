-- What a room's description is, where there is one.
use Rattle.std.specs.Prelude.{None, Some, Option}
use Prim.Native.Nat.{ℕ, zero, suc, ◌^◌, ◌≤◌, ◌<◌, min}
use native.Mathlib.Nat.{not-suc-le-zero, le_of_suc-le-suc}
use native.Mathlib.Omega.{arith}
use mathlib.Core.Path.{◌≡◌, refl, sym, ap, ◌∙◌}
use mathlib.Core.List.{List, []}
use mathlib.Core.Bool.{true, false}
use lib.ListN.{length, get_or}
use Rattle.numbers.specs.Whole.{stands}
use Rattle.little_endian.specs.Bytes.{u64}
use Rattle.text.proofs.Bytes.{both}
use Rattle.text.specs.declared.Place.{Place}
use Rattle.memory.specs.Bytes.{tab}
use Rattle.memory.proofs.Lists.{length-tab}
use Rattle.rules.specs.Table as table
use Rattle.text.specs.Ids.{id_most}
use Rattle.device.specs.Layout.{described_at, root_at, parent_at, version_at, count_at, properties_most, record_at}
use Rattle.device.specs.Decode.{is_set, text_at, optional_at, record_of, count_in, properties_in, description_in, device_of}
use Rattle.device.specs.Meaning.{TextIn, OptionalIn, text_in, version_is}
use Rattle.device.specs.Parts.{described_text}

module _ (r : List ℕ) (e : is_set r described_at ≡ true) where
  description_is : description_in r ≡ Some (record { root = optional_at r root_at id_most; parent = optional_at r parent_at id_most; version = stands (2 ^ 63) (u64 r version_at); properties = properties_in r })
  unfolding description_in
  description_is = rw (e, description_in)

  text_is : (at : ℕ) → described_text r at ≡ optional_at r at id_most
  unfolding described_text
  text_is at = rw (e, described_text)

module _ (r : List ℕ) (e : is_set r described_at ≡ false) where
  no-description : description_in r ≡ None
  unfolding description_in
  no-description = rw (e, description_in)

  no_text : (at : ℕ) → described_text r at ≡ None
  unfolding described_text
  no_text at = rw (e, described_text)

root_is : (r : List ℕ) → described_text r root_at ≡ table.root_of (device_of r).description
unfolding device_of table.root_of
root_is r = both (is_set r described_at) (λ e. text_is r e root_at ∙ sym (ap table.root_of (description_is r e))) (λ e. no_text r e root_at ∙ sym (ap table.root_of (no-description r e)))

parent_is : (r : List ℕ) → described_text r parent_at ≡ table.parent_of (device_of r).description
unfolding device_of table.parent_of
parent_is r = both (is_set r described_at) (λ e. text_is r e parent_at ∙ sym (ap table.parent_of (description_is r e))) (λ e. no_text r e parent_at ∙ sym (ap table.parent_of (no-description r e)))

pub root-shown : (r : List ℕ) {x : Option Place} → OptionalIn r (described_text r root_at) x → OptionalIn r (table.root_of (device_of r).description) x
root-shown r h = record { says = h.says ∙ root_is r; within = h.within }

pub parent-shown : (r : List ℕ) {x : Option Place} → OptionalIn r (described_text r parent_at) x → OptionalIn r (table.parent_of (device_of r).description) x
parent-shown r h = record { says = h.says ∙ parent_is r; within = h.within }

-- the answers of `described_text`
module _ (r : List ℕ) (at : ℕ) where
  pub not_described : is_set r described_at ≡ false → OptionalIn r (described_text r at) None
  unfolding text_in
  not_described e = record { says = sym (no_text r e at); within = tt }

  pub not_there : is_set r described_at ≡ true → is_set r at ≡ false → OptionalIn r (described_text r at) None
  unfolding optional_at text_in
  not_there d e = record { says = sym (text_is r d at ∙ rw (e, optional_at)); within = tt }

  pub there : {p : Place} → is_set r described_at ≡ true → is_set r at ≡ true → TextIn r (text_at r at id_most) p → OptionalIn r (described_text r at) (Some p)
  unfolding optional_at text_in
  there d e t = record { says = ap Some t.says ∙ sym (text_is r d at ∙ rw (e, optional_at)); within = t.within }

pub no-version : (r : List ℕ) → is_set r described_at ≡ false → version_is None ≡ table.version_of (device_of r).description
unfolding version_is device_of table.version_of
no-version r e = sym (ap table.version_of (no-description r e))

pub version_is_lem : (r : List ℕ) (n : ℕ) → is_set r described_at ≡ true → n ≡ u64 r version_at → version_is (Some n) ≡ table.version_of (device_of r).description
unfolding version_is device_of table.version_of
version_is_lem r n d e = ap (λ (k : ℕ). version_is (Some k)) e ∙ sym (ap table.version_of (description_is r d))

-- its properties
abbrev pub all : List ℕ → List table.Property
all r = table.properties_of (device_of r).description

pub none_are : (r : List ℕ) → is_set r described_at ≡ false → all r ≡ []
unfolding device_of table.properties_of
none_are r e = ap table.properties_of (no-description r e)

pub these_are : (r : List ℕ) → is_set r described_at ≡ true → all r ≡ properties_in r
unfolding device_of table.properties_of
these_are r e = ap table.properties_of (description_is r e)

pub length_none : (r : List ℕ) → is_set r described_at ≡ false → 0 ≡ length (all r)
length_none r e = sym (ap length (none_are r e))

pub length-all : (r : List ℕ) → is_set r described_at ≡ true → length (all r) ≡ min (get_or r count_at 0) properties_most
unfolding properties_in count_in
length-all r e = ap length (these_are r e) ∙ length-tab (count_in r) (λ i. record_of r (record_at i))

pub at_most : (r : List ℕ) → length (all r) ≤ properties_most
at_most r = both (is_set r described_at) (λ e. omega (arith, length-all r e)) (λ e. omega (arith, length_none r e))

-- the i-th
pub get_or-tab : {A : Type 0} (n : ℕ) (f : ℕ → A) (i : ℕ) (z : A) → i < n → get_or (tab n f) i z ≡ f i
unfolding tab
get_or-tab zero f i z h = absurd (not-suc-le-zero h)
get_or-tab (suc n) f zero z h = refl
get_or-tab (suc n) f (suc i) z h = get_or-tab n (λ k. f (suc k)) i z (le_of_suc-le-suc h)

pub nth : (r : List ℕ) (i : ℕ) (z : table.Property) → i < length (all r) → get_or (all r) i z ≡ record_of r (record_at i)
unfolding properties_in count_in
nth r i z h = both (is_set r described_at)
    (λ e. ap (λ (l : List table.Property). get_or l i z) (these_are r e) ∙ get_or-tab (count_in r) (λ k. record_of r (record_at k)) i z (omega (arith, length-all r e)))
    (λ e. absurd (omega (arith, length_none r e)))
