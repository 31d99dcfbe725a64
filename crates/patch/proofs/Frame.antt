-- Rooms that hold the same bytes are read alike; and the bytes of a room that others were put over.
use Rattle.std.specs.Prelude.{Option, None, Some}
use Prim.Native.Nat.{ℕ, ◌+◌, ◌-◌, ◌^◌, ◌≤◌, ◌<◌, min}
use native.Mathlib.Omega.{arith}
use mathlib.Core.Path.{◌≡◌, refl, sym, ap, ◌∙◌}
use mathlib.Core.List.{List}
use mathlib.Core.Bool.{Bool, true, false, not}
use lib.ListN.{length, get_or}
use lib.Dec.{eqb}
use Rattle.little_endian.specs.Bytes.{num, u64, put}
use Rattle.little_endian.proofs.Put.{length-put}
use Rattle.numbers.specs.Whole.{stands}
use Rattle.memory.specs.Bytes.{span, tab}
use Rattle.memory.specs.Layout.{room_size}
use Rattle.memory.proofs.Flat.{span_same, num-same, put-below, put_in, put-above}
use Rattle.memory.proofs.Lists.{tab_ext}
use Rattle.payload.specs.Datatypes.{datatype_at}
use Rattle.rules.specs.States.{state_at}
use Rattle.rules.specs.Table.{Held, Property, Description}
use Rattle.rules.specs.Find.{in_description}
use Rattle.rules.specs.Messages.{with_description}
use Rattle.text.specs.Ids.{id_most}
use Rattle.device.specs.Layout.{id_at, state_code_at, time_at, described_at, root_at, parent_at, version_at, count_at, properties_most, record_at, record_size, node_at, property_at, datatype_code_at, settable_at, retained_at, format_at, format_most, lanes_at, lane_size, payload_at, payload_most}
use Rattle.device.specs.Decode.{is_set, text_at, optional_at, held_at, declared_at, record_of, count_in, properties_in, description_in, device_of}

-- the n bytes of r from a on are the bytes of s from b on
pub record Alike (r : List ℕ) (a : ℕ) (s : List ℕ) (b n : ℕ) : Type 0 where
  pub inside : a + n ≤ length r
  pub inside' : b + n ≤ length s
  pub bytes : (i : ℕ) → i < n → get_or r (a + i) 0 ≡ get_or s (b + i) 0

-- ---- the bytes of a room that others were put over

module _ (r bs : List ℕ) (a : ℕ) (fits : a + length bs ≤ length r) where
  pub put-new : Alike (put r a bs) a bs 0 (length bs)
  put-new = record {
    inside = omega (arith, length-put r a bs fits);
    inside' = omega arith;
    bytes = λ i h. put_in r bs a fits i h ∙ ap (λ (k : ℕ). get_or bs k 0) (omega arith);
  }

  pub put-before : (k n : ℕ) → k + n ≤ a → Alike (put r a bs) k r k n
  put-before k n h = record {
    inside = omega (arith, length-put r a bs fits);
    inside' = omega arith;
    bytes = λ i q. put-below r bs a fits (k + i) (omega arith);
  }

  pub put-after : (k n : ℕ) → a + length bs ≤ k → k + n ≤ length r → Alike (put r a bs) k r k n
  put-after k n h l = record {
    inside = omega (arith, length-put r a bs fits);
    inside' = omega arith;
    bytes = λ i q. put-above r bs a fits (k + i) (omega arith);
  }

-- ---- each reader, over bytes that are alike

module _ {r : List ℕ} {a : ℕ} {s : List ℕ} {b n : ℕ} (e : Alike r a s b n) where
  -- l of those bytes, from the k-th on
  pub within : (k : ℕ) {a' b' l : ℕ} → a' ≡ a + k → b' ≡ b + k → k + l ≤ n → Alike r a' s b' l
  within k {a'} {b'} {l} p q h = record {
    inside = omega (arith, e.inside);
    inside' = omega (arith, e.inside');
    bytes = λ i z. ap (λ (x : ℕ). get_or r x 0) (omega arith) ∙ e.bytes (k + i) (omega arith) ∙ ap (λ (x : ℕ). get_or s x 0) (omega arith);
  }

  pub front : (l : ℕ) → l ≤ n → Alike r a s b l
  front l h = within 0 (omega arith) (omega arith) (omega arith)

  pub byte-alike : (k : ℕ) {a' b' : ℕ} → a' ≡ a + k → b' ≡ b + k → k < n → get_or r a' 0 ≡ get_or s b' 0
  byte-alike k {a'} {b'} p q h = ap (λ (x : ℕ). get_or r x 0) p ∙ e.bytes k h ∙ ap (λ (x : ℕ). get_or s x 0) (sym q)

  pub set-alike : (k : ℕ) {a' b' : ℕ} → a' ≡ a + k → b' ≡ b + k → k < n → is_set r a' ≡ is_set s b'
  unfolding is_set
  set-alike k p q h = ap (λ (x : ℕ). not (eqb x 0)) (byte-alike k p q h)

  pub span-alike : span r a n ≡ span s b n
  span-alike = span_same s r b a n e.inside' e.inside e.bytes

  pub num-alike : num n a r ≡ num n b s
  num-alike = num-same s r b a n e.inside' e.inside e.bytes

pub text-alike : {r : List ℕ} {a : ℕ} {s : List ℕ} {b : ℕ} (most : ℕ) → Alike r a s b (1 + most) → text_at r a most ≡ text_at s b most
unfolding text_at
text-alike {r} {a} {s} {b} most e =
    ap (λ (x : ℕ). span r (a + 1) (min x most)) (byte-alike e 0 (omega arith) (omega arith) (omega arith))
    ∙ span-alike (within e 1 refl refl (omega arith))

optional : Bool → List ℕ → Option (List ℕ)
optional b t = elim b [ true ↦ Some t | false ↦ None ]

pub optional-alike : {r : List ℕ} {a : ℕ} {s : List ℕ} {b : ℕ} (most : ℕ) → Alike r a s b (1 + most) → optional_at r a most ≡ optional_at s b most
unfolding optional_at optional
optional-alike {r} {a} {s} {b} most e =
    let p : is_set r a ≡ is_set s b = set-alike e 0 (omega arith) (omega arith) (omega arith) in
    let q = text-alike most e in
    λ i. optional (p i) (q i)

held_of : Bool → ℕ → List ℕ → Option Held
held_of b t p = elim b [ true ↦ Some (record { time = t; payload = p }) | false ↦ None ]

pub held-alike : {r : List ℕ} {a : ℕ} {s : List ℕ} {b : ℕ} → Alike r a s b lane_size → held_at r a ≡ held_at s b
unfolding held_at held_of
held-alike e =
    let p = set-alike e payload_at refl refl (omega arith) in
    let q = num-alike (front e 8 (omega arith)) in
    let t = text-alike payload_most (within e payload_at refl refl (omega arith)) in
    λ i. held_of (p i) (q i) (t i)

pub declared-alike : {r : List ℕ} {a : ℕ} {s : List ℕ} {b : ℕ} → Alike r a s b lanes_at → declared_at r a ≡ declared_at s b
unfolding declared_at
declared-alike e =
    let node = text-alike id_most (within e node_at refl refl (omega arith)) in
    let id = text-alike id_most (within e property_at refl refl (omega arith)) in
    let code = byte-alike e datatype_code_at refl refl (omega arith) in
    let format = text-alike format_most (within e format_at refl refl (omega arith)) in
    let settable = set-alike e settable_at refl refl (omega arith) in
    let retained = set-alike e retained_at refl refl (omega arith) in
    λ i. record { node = node i; id = id i; datatype = datatype_at (code i); format = format i; settable = settable i; retained = retained i }

pub record-alike : {r : List ℕ} {a : ℕ} {s : List ℕ} {b : ℕ} → Alike r a s b record_size → record_of r a ≡ record_of s b
unfolding record_of
record-alike e =
    let declared = declared-alike (front e lanes_at (omega arith)) in
    let value = held-alike (within e lanes_at refl refl (omega arith)) in
    let target = held-alike (within e (lanes_at + lane_size) refl refl (omega arith)) in
    let asked = held-alike (within e (lanes_at + (lane_size + lane_size)) refl refl (omega arith)) in
    λ i. record { declared = declared i; value = value i; target = target i; asked = asked i }

-- the same places of two rooms: the properties, the description
pub properties-alike : {r s : List ℕ} → Alike r count_at s count_at (room_size - count_at) → properties_in r ≡ properties_in s
unfolding properties_in count_in
properties-alike {r} {s} e =
    ap (λ (x : ℕ). tab (min x properties_most) (λ i. record_of r (record_at i))) (byte-alike e 0 refl refl (omega arith))
    ∙ tab_ext (min (get_or s count_at 0) properties_most) (λ i. record_of r (record_at i)) (λ i. record_of s (record_at i))
    (λ i h. record-alike (within e (record_at i - count_at) (omega arith) (omega arith) (omega arith)))

described_of : Bool → Option (List ℕ) → Option (List ℕ) → ℕ → List Property → Option Description
described_of b root parent version ps = elim b [
  | true ↦ Some (record { root = root; parent = parent; version = stands (2 ^ 63) version; properties = ps })
  | false ↦ None
]

-- a description by its parts: the flag, root, parent, version and properties
pub description_is : {r s : List ℕ} → Alike r described_at s described_at (count_at - described_at) → (f : List Property → List Property)
    → properties_in r ≡ f (properties_in s) → description_in r ≡ in_description f (description_in s)
unfolding description_in described_of in_description
description_is {r} {s} e f ps =
    let flag = set-alike e 0 {a' = described_at} {b' = described_at} refl refl (omega arith) in
    let root = optional-alike id_most (within e (root_at - described_at) {a' = root_at} {b' = root_at} refl refl (omega arith)) in
    let parent = optional-alike id_most (within e (parent_at - described_at) {a' = parent_at} {b' = parent_at} refl refl (omega arith)) in
    let version = num-alike (within e (version_at - described_at) {a' = version_at} {b' = version_at} {l = 8} refl refl (omega arith)) in
    (λ i. described_of (flag i) (root i) (parent i) (version i) (ps i))
    ∙ changed (is_set s described_at)
  where
    changed : (b : Bool) → described_of b (optional_at s root_at id_most) (optional_at s parent_at id_most) (u64 s version_at) (f (properties_in s))
        ≡ in_description f (described_of b (optional_at s root_at id_most) (optional_at s parent_at id_most) (u64 s version_at) (properties_in s))
    changed true = refl
    changed false = refl

pub description-alike : {r s : List ℕ} → Alike r described_at s described_at (room_size - described_at) → description_in r ≡ description_in s
unfolding in_description
description-alike {r} {s} e =
    description_is (front e (count_at - described_at) (omega arith)) (λ ps. ps) (properties-alike (within e (count_at - described_at) refl refl (omega arith)))
    ∙ same (description_in s)
  where
    same : (x : Option Description) → in_description (λ ps. ps) x ≡ x
    same None = refl
    same (Some x) = refl

-- a device whose head is kept, with another description
pub device_is : {r s : List ℕ} → Alike r id_at s id_at described_at → (y : Option Description) → description_in r ≡ y → device_of r ≡ with_description y (device_of s)
unfolding device_of
device_is e y d =
    let id = text-alike id_most (front e 33 (omega arith)) in
    let code = byte-alike e state_code_at {a' = state_code_at} {b' = state_code_at} refl refl (omega arith) in
    let time = num-alike (within e time_at {a' = time_at} {b' = time_at} {l = 8} refl refl (omega arith)) in
    λ i. record { id = id i; state = state_at (code i); time = time i; description = d i }
