-- What the bytes of a patch make of a device, by what is read in them.
use Rattle.std.specs.Prelude.{Option, None}
use Prim.Native.Nat.{ℕ, zero, suc, ◌+◌, ◌-◌, ◌*◌, ◌≤◌, ◌<◌, zero-le, suc-le-suc, min}
use native.Mathlib.Omega.{arith}
use native.Mathlib.Decide.{dec_lt}
use mathlib.Core.Path.{◌≡◌, refl, ap, ap₂, ◌∙◌, subst}
use mathlib.Core.List.{List, ◌∷◌}
use mathlib.Core.Bool.{false}
use lib.ListN.{length, get_or}
use Rattle.little_endian.specs.Bytes.{u64, put}
use Rattle.memory.specs.Bytes.{tab}
use Rattle.memory.specs.Layout.{room_size}
use Rattle.memory.proofs.Lists.{tab_ext}
use Rattle.rules.specs.declared.DeviceState.{DeviceState}
use Rattle.rules.specs.declared.LaneKind.{LaneKind}
use Rattle.rules.specs.declared.LaneKind.TheVariants.{Value, Target, Asked}
use Rattle.rules.specs.States.{state_at}
use Rattle.rules.specs.Table.{Held, Property, with_lane}
use Rattle.rules.specs.Find.{change_at, in_description, in_device}
use Rattle.rules.specs.Messages.{with_state, with_description, new_device}
use Rattle.text.specs.Ids.{id_most}
use Rattle.device.specs.Layout.{id_at, state_code_at, time_at, described_at, root_at, count_at, properties_most, record_at, record_size, lanes_at, lane_size, lane_at}
use Rattle.device.specs.Decode.{is_set, text_at, held_at, declared_at, record_of, count_in, properties_in, description_in, device_of}
use Rattle.device.specs.Meaning.{lane_number}
use Rattle.patch.specs.Makes.{Makes, LaneMakes, LaneSet}
use Rattle.patch.proofs.Frame.{put-new, put-before, put-after, within, front, byte-alike, set-alike, num-alike, text-alike, held-alike, declared-alike, record-alike, description_is, description-alike, device_is}

-- ---- the state and its time

pub state-makes : (bs : List ℕ) (s : DeviceState) (time : ℕ) → length bs ≡ 9 → state_at (get_or bs 0 0) ≡ s → u64 bs 1 ≡ time → Makes state_code_at bs (with_state s time)
unfolding device_of
state-makes bs s t l es et = record {
  makes = λ r q.
      let fits : state_code_at + length bs ≤ length r = omega arith in
      let new = put-new r bs state_code_at fits in
      let id = text-alike id_most (put-before r bs state_code_at fits id_at 33 (omega arith)) in
      let own = ap state_at (byte-alike new 0 {a' = state_code_at} {b' = 0} refl refl (omega arith)) ∙ es in
      let time = num-alike (within new 1 {a' = time_at} {b' = 1} {l = 8} refl refl (omega arith)) ∙ et in
      let rest = description-alike (put-after r bs state_code_at fits described_at (room_size - described_at) (omega arith) (omega arith)) in
      λ i. record { id = id i; state = own i; time = time i; description = rest i };
}

-- ---- no description, and a new device, which has none

no-description : (r : List ℕ) → is_set r described_at ≡ false → description_in r ≡ None
unfolding description_in
no-description r h = rw (h, description_in)

pub none-makes : (bs : List ℕ) → length bs ≡ 1 → is_set bs 0 ≡ false → Makes described_at bs (with_description None)
none-makes bs l h = record {
  makes = λ r q.
      let fits : described_at + length bs ≤ length r = omega arith in
      let flag = set-alike (put-new r bs described_at fits) 0 {a' = described_at} {b' = 0} refl refl (omega arith) ∙ h in
      device_is (put-before r bs described_at fits id_at described_at (omega arith)) None (no-description (put r described_at bs) flag);
}

pub new-makes : (bs id : List ℕ) (s : DeviceState) (time : ℕ) → length bs ≡ root_at → text_at bs id_at id_most ≡ id → state_at (get_or bs state_code_at 0) ≡ s → u64 bs time_at ≡ time
    → is_set bs described_at ≡ false → Makes id_at bs (λ _. new_device id s time)
unfolding device_of
new-makes bs name s t l ei es et h = record {
  makes = λ r q.
      let fits : 0 + length bs ≤ length r = omega arith in
      let new = put-new r bs 0 fits in
      let id = text-alike id_most (front new 33 (omega arith)) ∙ ei in
      let own = ap state_at (byte-alike new state_code_at {a' = state_code_at} {b' = state_code_at} refl refl (omega arith)) ∙ es in
      let time = num-alike (within new time_at {a' = time_at} {b' = time_at} {l = 8} refl refl (omega arith)) ∙ et in
      let rest = no-description (put r 0 bs) (set-alike new described_at refl refl (omega arith) ∙ h) in
      λ i. record { id = id i; state = own i; time = time i; description = rest i };
}

-- ---- a lane

tab-changed : {A : Type 0} (n k : ℕ) (g h : ℕ → A) (f : A → A) → ((j : ℕ) → j < n → (j ≡ k → ⊥) → g j ≡ h j) → (k < n → g k ≡ f (h k)) → tab n g ≡ change_at k f (tab n h)
unfolding tab change_at
tab-changed zero k g h f o e = refl
tab-changed {A} (suc n) zero g h f o e = ap₂ (λ (x : A) (l : List A). x ∷ l) (e (suc-le-suc zero-le)) (tab_ext n (λ j. g (suc j)) (λ j. h (suc j)) (λ j q. o (suc j) (suc-le-suc q) (λ z. omega arith)))
tab-changed {A} (suc n) (suc k) g h f o e =
    ap₂ (λ (x : A) (l : List A). x ∷ l) (o 0 (suc-le-suc zero-le) (λ z. omega arith))
    (tab-changed n k (λ j. g (suc j)) (λ j. h (suc j)) f (λ j q z. o (suc j) (suc-le-suc q) (λ x. z (omega arith))) (λ q. e (suc-le-suc q)))

-- the record that starts at a, after bytes were put over its lane k
module _ (r bs : List ℕ) (a k at : ℕ) (l : length bs ≡ lane_size) (place : at ≡ a + lanes_at + lane_size * k) (few : k < 3) (room : a + record_size ≤ length r) where
  fits : at + length bs ≤ length r
  fits = omega arith

  declared-kept : declared_at (put r at bs) a ≡ declared_at r a
  declared-kept = declared-alike (put-before r bs at fits a lanes_at (omega arith))

  lane-kept : (j b : ℕ) → b ≡ a + (lanes_at + lane_size * j) → j < 3 → (j ≡ k → ⊥) → held_at (put r at bs) b ≡ held_at r b
  lane-kept j b e h o = elim (dec_lt j k) as (λ _. held_at (put r at bs) b ≡ held_at r b) [
    | yes q ↦ held-alike (put-before r bs at fits b lane_size (omega arith))
    | no q ↦ held-alike (put-after r bs at fits b lane_size (omega arith) (omega arith))
  ]

  lane-new : (b : ℕ) → b ≡ at → held_at (put r at bs) b ≡ held_at bs 0
  lane-new b e = ap (held_at (put r at bs)) e ∙ held-alike (front (put-new r bs at fits) lane_size (omega arith))

record-changed : (r bs : List ℕ) (a at : ℕ) (kind : LaneKind) → length bs ≡ lane_size → at ≡ a + lanes_at + lane_size * lane_number kind → a + record_size ≤ length r
    → record_of (put r at bs) a ≡ with_lane kind (held_at bs 0) (record_of r a)
unfolding record_of with_lane lane_number
record-changed r bs a at Value l p room =
    let declared = declared-kept r bs a 0 at l p (omega arith) room in
    let value = lane-new r bs a 0 at l p (omega arith) room (a + lanes_at) (omega arith) in
    let target = lane-kept r bs a 0 at l p (omega arith) room 1 (a + (lanes_at + lane_size)) (omega arith) (omega arith) (λ z. omega arith) in
    let asked = lane-kept r bs a 0 at l p (omega arith) room 2 (a + (lanes_at + (lane_size + lane_size))) (omega arith) (omega arith) (λ z. omega arith) in
    λ i. record { declared = declared i; value = value i; target = target i; asked = asked i }
record-changed r bs a at Target l p room =
    let declared = declared-kept r bs a 1 at l p (omega arith) room in
    let value = lane-kept r bs a 1 at l p (omega arith) room 0 (a + lanes_at) (omega arith) (omega arith) (λ z. omega arith) in
    let target = lane-new r bs a 1 at l p (omega arith) room (a + (lanes_at + lane_size)) (omega arith) in
    let asked = lane-kept r bs a 1 at l p (omega arith) room 2 (a + (lanes_at + (lane_size + lane_size))) (omega arith) (omega arith) (λ z. omega arith) in
    λ i. record { declared = declared i; value = value i; target = target i; asked = asked i }
record-changed r bs a at Asked l p room =
    let declared = declared-kept r bs a 2 at l p (omega arith) room in
    let value = lane-kept r bs a 2 at l p (omega arith) room 0 (a + lanes_at) (omega arith) (omega arith) (λ z. omega arith) in
    let target = lane-kept r bs a 2 at l p (omega arith) room 1 (a + (lanes_at + lane_size)) (omega arith) (omega arith) (λ z. omega arith) in
    let asked = lane-new r bs a 2 at l p (omega arith) room (a + (lanes_at + (lane_size + lane_size))) (omega arith) in
    λ i. record { declared = declared i; value = value i; target = target i; asked = asked i }

pub lanes-three : (kind : LaneKind) → lane_number kind < 3
unfolding lane_number
lanes-three Value = omega arith
lanes-three Target = omega arith
lanes-three Asked = omega arith

properties-changed : (r bs : List ℕ) (i at : ℕ) (kind : LaneKind) → length bs ≡ lane_size → length r ≡ room_size → i < properties_most → at ≡ lane_at i (lane_number kind)
    → properties_in (put r at bs) ≡ change_at i (with_lane kind (held_at bs 0)) (properties_in r)
unfolding properties_in count_in
properties-changed r bs i at kind l q h e =
    let few = lanes-three kind in
    let fits : at + length bs ≤ length r = omega arith in
    let count = byte-alike (put-before r bs at fits count_at 1 (omega arith)) 0 {a' = count_at} {b' = count_at} refl refl (omega arith) in
    ap (λ (x : ℕ). tab (min x properties_most) (λ j. record_of (put r at bs) (record_at j))) count
    ∙ tab-changed (min (get_or r count_at 0) properties_most) i (λ j. record_of (put r at bs) (record_at j)) (λ j. record_of r (record_at j)) (with_lane kind (held_at bs 0))
    (λ j z o. elim (dec_lt j i) as (λ _. record_of (put r at bs) (record_at j) ≡ record_of r (record_at j)) [
      | yes x ↦ record-alike (put-before r bs at fits (record_at j) record_size (omega arith))
      | no x ↦ record-alike (put-after r bs at fits (record_at j) record_size (omega arith) (omega arith))
    ])
    (λ z. record-changed r bs (record_at i) at kind l e (omega arith))

lane_at-makes : (bs : List ℕ) (i : ℕ) (kind : LaneKind) → length bs ≡ lane_size → i < properties_most → Makes (lane_at i (lane_number kind)) bs (in_device (change_at i (with_lane kind (held_at bs 0))))
unfolding device_of in_device
lane_at-makes bs i kind l h = record {
  makes = λ r q.
      let few = lanes-three kind in
      let at : ℕ = lane_at i (lane_number kind) in
      let f : List Property → List Property = change_at i (with_lane kind (held_at bs 0)) in
      let fits : at + length bs ≤ length r = omega arith in
      let head = put-before r bs at fits id_at count_at (omega arith) in
      let rest = description_is (within head described_at refl refl (omega arith)) f (properties-changed r bs i at kind l q h refl) in
      device_is (front head described_at (omega arith)) (in_description f (description_in r)) rest;
}

pub lane-makes : (bs : List ℕ) (h : Option Held) → length bs ≡ lane_size → held_at bs 0 ≡ h → LaneMakes bs h
lane-makes bs h l e = subst (LaneMakes bs) e (record { makes = λ i kind q. lane_at-makes bs i kind l q })

-- ---- a lane of the room itself

module _ (m : List ℕ) (i at : ℕ) (kind : LaneKind) (h : Option Held) (bytes : List ℕ) (place : at ≡ lane_at i (lane_number kind)) (size : length bytes ≡ lane_size) (made : LaneMakes bytes h) where
  pub lane_outside : length m < at + lane_size → LaneSet m i kind h m
  lane_outside k = record { bytes = bytes; size = size; makes = made; written = λ l. absurd (omega arith); kept = λ l. refl }

  pub lane-inside-set : (m' : List ℕ) → at + lane_size ≤ length m → m' ≡ put m at bytes → LaneSet m i kind h m'
  lane-inside-set m' k e = record {
    bytes = bytes;
    size = size;
    makes = made;
    written = λ l. e ∙ ap (λ (a : ℕ). put m a bytes) place;
    kept = λ l. absurd (omega arith);
  }
