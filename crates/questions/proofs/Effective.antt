-- The states of a device: its own, and the effective one, which its root decides.
use Rattle.std.specs.Prelude.{None, Some, Option, Ok}
use Prim.Native.Nat.{ℕ}
use mathlib.Core.Path.{◌≡◌, refl, sym, ap, ◌∙◌}
use mathlib.Core.Bool.{Bool, true, false, cond, false≢true}
use mathlib.Core.List.{List}
use Rattle.answer.specs.Answer.{Answer, refused, gives, and_then}
use Rattle.text.specs.declared.Place.{Place}
use Rattle.text.specs.Places.{bytes_at}
use Rattle.memory.specs.Bytes.{span}
use Rattle.memory.specs.Layout.{room_size}
use Rattle.rules.specs.declared.DeviceState.{DeviceState}
use Rattle.rules.specs.declared.DeviceState.TheVariants.{Init, Ready, Disconnected, Sleeping, Lost}
use Rattle.rules.specs.Table.{Device, root_of}
use Rattle.rules.specs.Find.{find}
use Rattle.rules.specs.Questions.{Value, a_text, two_states, is_lost, found_lost, root_lost, effective}
use Rattle.device.specs.Decode.{device_of}
use Rattle.device.specs.Meaning.{text_in}
use Rattle.lookup.specs.Meaning.{Sound, means}
use Rattle.answer.specs.Refused.{refusal_of}
use Rattle.answer.specs.declared.Refused.{Refused}
use Rattle.questions.specs.Meaning.{says_states}
use Rattle.questions.specs.Parts.{Says, RoomOf, states_of}

-- a state that is not `lost`
pub not-lost : (s : DeviceState) → (s ≡ Lost → ⊥) → false ≡ is_lost s
unfolding is_lost
not-lost Init h = refl
not-lost Ready h = refl
not-lost Disconnected h = refl
not-lost Sleeping h = refl
not-lost Lost h = absurd (h refl)

-- sound memory refuses only because the device is not there
pub not_lost : (m id : List ℕ) (n : Refused) → Sound m → ((f : Device → Answer Value) → Says m (and_then (find id (means m).now.devices) f) (refused (refusal_of n))) → false ≡ found_lost (find id (means m).now.devices)
unfolding found_lost and_then is_lost
not_lost m id n s h = go (find id (means m).now.devices) ((h (λ v. gives (table-says v))).answered s)
  where
    table-says : Device → Value
    table-says v = a_text None

    go : (y : Answer Device) → refused (refusal_of n) ≡ and_then y (λ v. gives (table-says v)) → false ≡ found_lost y
    go (refused k) z = refl
    go (gives v) z = absurd (differ z)
      where
        told : Answer Value → Bool
        told (refused k) = true
        told (gives a) = false

        differ : ◌≡◌ {A = Answer Value} (refused (refusal_of n)) (gives (table-says v)) → ⊥
        differ z' = false≢true (sym (ap told z'))

pub is_lost_lem : (m id : List ℕ) (start : ℕ) (room : List ℕ) (r : Bool) → RoomOf m start (find id (means m).now.devices) → room ≡ span m start room_size → r ≡ found_lost (gives (device_of room)) → r ≡ found_lost (find id (means m).now.devices)
is_lost_lem m id start room r h g e = e ∙ (ap (λ (t : List ℕ). found_lost (gives (device_of t))) g ∙ ap found_lost (sym h.holds))

module _ (ds : List Device) (v : Device) where
  own-state : root_of v.description ≡ None → v.state ≡ effective ds v
  unfolding effective root_lost
  own-state e = rw e

  by-root : (root : List ℕ) (lost : Bool) → root_of v.description ≡ Some root → lost ≡ found_lost (find root ds) → cond lost Lost v.state ≡ effective ds v
  unfolding effective root_lost
  by-root root lost e h = rw (e, h)

-- from the text that a room shows as the root
module _ (ds : List Device) (room : List ℕ) (x : Option Place) (e : text_in room x ≡ root_of (device_of room).description) where
  pub no-root : x ≡ None → (device_of room).state ≡ effective ds (device_of room)
  unfolding text_in
  no-root h = own-state ds (device_of room) (sym e ∙ ap (text_in room) h)

  pub root_lost_lem : (p : Place) → x ≡ Some p → true ≡ found_lost (find (bytes_at room p) ds) → Lost ≡ effective ds (device_of room)
  unfolding text_in
  root_lost_lem p h k = by-root ds (device_of room) (bytes_at room p) true (sym e ∙ ap (text_in room) h) k

  pub root-not_lost : (p : Place) → x ≡ Some p → false ≡ found_lost (find (bytes_at room p) ds) → (device_of room).state ≡ effective ds (device_of room)
  unfolding text_in
  root-not_lost p h k = by-root ds (device_of room) (bytes_at room p) false (sym e ∙ ap (text_in room) h) k

pub states-says : (ds : List Device) (room room' : List ℕ) (own eff : DeviceState) (t : ℕ) → room ≡ room' → own ≡ (device_of room).state → eff ≡ effective ds (device_of room) → t ≡ (device_of room).time → says_states (Ok (record { own = own; effective = eff; time = t })) ≡ states_of ds (device_of room')
unfolding says_states
states-says ds room room' own eff t g e f h =
    ap (λ (s : DeviceState). gives (two_states s eff t)) e
    ∙ (ap (λ (s : DeviceState). gives (two_states (device_of room).state s t)) f
    ∙ (ap (λ (n : ℕ). gives (two_states (device_of room).state (effective ds (device_of room)) n)) h
    ∙ ap (λ (r : List ℕ). states_of ds (device_of r)) g))
