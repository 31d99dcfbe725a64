-- What a question answers, from what is read in the room of a device.
use Prim.Native.Nat.{ℕ, ◌≤◌, ◌<◌}
use native.Mathlib.Omega.{arith}
use mathlib.Core.Path.{◌≡◌, sym, ap, ◌∙◌, subst}
use mathlib.Core.List.{List, []}
use lib.ListN.{length}
use Rattle.answer.specs.Answer.{Answer, refused, gives, and_then, only}
use Rattle.memory.specs.Bytes.{span}
use Rattle.memory.specs.Layout.{room_size, room_at, slot}
use Rattle.book.specs.Book.{question}
use Rattle.rules.specs.Table.{Device}
use Rattle.rules.specs.Find.{find}
use Rattle.rules.proofs.Ranks.{at_some, at_none}
use Rattle.rules.specs.Questions.{Question, ask_nth, Value, an_id, reply, at}
use Rattle.device.specs.Decode.{device_of}
use Rattle.lookup.specs.Meaning.{Sound, means}
use Rattle.lookup.specs.Contract.{Did}
use Rattle.answer.specs.Refused.{refusal_of}
use Rattle.answer.specs.declared.Refused.{Refused}
use Rattle.questions.specs.Parts.{Says, RoomOf}
use Rattle.questions.proofs.Asking.{asked, not_sound, is-sound, there, not_there, room_of_lem}

-- ---- a question that is answered from the device of an ID

module _ (q : Question) (m id : List ℕ) (f : Device → Answer Value) (is : reply (means m).now q ≡ and_then (find id (means m).now.devices) f) where
  pub refusal : (r : Refused) → ((g : Device → Answer Value) → Says m (and_then (find id (means m).now.devices) g) (refused (refusal_of r))) → Did (question q) m m (refused (refusal_of r))
  refusal r h = asked q m (refused (refusal_of r)) (subst (λ (a : Answer Value). Says m a (refused (refusal_of r))) (sym is) (h f))

  pub answer : (start : ℕ) (a : Answer Value) → RoomOf m start (find id (means m).now.devices) → a ≡ f (device_of (span m start room_size)) → Did (question q) m m a
  answer start a r h =
      asked q m a (is-sound m (reply (means m).now q) a r.sound (there (find id (means m).now.devices) (device_of (span m start room_size)) f a r.holds h ∙ sym is))

  -- from the room's bytes
  pub answer_in : (start : ℕ) (room : List ℕ) (a : Answer Value) → RoomOf m start (find id (means m).now.devices) → room ≡ span m start room_size → a ≡ f (device_of room) → Did (question q) m m a
  answer_in start room a r g h = answer start a r (h ∙ ap (λ (t : List ℕ). f (device_of t)) g)

-- ---- a question that is answered from the table

pub unsound-asked : (q : Question) (m : List ℕ) → (Sound m → ⊥) → Did (question q) m m (refused (only 6))
unsound-asked q m h = asked q m (refused (only 6)) (not_sound m (reply (means m).now q) h)

pub sound-asked : (q : Question) (m : List ℕ) (a : Answer Value) → Sound m → a ≡ reply (means m).now q → Did (question q) m m a
sound-asked q m a s e = asked q m a (is-sound m (reply (means m).now q) a s e)

-- ---- the i-th of a list

pub nth-none : (m : List ℕ) (i n : ℕ) → Sound m → n ≡ length (means m).now.devices → n ≤ i → Did (question (ask_nth i)) m m (refused (only 3))
unfolding reply
nth-none m i n s e h = sound-asked (ask_nth i) m (refused (only 3)) s (not_there (at i (means m).now.devices) (only 3) (λ v. gives (an_id v.id)) (at_none i (means m).now.devices (omega arith)))

pub nth-room : (m : List ℕ) (i n start : ℕ) → Sound m → n ≡ length (means m).now.devices → i < n → start ≡ room_at (slot m i) → RoomOf m start (at i (means m).now.devices)
nth-room m i n start s e h g = room_of_lem m i start (at i (means m).now.devices) s (omega arith) g (at_some i (means m).now.devices (device_of []) (omega arith))

pub nth-says : (m : List ℕ) (i start : ℕ) (a : Answer Value) → RoomOf m start (at i (means m).now.devices) → a ≡ gives (an_id (device_of (span m start room_size)).id) → Did (question (ask_nth i)) m m a
unfolding reply
nth-says m i start a r h = sound-asked (ask_nth i) m a r.sound (there (at i (means m).now.devices) (device_of (span m start room_size)) (λ v. gives (an_id v.id)) a r.holds h)
