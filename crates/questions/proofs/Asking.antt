-- A question on memory that stays as it is.
use Prim.Native.Nat.{ℕ, ◌≤◌, ◌<◌}
use native.Mathlib.Omega.{arith}
use mathlib.Core.Path.{◌≡◌, refl, sym, ap, ◌∙◌}
use mathlib.Core.List.{List, []}
use lib.ListN.{length, get_or, length-take}
use Rattle.answer.specs.Answer.{Answer, refused, gives, and_then, only, Refusal}
use Rattle.memory.specs.Bytes.{span}
use Rattle.memory.specs.Layout.{room_size, room_at, capacity, slot}
use Rattle.memory.specs.State.{state, room_of, number, devices}
use Rattle.text.specs.Bytes.{eq_bytes}
use Rattle.memory.specs.Sound as soundness
use Rattle.memory.proofs.Theorems as memory
use Rattle.memory.proofs.Lists.{length-map}
use Rattle.book.specs.Book.{question}
use Rattle.rules.specs.Table.{Device}
use Rattle.rules.specs.Find.{find}
use Rattle.rules.specs.Questions.{Question, Value, reply}
use Rattle.rules.proofs.Ranks.{rank_of, find_rank, find_none, first-within}
use Rattle.device.specs.Decode.{device_of}
use Rattle.lookup.specs.Meaning.{Sound, table_of, means}
use Rattle.lookup.specs.Contract.{Did}
use Rattle.lookup.proofs.Ranks.{device_at}
use Rattle.questions.specs.Parts.{Says, RoomOf}

-- what is answered from the table, and 6 for unsound memory, is all that a question promises
pub asked : (q : Question) (m : List ℕ) (a : Answer Value) → Says m (reply (means m).now q) a → Did (question q) m m a
asked q m a h = record {
  unsound = h.unsound;
  answered = h.answered;
  sound = λ s. s;
  opening = λ s. refl;
  moved = λ s. refl;
  same = λ e. refl;
  kept = refl;
  beyond = refl;
}

pub not_sound : (m : List ℕ) (should : Answer Value) → (Sound m → ⊥) → Says m should (refused (only 6))
not_sound m should h = record { unsound = λ h'. refl; answered = λ s. absurd (h s) }

pub is-sound : (m : List ℕ) (should a : Answer Value) → Sound m → a ≡ should → Says m should a
is-sound m should a s e = record { unsound = λ h. absurd (h s); answered = λ s'. e }

-- something is there, and the rest follows from it; or it is not
pub there : {A B : Type 0} (x : Answer A) (v : A) (f : A → Answer B) (a : Answer B) → x ≡ gives v → a ≡ f v → a ≡ and_then x f
unfolding and_then
there x v f a e h = rw e h

pub not_there : {A B : Type 0} (x : Answer A) (n : Refusal) (f : A → Answer B) → x ≡ refused n → refused n ≡ and_then x f
unfolding and_then
not_there x n f e = rw e

few : (m : List ℕ) → soundness.Sound m → length (means m).now.devices ≤ capacity m
unfolding means table_of
few m s = omega (arith, length-map device_of (devices (state m).now), length-take (number (state m).now) (state m).now.rooms, memory.rooms-length m s)

-- the room of the device of rank i
pub room_of_lem : (m : List ℕ) (i start : ℕ) (v : Answer Device) → Sound m → i < length (means m).now.devices → start ≡ room_at (slot m i) → v ≡ gives (get_or (means m).now.devices i (device_of [])) → RoomOf m start v
room_of_lem m i start v s h e f =
    let k : i < capacity m = omega (arith, few m s.memory) in
    let g : span m start room_size ≡ room_of (state m).now i = ap (λ (a : ℕ). span m a room_size) e ∙ sym (memory.room_is m s.memory i k) in
    record {
      sound = s;
      inside = omega (arith, memory.room-inside m s.memory i k);
      holds = f ∙ ap gives (device_at m i (device_of []) h ∙ ap device_of (sym g));
    }

-- a device sought by its ID
pub sought : (m id : List ℕ) (rank n start : ℕ) → Sound m → rank ≡ rank_of id (means m).now.devices → n ≡ length (means m).now.devices → rank < n → start ≡ room_at (slot m rank) → RoomOf m start (find id (means m).now.devices)
sought m id rank n start s e f h g = room_of_lem m rank start (find id (means m).now.devices) s (omega arith) g (find_rank id (means m).now.devices (device_of []) (omega arith) ∙ ap (λ (i : ℕ). gives (get_or (means m).now.devices i (device_of []))) (sym e))

pub not_found : (m id : List ℕ) (rank n : ℕ) (f : Device → Answer Value) → Sound m → rank ≡ rank_of id (means m).now.devices → n ≡ length (means m).now.devices → n ≤ rank → Says m (and_then (find id (means m).now.devices) f) (refused (only 12))
not_found m id rank n f s e g h = is-sound m (and_then (find id (means m).now.devices) f) (refused (only 12)) s (not_there (find id (means m).now.devices) (only 12) f (find_none id (means m).now.devices (omega (arith, first-within (λ (v : Device). eq_bytes v.id id) (means m).now.devices))))
