-- The ID of a device as it stands in memory: a length byte, then the bytes.
use Prim.Native.Nat.{ℕ, zero, suc, ◌+◌, ◌<◌, min}
use native.Mathlib.Omega.{arith}
use mathlib.Core.Path.{◌≡◌, refl, sym, ap, ◌∙◌}
use mathlib.Core.Bool.{false}
use mathlib.Core.List.{List, [], ◌∷◌}
use lib.ListN.{length, get_or, take, drop, length-take}
use lib.Seq.{take-take, drop-drop}
use Rattle.text.specs.Bytes.{eq_bytes}
use Rattle.text.proofs.Bytes.{eq_bytes_no}
use Rattle.memory.specs.Bytes.{span}
use Rattle.memory.specs.Layout.{room_size}
use Rattle.memory.proofs.Flat.{get_or-span}
use Rattle.text.specs.Ids.{id_most}
use Rattle.device.specs.Decode.{text_at, device_of}

tail-take : (k n : ℕ) (l : List ℕ) → k < n → take k (drop 1 (take n l)) ≡ take k (drop 1 l)
tail-take k zero l h = absurd (omega arith)
tail-take k (suc n) [] h = refl
tail-take k (suc n) (x ∷ l) h = take-take k n l (omega arith)

text_in-span : (m : List ℕ) (at n : ℕ) → id_most < n → text_at m at id_most ≡ text_at (span m at n) 0 id_most
unfolding text_at span
text_in-span m at n h =
    let e : get_or (span m at n) 0 0 ≡ get_or m at 0 = get_or-span m at n 0 (omega arith) ∙ ap (λ (k : ℕ). get_or m k 0) (omega arith) in
    rw e (sym (tail-take (min (get_or m at 0) id_most) n (drop at m) (omega arith) ∙ ap (take (min (get_or m at 0) id_most)) (drop-drop 1 at m)))

pub id_in-room : (m : List ℕ) (at : ℕ) → text_at m at id_most ≡ (device_of (span m at room_size)).id
unfolding device_of
id_in-room m at = text_in-span m at room_size (omega arith)

-- as `id_from` finds it
pub id-cut : (m : List ℕ) (at n : ℕ) → n ≡ min (get_or m at 0) id_most → span m (at + 1) n ≡ text_at m at id_most
unfolding text_at
id-cut m at n e = ap (span m (at + 1)) e

-- where its last byte would be that of another ID, there is another byte
pub ends-other : (m id : List ℕ) (at j k : ℕ) → j ≡ at + 1 + k → k < length id → (get_or m j 0 ≡ get_or id k 0 → ⊥) → eq_bytes (text_at m at id_most) id ≡ false
unfolding text_at span
ends-other m id at j k e h n = eq_bytes_no (text_at m at id_most) id (λ p.
    let q : k < min (get_or m at 0) id_most = omega (arith, length-take (min (get_or m at 0) id_most) (drop (at + 1) m), ap length p) in
    n (ap (λ (i : ℕ). get_or m i 0) e ∙ sym (get_or-span m (at + 1) (min (get_or m at 0) id_most) k q) ∙ ap (λ (l : List ℕ). get_or l k 0) p))
