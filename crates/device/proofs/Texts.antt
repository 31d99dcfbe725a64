-- A byte string of a room as a place: cut by its limit and by the room's end.
use Prim.Native.Nat.{ℕ, zero, suc, ◌+◌, ◌-◌, ◌≤◌, min}
use native.Mathlib.Nat.{zero-min, min-zero, suc-min-suc}
use native.Mathlib.Omega.{arith}
use native.Mathlib.Decide.{dec_lt}
use mathlib.Core.Path.{◌≡◌, ap, ◌∙◌}
use mathlib.Core.List.{List, [], ◌∷◌}
use lib.ListN.{length, get_or, take, drop, length-drop, drop_of_length-le}
use lib.Seq.{take-nil}
use Rattle.text.specs.declared.Place.{Place}
use Rattle.text.specs.Places.{bytes_at, Within}
use Rattle.memory.specs.Bytes.{span}
use Rattle.memory.proofs.Flat.{span-span}
use Rattle.device.specs.Decode.{text_at}
use Rattle.device.specs.Meaning.{TextIn, shifted}

-- what is taken ends with the list
take_clipped : (k : ℕ) (l : List ℕ) → take (min k (length l)) l ≡ take k l
take_clipped zero l = rw (zero-min (length l))
take_clipped (suc k) [] = rw (min-zero (suc k))
take_clipped (suc k) (x ∷ l) = rw (suc-min-suc k (length l)) (ap (λ (t : List ℕ). x ∷ t) (take_clipped k l))

-- n bytes from a on, with both ends cut by the list's end
clipped : (r : List ℕ) (a n : ℕ) → take (min (a + n) (length r) - min a (length r)) (drop (min a (length r)) r) ≡ take n (drop a r)
clipped r a n = elim (dec_lt a (length r)) as (λ _. take (min (a + n) (length r) - min a (length r)) (drop (min a (length r)) r) ≡ take n (drop a r)) [
  | yes h ↦ (let e : min a (length r) ≡ a = omega arith in
      let f : min (a + n) (length r) - a ≡ min n (length (drop a r)) = rw (length-drop a r) (omega arith) in
      rw (e, f) (take_clipped n (drop a r)))
  | no h ↦ (let e : min a (length r) ≡ length r = omega arith in
      rw (e, drop_of_length-le r {i = length r} (omega arith), drop_of_length-le r {i = a} (omega arith), take-nil {A = ℕ} n) (take-nil (min (a + n) (length r) - length r)))
]

-- as `text_at` finds it: b is the length byte, n the length, s and e the two ends
pub text_in : (r : List ℕ) (at most b n s e : ℕ) → b ≡ get_or r at 0 → n ≡ min b most → s ≡ min (at + 1) (length r) → e ≡ min (at + 1 + n) (length r)
    → TextIn r (text_at r at most) (record { start = s; end = e })
unfolding text_at span
text_in r at most b n s e o p q u = record {
  says = rw (u, q, p, o) (clipped r (at + 1) (min (get_or r at 0) most));
  within = record { ordered = omega arith; inside = omega arith };
}

-- a place of a room that is a part of memory
pub text_in-memory : (m : List ℕ) (a n : ℕ) (p : Place) → a + n ≤ length m → Within n p → bytes_at (span m a n) p ≡ bytes_at m (shifted a p)
unfolding span
text_in-memory m a n p h w =
    let e : p.end - p.start ≡ (a + p.end) - (a + p.start) = omega arith in
    span-span m a n p.start (p.end - p.start) h (omega (arith, w)) ∙ ap (λ (k : ℕ). take k (drop (a + p.start) m)) e
