-- A number in bytes by its two halves: read, and put.
use mathlib.Core.Path.{◌≡◌, sym, ap, ◌∙◌}
use mathlib.Core.List.{List, [], ◌∷◌, ◌++◌}
use Prim.Native.Nat.{ℕ, ◌+◌, ◌*◌, ◌/◌, ◌^◌, ◌≤◌}
use native.Mathlib.Nat.{pow-suc, mul_comm, mul_assoc}
use native.Mathlib.Omega.{arith}
use lib.ListN.{length, take, drop, length-drop}
use lib.Seq.{drop-drop, take-add, length-take-le}
use Rattle.little_endian.specs.Bytes.{le_bytes, le, num, put}
use Rattle.little_endian.proofs.Numbers.{length-le_bytes, le_bytes-append}
use Rattle.little_endian.proofs.Put.{put_then}

le-append : (x y : List ℕ) → le (x ++ y) ≡ le x + 256 ^ length x * le y
unfolding le
le-append [] y = omega arith
le-append (b ∷ x) y =
    let p : 256 ^ length x * 256 * le y ≡ 256 * (256 ^ length x * le y) = rw (mul_comm (256 ^ length x) 256, mul_assoc) in
    rw pow-suc (omega (arith, le-append x y))

-- a number from two of half as many bytes
pub num_halves : (h at a b : ℕ) (s : List ℕ) → at + h ≤ length s → a ≡ num h at s → b ≡ num h (at + h) s → a + b * 256 ^ h ≡ num (h + h) at s
unfolding num
num_halves h at a b s k e f =
    let l : length (take h (drop at s)) ≡ h = length-take-le h (drop at s) (rw length-drop (omega arith)) in
    let m : take h (drop h (drop at s)) ≡ take h (drop (at + h) s) = rw drop-drop in
    let n : le (take h (drop at s) ++ take h (drop (at + h) s)) ≡ le (take h (drop at s)) + 256 ^ h * le (take h (drop (at + h) s)) =
    le-append (take h (drop at s)) (take h (drop (at + h) s)) ∙ rw l in
    rw (take-add h h (drop at s), m, n, e, f, mul_comm)

-- a number is put as its lower half, then its higher
pub halves_stored : (h at v : ℕ) (d d1 d2 : List ℕ) → at ≤ length d → d1 ≡ put d at (le_bytes h v) → d2 ≡ put d1 (at + h) (le_bytes h (v / 256 ^ h)) → d2 ≡ put d at (le_bytes (h + h) v)
halves_stored h at v d d1 d2 l e f =
    f ∙ put_then d d1 at (at + h) (le_bytes h v) (le_bytes h (v / 256 ^ h)) e l (ap (λ (n : ℕ). at + n) (sym (length-le_bytes h v))) ∙ ap (put d at) (sym (le_bytes-append h h v))
