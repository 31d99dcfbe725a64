-- Text put into a buffer.
use Prim.Native.Nat.{ℕ, ◌+◌, ◌≤◌, ◌<◌}
use mathlib.Core.Path.{◌≡◌, sym, ◌∙◌}
use mathlib.Core.List.{List, [], ◌∷◌, ◌++◌}
use native.Mathlib.Omega.{arith}
use lib.Dec.{leb}
use lib.ListN.{length, take, drop, set, length-set}
use lib.Seq.{drop-drop}
use borrow.Author.Tests.{le-leb, lt-leb, leb-true, leb-false}
use mathlib.Core.Bool.{Bool, true, false}
use Rattle.little_endian.specs.Bytes.{put}
use Rattle.little_endian.proofs.Put.{put_one, put_then}
use Rattle.lines.specs.Out.{Puts, written, behind}

module _ (d : List ℕ) (at : ℕ) (t : List ℕ) where
  pub room : at + length t ≤ length d → Puts d at t (at + length t) (put d at t)
  unfolding written behind put
  room h = record { place = rw (le-leb (at + length t) (length d) h); memory = rw (le-leb (at + length t) (length d) h) }

  pub no_room : length d < at + length t → Puts d at t (length d + 1) d
  unfolding written behind
  no_room h = record { place = rw (lt-leb (at + length t) (length d) h); memory = rw (lt-leb (at + length t) (length d) h) }

  -- after the test of room
  pub put_no : {b : Bool} → b ≡ leb (at + length t) (length d) → b ≡ false → Puts d at t (length d + 1) d
  put_no e f = no_room (leb-false (at + length t) (length d) (sym e ∙ f))

  pub put-fits : {b : Bool} → b ≡ leb (at + length t) (length d) → b ≡ true → at + length t ≤ length d
  put-fits e f = leb-true (at + length t) (length d) (sym e ∙ f)

  pub put_yes : {d' : List ℕ} → at + length t ≤ length d → d' ≡ put d at t → Puts d at t (at + length t) d'
  put_yes h q = rw q (room h)

-- a part of a list, replaced
pub part-put : (d b s : List ℕ) (at n : ℕ) → b ≡ s → length s ≡ n → take at d ++ (b ++ drop n (drop at d)) ≡ put d at s
unfolding put
part-put d b s at n e l = rw (e, l, drop-drop)

-- a store, and the rest behind it
pub store_then : (d : List ℕ) (k x : ℕ) (t : List ℕ) → k < length d → put (set d k x) (k + 1) t ≡ put d k (x ∷ t)
store_then d k x t h = put_then d (set d k x) k (k + 1) (x ∷ []) t (put_one d k x h) (omega arith) (omega arith)

pub store_two : (d : List ℕ) (k x y : ℕ) (t : List ℕ) → k + 1 < length d → put (set (set d k x) (k + 1) y) (k + 2) t ≡ put d k (x ∷ (y ∷ t))
store_two d k x y t h =
    let e : k + 2 ≡ k + 1 + 1 = omega arith in
    rw (e, store_then (set d k x) (k + 1) y t (rw length-set h)) (store_then d k x (y ∷ t) (omega arith))
