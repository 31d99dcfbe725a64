-- A word decoded into a buffer.
use Rattle.std.specs.Prelude.{None, Some}
use Prim.Native.Nat.{ℕ, ◌*◌, ◌/◌, ◌%◌, ◌≤◌, ◌<◌}
use mathlib.Core.Path.{◌≡◌, refl, sym, ◌∙◌}
use mathlib.Core.List.{List, [], ◌∷◌}
use mathlib.Core.Bool.{Bool, true, false, ◌&&◌, and-false, false≢true}
use native.Mathlib.Omega.{arith}
use native.Mathlib.Nat.{zero-add}
use lib.Dec.{leb}
use lib.ListN.{length}
use borrow.Author.Tests.{le-leb, lt-leb}
use Rattle.text.specs.Ascii.{ascii}
use Rattle.text.specs.Bytes.{eq_bytes}
use Rattle.little_endian.specs.Bytes.{put}
use Rattle.lines.specs.Hex.{is_digit, are_pairs, pairs, bytes_of, fitting, counted, in_front, Decodes}

pub pairs-length : (w : List ℕ) → are_pairs w ≡ true → length w ≡ 2 * length (pairs w)
unfolding are_pairs pairs
pairs-length [] e = refl
pairs-length (a ∷ []) e = absurd (false≢true e)
pairs-length (a ∷ (b ∷ s)) e = let h = pairs-length s (last (is_digit a) (is_digit b) (are_pairs s) e) in omega arith
  where
    last : (x y z : Bool) → (x && (y && z)) ≡ true → z ≡ true
    last true true z q = q
    last true false z q = absurd (false≢true q)
    last false y z q = absurd (false≢true q)

pub odd-pairs : (w : List ℕ) → (length w % 2 ≡ 0 → ⊥) → false ≡ are_pairs w
odd-pairs w n = pick (are_pairs w) refl
  where
    pick : (b : Bool) → are_pairs w ≡ b → false ≡ are_pairs w
    pick true e = absurd (n (omega (arith, pairs-length w e)))
    pick false e = sym e

module _ (w d : List ℕ) where
  pub decode-none : true ≡ eq_bytes w (ascii "-") → Decodes w d (Some 0) d
  unfolding bytes_of fitting counted in_front
  decode-none e = record { answer = rw (← e, le-leb 0 (length d) (omega arith)); memory = rw (← e, le-leb 0 (length d) (omega arith)) }

  refuse : bytes_of w ≡ None → Decodes w d None d
  unfolding fitting counted in_front
  refuse e = record { answer = rw e; memory = rw e }

  module _ (n : false ≡ eq_bytes w (ascii "-")) where
    empty-none : length w ≡ 0 → bytes_of w ≡ None
    unfolding bytes_of
    empty-none h = rw (← n, h)

    pub decode_empty : length w ≡ 0 → Decodes w d None d
    decode_empty h = refuse (empty-none h)

    odd-none : false ≡ are_pairs w → bytes_of w ≡ None
    unfolding bytes_of
    odd-none h = rw (← n, ← h, and-false (leb 1 (length w)))

    pub decode_odd : false ≡ are_pairs w → Decodes w d None d
    decode_odd h = refuse (odd-none h)

    module _ (f : (length w ≡ 0 → ⊥)) (h : true ≡ are_pairs w) where
      is_some : bytes_of w ≡ Some (pairs w)
      unfolding bytes_of
      is_some = rw (← n, ← h, le-leb 1 (length w) (omega arith))

      pub decode-full : length d < length w / 2 → Decodes w d None d
      unfolding fitting counted in_front
      decode-full l =
          let g : length d < length (pairs w) = omega (arith, pairs-length w (sym h)) in
          record { answer = rw (is_some, lt-leb (length (pairs w)) (length d) g); memory = rw (is_some, lt-leb (length (pairs w)) (length d) g) }

      pub decode-fits : length w / 2 ≤ length d → length (pairs w) ≤ length d
      decode-fits l = omega (arith, pairs-length w (sym h))

      pub decode-all : {d' : List ℕ} → length w / 2 ≤ length d → d' ≡ put d 0 (pairs w) → Decodes w d (Some (length w / 2)) d'
      unfolding fitting counted in_front put
      decode-all l e =
          let g : length (pairs w) ≤ length d = decode-fits l in
          let m : length w / 2 ≡ length (pairs w) = omega (arith, pairs-length w (sym h)) in
          record { answer = rw (is_some, le-leb (length (pairs w)) (length d) g, m); memory = rw (is_some, le-leb (length (pairs w)) (length d) g) (e ∙ rw zero-add) }
