-- Bytes written as hex.
use Prim.Native.Nat.{ℕ, ◌+◌, ◌*◌, ◌/◌, ◌%◌, ◌≤◌, ◌<◌}
use mathlib.Core.Path.{◌≡◌, refl, ◌∙◌, subst}
use mathlib.Core.List.{List, [], ◌∷◌}
use native.Mathlib.Omega.{arith}
use native.Mathlib.Numerals.{add-one}
use borrow.Author.Tests.{lt-ltb, le-ltb}
use lib.ListN.{length, get_or, drop, drop_of_length-le, set, length-set}
use lib.Seq.{drop-cons}
use Rattle.little_endian.specs.Bytes.{put}
use Rattle.little_endian.proofs.Put.{put-none}
use Rattle.lines.specs.Hex.{digit_of, digits_of, hex_of}
use Rattle.lines.specs.Out.{Puts}
use Rattle.lines.proofs.Putting.{store_two, room, no_room}

pub digit_low : (v : ℕ) → v < 10 → 48 + v ≡ digit_of v
unfolding digit_of
digit_low v h = rw (lt-ltb v 10 h)

pub digit-high : (v : ℕ) → 10 ≤ v → 87 + v ≡ digit_of v
unfolding digit_of
digit-high v h = rw (le-ltb v 10 h)

pub digits-length : (s : List ℕ) → length (digits_of s) ≡ 2 * length s
unfolding digits_of
digits-length [] = refl
digits-length (b ∷ s) = let e = digits-length s in omega arith

more : (s : List ℕ) (i : ℕ) → i < length s → digits_of (drop i s) ≡ digit_of (get_or s i 0 / 16) ∷ (digit_of (get_or s i 0 % 16) ∷ digits_of (drop (i + 1) s))
unfolding digits_of
more s i h = rw (add-one i, drop-cons s i 0 h)

pub record Spelled (d₀ : List ℕ) (at : ℕ) (s d : List ℕ) (i k : ℕ) : Type 0 where
  pub within : i ≤ length s
  pub place : k ≡ at + 2 * i
  pub size : length d ≡ length d₀
  pub rest : put d k (digits_of (drop i s)) ≡ put d₀ at (digits_of s)

pub spelled_at : {d₀ s d : List ℕ} {at i j k : ℕ} → Spelled d₀ at s d i j → j ≡ k → Spelled d₀ at s d i k
spelled_at {d₀} {s} {d} {at} {i} p e = subst (λ (x : ℕ). Spelled d₀ at s d i x) e p

module _ (d₀ : List ℕ) (at : ℕ) (s d : List ℕ) (i k : ℕ) (p : Spelled d₀ at s d i k) where
  pub spell-end : length s ≤ i → d ≡ put d₀ at (digits_of s)
  unfolding digits_of
  spell-end h = put-none d k ∙ rw (drop_of_length-le s h) at p.rest

  pub spell_next : i < length s → at + 2 * length s ≤ length d₀ → (x y : ℕ) → x ≡ digit_of (get_or s i 0 / 16) → y ≡ digit_of (get_or s i 0 % 16) → Spelled d₀ at s (set (set d k x) (k + 1) y) (i + 1) (k + 2)
  spell_next h room x y e f =
      record {
        within = omega arith;
        place = omega (arith, p.place);
        size = rw (length-set, length-set) p.size;
        rest = store_two d k x y (digits_of (drop (i + 1) s)) (omega (arith, p.place, p.size)) ∙ rw (e, f, ← more s i h) p.rest;
      }

-- ---- as a word

none_hex : (s : List ℕ) → length s ≡ 0 → hex_of s ≡ 45 ∷ []
unfolding hex_of
none_hex [] e = refl
none_hex (b ∷ s) e = absurd (omega arith)

some_hex : (s : List ℕ) → (length s ≡ 0 → ⊥) → hex_of s ≡ digits_of s
unfolding hex_of
some_hex [] n = absurd (n refl)
some_hex (b ∷ s) n = refl

module _ (d : List ℕ) (at : ℕ) (s : List ℕ) where
  pub hex-none : {r : ℕ} {d' : List ℕ} → length s ≡ 0 → Puts d at (45 ∷ []) r d' → Puts d at (hex_of s) r d'
  hex-none h p = rw (none_hex s h) p

  pub hex_no-room : (length s ≡ 0 → ⊥) → length d < at + 2 * length s → Puts d at (hex_of s) (length d + 1) d
  hex_no-room n h = rw (some_hex s n) (no_room d at (digits_of s) (omega (arith, digits-length s)))

  pub hex-room : {d' : List ℕ} → (length s ≡ 0 → ⊥) → at + 2 * length s ≤ length d → d' ≡ put d at (digits_of s) → Puts d at (hex_of s) (at + 2 * length s) d'
  hex-room n h e = rw (some_hex s n, e, ← digits-length s) (room d at (digits_of s) (omega (arith, digits-length s)))
