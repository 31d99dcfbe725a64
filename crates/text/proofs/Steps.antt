-- What is due after each byte.
use Prim.Native.Nat.{ℕ, zero, suc, ◌+◌, ◌-◌, ◌≤◌, ◌<◌}
use native.Mathlib.Numerals.{add-one}
use native.Mathlib.Omega.{arith}
use mathlib.Core.Path.{◌≡◌, refl, ap, ◌∙◌}
use mathlib.Core.List.{List, [], ◌∷◌}
use mathlib.Core.Bool.{false, cond}
use lib.Dec.{leb, eqb}
use lib.ListN.{length, drop, get_or, drop_of_length-le}
use lib.Seq.{drop-cons}
use borrow.Author.Tests.{le-leb, lt-leb, eq-eqb, ne_eqb}
use Rattle.text.specs.Utf8Place.{Due, due, ready, never, low, high, first, later, next}
use Rattle.text.specs.Parts.{utf8_from, ByteIn}
use Rattle.text.proofs.Bytes.{at_most}

-- the bytes due beyond three
unfoldable pub extra : ℕ → ℕ
extra b = cond (leb b 0xEF) 0 1

module _ (b : ℕ) where
  pub low_e0 : b ≡ 0xE0 → low b ≡ 0xA0
  unfolding low
  low_e0 e = rw (eq-eqb b 0xE0 e)

  pub low_f0 : b ≡ 0xF0 → low b ≡ 0x90
  unfolding low
  low_f0 e = rw (ne_eqb b 0xE0 (λ f. omega arith), eq-eqb b 0xF0 e)

  pub low-other : (b ≡ 0xE0 → ⊥) → (b ≡ 0xF0 → ⊥) → low b ≡ 0x80
  unfolding low
  low-other f g = rw (ne_eqb b 0xE0 f, ne_eqb b 0xF0 g)

  pub high_ed : b ≡ 0xED → high b ≡ 0x9F
  unfolding high
  high_ed e = rw (eq-eqb b 0xED e)

  pub high_f4 : b ≡ 0xF4 → high b ≡ 0x8F
  unfolding high
  high_f4 e = rw (ne_eqb b 0xED (λ f. omega arith), eq-eqb b 0xF4 e)

  pub high-other : (b ≡ 0xED → ⊥) → (b ≡ 0xF4 → ⊥) → high b ≡ 0xBF
  unfolding high
  high-other f g = rw (ne_eqb b 0xED f, ne_eqb b 0xF4 g)

  pub first_1 : b ≤ 0x7F → first b ≡ ready
  unfolding first
  first_1 k = rw (le-leb b 0x7F k)

  pub first_tail : 0x7F < b → b ≤ 0xC1 → first b ≡ never
  unfolding first
  first_tail h k = rw (lt-leb b 0x7F h, le-leb b 0xC1 k)

  pub first_2 : 0xC1 < b → b ≤ 0xDF → first b ≡ due 1 0x80 0xBF
  unfolding first
  first_2 h k = rw (lt-leb b 0x7F (omega arith), lt-leb b 0xC1 h, le-leb b 0xDF k)

  pub first_3 : 0xDF < b → b ≤ 0xEF → first b ≡ due 2 (low b) (high b)
  unfolding first
  first_3 h k = rw (lt-leb b 0x7F (omega arith), lt-leb b 0xC1 (omega arith), lt-leb b 0xDF h, le-leb b 0xEF k)

  pub first_4 : 0xEF < b → b ≤ 0xF4 → first b ≡ due 3 (low b) (high b)
  unfolding first
  first_4 h k = rw (lt-leb b 0x7F (omega arith), lt-leb b 0xC1 (omega arith), lt-leb b 0xDF (omega arith), lt-leb b 0xEF h, le-leb b 0xF4 k)

  pub first-over : 0xF4 < b → first b ≡ never
  unfolding first
  first-over h = rw (lt-leb b 0x7F (omega arith), lt-leb b 0xC1 (omega arith), lt-leb b 0xDF (omega arith), lt-leb b 0xEF (omega arith), lt-leb b 0xF4 h)

  -- the first byte of three or four
  pub first-long : 0xDF < b → b ≤ 0xF4 → first b ≡ due (suc (suc (extra b))) (low b) (high b)
  unfolding extra
  first-long h k = at_most b 0xEF (λ q. rw (le-leb b 0xEF q) (first_3 h q)) (λ q. rw (lt-leb b 0xEF q) (first_4 q k))

  later-low : (n lo hi : ℕ) → 0 < n → b < lo → later n lo hi b ≡ never
  unfolding later
  later-low zero lo hi p h = absurd (omega arith)
  later-low (suc n) lo hi p h = rw (lt-leb lo b h)

  later-high : (n lo hi : ℕ) → 0 < n → lo ≤ b → hi < b → later n lo hi b ≡ never
  unfolding later
  later-high zero lo hi p h k = absurd (omega arith)
  later-high (suc n) lo hi p h k = rw (le-leb lo b h, lt-leb b hi k)

  later_in : (n m lo hi : ℕ) → n ≡ suc m → lo ≤ b → b ≤ hi → later n lo hi b ≡ due m 0x80 0xBF
  unfolding later
  later_in n m lo hi e h k = rw (e, le-leb lo b h, le-leb b hi k)

  module _ (d : Due) where
    pub next-ready : d.count ≡ 0 → next d b ≡ first b
    unfolding next later
    next-ready e = rw e

    pub next_low : 0 < d.count → b < d.lo → next d b ≡ never
    unfolding next
    next_low p h = later-low d.count d.lo d.hi p h

    pub next-high : 0 < d.count → d.lo ≤ b → d.hi < b → next d b ≡ never
    unfolding next
    next-high p h k = later-high d.count d.lo d.hi p h k

    pub next_in : 0 < d.count → d.lo ≤ b → b ≤ d.hi → next d b ≡ due (d.count - 1) 0x80 0xBF
    unfolding next
    next_in p h k = later_in d.count (d.count - 1) d.lo d.hi (omega arith) h k

-- nothing follows `never`
never-next : (b : ℕ) → next never b ≡ never
never-next b = at_most 1 b (λ h. next-high b never (omega arith) h (omega arith)) (λ h. next_low b never (omega arith) h)

pub never_ends : (s : List ℕ) → utf8_from never s ≡ false
unfolding utf8_from
never_ends [] = refl
never_ends (b ∷ s) = rw (never-next b) (never_ends s)

-- ---- at a place of a byte string

module _ (s : List ℕ) (d : Due) (i : ℕ) where
  pub at-end : length s ≤ i → utf8_from d (drop i s) ≡ eqb d.count 0
  unfolding utf8_from
  at-end h = ap (λ (x : List ℕ). utf8_from d x) (drop_of_length-le s h)

  pub one_byte : {j : ℕ} → i + 1 ≡ j → i < length s → utf8_from d (drop i s) ≡ utf8_from (next d (get_or s i 0)) (drop j s)
  unfolding utf8_from
  one_byte e h =
      let c = drop-cons s i 0 h in
      let f : utf8_from d (drop i s) ≡ utf8_from (next d (get_or s i 0)) (drop (i + 1) s) = rw (c, add-one i) in
      f ∙ ap (λ (k : ℕ). utf8_from (next d (get_or s i 0)) (drop k s)) e

module _ {s : List ℕ} {i : ℕ} (n : ℕ) {lo hi : ℕ} where
  pub due_in : (j : ℕ) → i + 1 ≡ j → ByteIn s i lo hi → utf8_from (due (suc n) lo hi) (drop i s) ≡ utf8_from (due n 0x80 0xBF) (drop j s)
  unfolding next
  due_in j e v = one_byte s (due (suc n) lo hi) i e v.inside ∙ ap (λ (x : Due). utf8_from x (drop j s)) (later_in (get_or s i 0) (suc n) n lo hi refl v.least v.most)

  pub due_out : (ByteIn s i lo hi → ⊥) → utf8_from (due (suc n) lo hi) (drop i s) ≡ false
  due_out v =
      let d = due (suc n) lo hi in
      at_most (length s) i (λ h. at-end s d i h ∙ ne_eqb (suc n) 0 (λ e. omega arith)) λ h.
      let stops : next d (get_or s i 0) ≡ never → utf8_from d (drop i s) ≡ false = λ e. one_byte s d i refl h ∙ ap (λ (x : Due). utf8_from x (drop (i + 1) s)) e ∙ never_ends (drop (i + 1) s) in
      at_most lo (get_or s i 0)
      (λ p. at_most (get_or s i 0) hi (λ q. absurd (v (record { inside = h; least = p; most = q }))) (λ q. stops (next-high (get_or s i 0) d (omega arith) p q)))
      (λ p. stops (next_low (get_or s i 0) d (omega arith) p))
