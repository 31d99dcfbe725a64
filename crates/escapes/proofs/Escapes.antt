-- Laws of escapes and of a character's bytes.
use Rattle.std.specs.Prelude.{Option, None, Some}
use Prim.Native.Nat.{ℕ, ◌+◌, ◌*◌, ◌-◌, ◌/◌, ◌%◌, ◌≤◌, ◌<◌}
use native.Mathlib.Omega.{arith}
use mathlib.Core.Path.{◌≡◌, refl, sym, ap, ◌∙◌, subst}
use mathlib.Core.List.{List, [], ◌∷◌}
use mathlib.Core.Bool.{true, false, false≢true}
use lib.ListN.{length}
use lib.Dec.{eqb}
use borrow.Author.Tests.{eqb-true, eq-eqb, ne_eqb, lt-ltb, le-ltb}
use Rattle.abnf.proofs.Steps.{in_range_lem, above_range, below_range, range-true}
use Rattle.text.specs.Scalars.{Scalar, Encodes, one, two, three, four}
use Rattle.text.proofs.Bytes.{both}
use Rattle.json_text.specs.Bytes.{byte}
use Rattle.json_text.proofs.Bytes.{split, byte_out, inside=}
use Rattle.escapes.specs.declared.Escaped.{Escaped}
use Rattle.escapes.specs.declared.Coded.{Coded}
use Rattle.escapes.specs.Escapes.{hex_digit, code_unit, is_high, is_low, pair_of, short_of, pair_after, unit_escape, escape_of, utf8, escaped_char}
use Rattle.escapes.specs.Parts.{coded_of}

-- ---- digits and units

module _ (b : ℕ) where
  pub digit_09 : 0x30 ≤ b → b ≤ 0x39 → hex_digit b ≡ b - 0x30
  unfolding hex_digit
  digit_09 h k = rw (in_range_lem 0x30 0x39 b h k)

  pub digit_upper_af : 0x41 ≤ b → b ≤ 0x46 → hex_digit b ≡ b - 0x37
  unfolding hex_digit
  digit_upper_af h k = rw (above_range 0x30 0x39 b (omega arith), in_range_lem 0x41 0x46 b h k)

  pub digit_lower_af : 0x61 ≤ b → b ≤ 0x66 → hex_digit b ≡ b - 0x57
  unfolding hex_digit
  digit_lower_af h k = rw (above_range 0x30 0x39 b (omega arith), above_range 0x41 0x46 b (omega arith), in_range_lem 0x61 0x66 b h k)

  pub digit-below : b < 0x30 → hex_digit b ≡ 0
  unfolding hex_digit
  digit-below h = rw (below_range 0x30 0x39 b h, below_range 0x41 0x46 b (omega arith), below_range 0x61 0x66 b (omega arith))

  pub digit_mid : 0x39 < b → b < 0x41 → hex_digit b ≡ 0
  unfolding hex_digit
  digit_mid h k = rw (above_range 0x30 0x39 b h, below_range 0x41 0x46 b k, below_range 0x61 0x66 b (omega arith))

  pub digit-between : 0x46 < b → b < 0x61 → hex_digit b ≡ 0
  unfolding hex_digit
  digit-between h k = rw (above_range 0x30 0x39 b (omega arith), above_range 0x41 0x46 b h, below_range 0x61 0x66 b k)

  pub digit-above : 0x66 < b → hex_digit b ≡ 0
  unfolding hex_digit
  digit-above h = rw (above_range 0x30 0x39 b (omega arith), above_range 0x41 0x46 b (omega arith), above_range 0x61 0x66 b h)

  digit-small : hex_digit b ≤ 15
  digit-small =
      split b 0x39
      (λ h. split 0x30 b (λ k. let e = digit_09 k h in omega arith) (λ k. let e = digit-below k in omega arith)) λ h1.
      split b 0x46
      (λ h. split 0x41 b (λ k. let e = digit_upper_af k h in omega arith) (λ k. let e = digit_mid h1 k in omega arith)) λ h2.
      split b 0x66
      (λ h. split 0x61 b (λ k. let e = digit_lower_af k h in omega arith) (λ k. let e = digit-between h2 k in omega arith)) λ h3.
      let e = digit-above h3 in omega arith

  short-small : short_of b ≤ 0x7F
  unfolding short_of
  short-small =
      both (eqb b 0x62) (λ e. rw e (omega arith)) λ n1. rw n1 (
      both (eqb b 0x66) (λ e. rw e (omega arith)) λ n2. rw n2 (
      both (eqb b 0x6E) (λ e. rw e (omega arith)) λ n3. rw n3 (
      both (eqb b 0x72) (λ e. rw e (omega arith)) λ n4. rw n4 (
      both (eqb b 0x74) (λ e. rw e (omega arith)) λ n5. rw n5 (
      both (eqb b 0x22) (λ e. rw e (omega arith)) λ n6. rw n6 (
      both (eqb b 0x2F) (λ e. rw e (omega arith)) λ n7. rw n7 (omega arith)))))))

pub unit-small : (s : List ℕ) (i : ℕ) → code_unit s i ≤ 0xFFFF
unfolding code_unit
unit-small s i =
    let a = digit-small (byte s i) in
    let b = digit-small (byte s (i + 1)) in
    let c = digit-small (byte s (i + 2)) in
    let d = digit-small (byte s (i + 3)) in
    omega arith

-- ---- a character's bytes

module _ (c : ℕ) where
  pub utf8_1 : c < 0x80 → utf8 c ≡ c ∷ []
  unfolding utf8
  utf8_1 h = rw (lt-ltb c 0x80 h, utf8)

  pub utf8_2 : 0x80 ≤ c → c < 0x800 → utf8 c ≡ (0xC0 + c / 64) ∷ (0x80 + c % 64) ∷ []
  unfolding utf8
  utf8_2 h k = rw (le-ltb c 0x80 h, utf8) (rw (lt-ltb c 0x800 k))

  pub utf8_3 : 0x800 ≤ c → c < 0x10000 → utf8 c ≡ (0xE0 + c / 4096) ∷ (0x80 + c / 64 % 64) ∷ (0x80 + c % 64) ∷ []
  unfolding utf8
  utf8_3 h k = rw (le-ltb c 0x80 (omega arith), utf8) (rw (le-ltb c 0x800 h) (rw (lt-ltb c 0x10000 k)))

  pub utf8_4 : 0x10000 ≤ c → utf8 c ≡ (0xF0 + c / 262144) ∷ (0x80 + c / 4096 % 64) ∷ (0x80 + c / 64 % 64) ∷ (0x80 + c % 64) ∷ []
  unfolding utf8
  utf8_4 h = rw (le-ltb c 0x80 (omega arith), utf8) (rw (le-ltb c 0x800 (omega arith)) (rw (le-ltb c 0x10000 h)))

  -- by the number of bytes
  by_size {ℓ} : {X : Type ℓ} → (c < 0x80 → X) → (0x80 ≤ c → c < 0x800 → X) → (0x800 ≤ c → c < 0x10000 → X) → (0x10000 ≤ c → X) → X
  by_size f g h k = split 0x80 c (λ a. split 0x800 c (λ b. split 0x10000 c k (h b)) (g a)) f

  pub utf8-some : 0 < length (utf8 c)
  utf8-some = by_size (λ h. rw (utf8_1 h) (omega arith)) (λ h k. rw (utf8_2 h k) (omega arith)) (λ h k. rw (utf8_3 h k) (omega arith)) (λ h. rw (utf8_4 h) (omega arith))

  pub utf8-few : length (utf8 c) ≤ 4
  utf8-few = by_size (λ h. rw (utf8_1 h) (omega arith)) (λ h k. rw (utf8_2 h k) (omega arith)) (λ h k. rw (utf8_3 h k) (omega arith)) (λ h. rw (utf8_4 h) (omega arith))

  utf8-unit : c ≤ 0xFFFF → length (utf8 c) ≤ 3
  utf8-unit l = by_size (λ h. rw (utf8_1 h) (omega arith)) (λ h k. rw (utf8_2 h k) (omega arith)) (λ h k. rw (utf8_3 h k) (omega arith)) (λ h. absurd (omega arith))

  utf8-ascii : c ≤ 0x7F → length (utf8 c) ≤ 1
  utf8-ascii l = rw (utf8_1 (omega arith)) (omega arith)

  -- RFC 3629's table
  pub utf8_encodes : c ≤ 0x10FFFF → Encodes c (utf8 c)
  utf8_encodes l = by_size
      (λ h. rw (utf8_1 h) (one c refl (omega arith)))
      (λ h k. rw (utf8_2 h k) (two _ _ (c / 64) (c % 64) refl (omega arith) refl (omega arith) (omega arith) h))
      (λ h k. rw (utf8_3 h k) (three _ _ _ (c / 4096) (c / 64 % 64) (c % 64) refl (omega arith) refl (omega arith) refl (omega arith) (omega arith) h))
      (λ h. rw (utf8_4 h) (four _ _ _ _ (c / 262144) (c / 4096 % 64) (c / 64 % 64) (c % 64) refl (omega arith) refl (omega arith) refl (omega arith) refl (omega arith) (omega arith) h))

  -- as the program has them
  module _ where
    pub coded_1 : c < 0x80 → ◌≡◌ {A = Coded} (record { n = 1; bytes = c ∷ 0 ∷ 0 ∷ 0 ∷ [] }) (coded_of c)
    unfolding coded_of
    coded_1 h = rw (utf8_1 h)

    pub coded_2 : 0x80 ≤ c → c < 0x800 → ◌≡◌ {A = Coded} (record { n = 2; bytes = (0xC0 + c / 64) ∷ (0x80 + c % 64) ∷ 0 ∷ 0 ∷ [] }) (coded_of c)
    unfolding coded_of
    coded_2 h k = rw (utf8_2 h k)

    pub coded_3 : 0x800 ≤ c → c < 0x10000 → ◌≡◌ {A = Coded} (record { n = 3; bytes = (0xE0 + c / 4096) ∷ (0x80 + c / 64 % 64) ∷ (0x80 + c % 64) ∷ 0 ∷ [] }) (coded_of c)
    unfolding coded_of
    coded_3 h k = rw (utf8_3 h k)

    pub coded_4 : 0x10000 ≤ c → ◌≡◌ {A = Coded} (record { n = 4; bytes = (0xF0 + c / 262144) ∷ (0x80 + c / 4096 % 64) ∷ (0x80 + c / 64 % 64) ∷ (0x80 + c % 64) ∷ [] }) (coded_of c)
    unfolding coded_of
    coded_4 h = rw (utf8_4 h)

-- ---- escapes

module _ (s : List ℕ) (h : ℕ) where
  pub pair_6 : (byte s 6 ≡ 0x5C → ⊥) → None ≡ pair_after s h
  unfolding pair_after
  pair_6 n = rw (ne_eqb (byte s 6) 0x5C n, pair_after)

  module _ (e : byte s 6 ≡ 0x5C) where
    pub pair_7 : (byte s 7 ≡ 0x75 → ⊥) → None ≡ pair_after s h
    unfolding pair_after
    pair_7 n = rw (eq-eqb (byte s 6) 0x5C e, ne_eqb (byte s 7) 0x75 n, pair_after)

    module _ (f : byte s 7 ≡ 0x75) where
      pub pair-not : is_low (code_unit s 8) ≡ false → None ≡ pair_after s h
      unfolding pair_after
      pair-not n = rw (eq-eqb (byte s 6) 0x5C e, eq-eqb (byte s 7) 0x75 f, n, pair_after)

      pub pair_is : is_low (code_unit s 8) ≡ true → escaped_char (pair_of h (code_unit s 8)) 11 ≡ pair_after s h
      unfolding pair_after
      pair_is n = rw (eq-eqb (byte s 6) 0x5C e, eq-eqb (byte s 7) 0x75 f, n, pair_after)

pub high_range : (u : ℕ) → is_high u ≡ true → (0xD800 ≤ u) × (u ≤ 0xDBFF)
unfolding is_high
high_range u e = range-true 0xD800 0xDBFF u e

pub low_range : (u : ℕ) → is_low u ≡ true → (0xDC00 ≤ u) × (u ≤ 0xDFFF)
unfolding is_low
low_range u e = range-true 0xDC00 0xDFFF u e

pub high_yes : (u : ℕ) → 0xD800 ≤ u → u ≤ 0xDBFF → is_high u ≡ true
unfolding is_high
high_yes u h k = in_range_lem 0xD800 0xDBFF u h k

pub low_yes : (u : ℕ) → 0xDC00 ≤ u → u ≤ 0xDFFF → is_low u ≡ true
unfolding is_low
low_yes u h k = in_range_lem 0xDC00 0xDFFF u h k

module _ (s : List ℕ) where
  escape-short : (byte s 1 ≡ 0x75 → ⊥) → escaped_char (short_of (byte s 1)) 1 ≡ escape_of s
  unfolding escape_of
  escape-short n = rw (ne_eqb (byte s 1) 0x75 n, escape_of)

  module _ (e : byte s 1 ≡ 0x75) where
    pub escape-unit : unit_escape s (code_unit s 2) ≡ escape_of s
    unfolding escape_of
    escape-unit = rw (eq-eqb (byte s 1) 0x75 e, escape_of)

  module _ (u : ℕ) where
    pub unit-high : is_high u ≡ true → pair_after s u ≡ unit_escape s u
    unfolding unit_escape
    unit-high q = rw (q, unit_escape)

    pub unit-low : is_high u ≡ false → is_low u ≡ true → None ≡ unit_escape s u
    unfolding unit_escape
    unit-low q r = rw (q, unit_escape) (rw r)

    pub unit-char : is_high u ≡ false → is_low u ≡ false → escaped_char u 5 ≡ unit_escape s u
    unfolding unit_escape
    unit-char q r = rw (q, unit_escape) (rw r)

-- ---- what an escape of the bytes s, n after the backslash, may write: fewer bytes than it has, and no more than there are, where it is cut off
pub record Writable (s : List ℕ) (c n : ℕ) : Type 0 where
  pub scalar : Scalar c
  pub few : length (utf8 c) ≤ n
  pub fits : length (utf8 c) ≤ length s
  pub fewer : 2 ≤ length s → (byte s 1 ≡ 0x75 → 4 ≤ length s) → length (utf8 c) < length s

abbrev Good : List ℕ → Option Escaped → Type 0
Good s (Some t) = Writable s t.code t.len
Good s None = Unit {0}

module _ (s : List ℕ) where
  good-short : 0 < length s → Good s (escaped_char (short_of (byte s 1)) 1)
  good-short p =
      let h = short-small (byte s 1) in
      let l = utf8-ascii (short_of (byte s 1)) h in
      record { scalar = record { small = omega arith; plain = λ a b. omega arith }; few = omega arith; fits = omega arith; fewer = λ f g. omega arith }

  -- two bytes are \u alone, and write 0
  unit-none : length s ≤ 2 → code_unit s 2 ≡ 0
  unfolding code_unit
  unit-none h =
      let a = ap hex_digit (byte_out s 2 h) ∙ digit-above 256 (omega arith) in
      let b = ap hex_digit (byte_out s 3 (omega arith)) ∙ digit-above 256 (omega arith) in
      let c = ap hex_digit (byte_out s 4 (omega arith)) ∙ digit-above 256 (omega arith) in
      let d = ap hex_digit (byte_out s 5 (omega arith)) ∙ digit-above 256 (omega arith) in
      omega arith

  good-unit : byte s 1 ≡ 0x75 → is_high (code_unit s 2) ≡ false → is_low (code_unit s 2) ≡ false → Good s (escaped_char (code_unit s 2) 5)
  good-unit e q r =
      let p = inside= s 1 0x75 e (omega arith) in
      let m = unit-small s 2 in
      let l = utf8-unit (code_unit s 2) m in
      record {
        scalar = record {
          small = omega arith;
          plain = λ a b. split (code_unit s 2) 0xDBFF
              (λ h. false≢true (sym q ∙ high_yes (code_unit s 2) a h))
              (λ h. false≢true (sym r ∙ low_yes (code_unit s 2) h b));
        };
        few = omega arith;
        fits = split (length s) 2 (λ h. let z = utf8-ascii (code_unit s 2) (let y = unit-none h in omega arith) in omega arith) (λ h. omega arith);
        fewer = λ f g. let k = g e in omega arith;
      }

  good-pair : (u : ℕ) → is_high u ≡ true → Good s (pair_after s u)
  unfolding pair_of
  good-pair u q = both (eqb (byte s 6) 0x5C)
      (λ e. both (eqb (byte s 7) 0x75)
      (λ f. both (is_low (code_unit s 8))
      (λ r. subst (Good s) (pair_is s u (eqb-true _ _ e) (eqb-true _ _ f) r) (char (eqb-true _ _ f) (high_range u q) (low_range (code_unit s 8) r)))
      (λ r. subst (Good s) (pair-not s u (eqb-true _ _ e) (eqb-true _ _ f) r) tt))
      (λ f. subst (Good s) (pair_7 s u (eqb-true _ _ e) (λ x. false≢true (sym f ∙ eq-eqb _ _ x))) tt))
      (λ e. subst (Good s) (pair_6 s u (λ x. false≢true (sym e ∙ eq-eqb _ _ x))) tt)
    where
      char : byte s 7 ≡ 0x75 → (0xD800 ≤ u) × (u ≤ 0xDBFF) → (0xDC00 ≤ code_unit s 8) × (code_unit s 8 ≤ 0xDFFF) → Writable s (pair_of u (code_unit s 8)) 11
      char f a b =
          let p = inside= s 7 0x75 f (omega arith) in
          let l = utf8-few (pair_of u (code_unit s 8)) in
          record { scalar = record { small = omega arith; plain = λ x y. omega arith }; few = omega arith; fits = omega arith; fewer = λ f g. omega arith }

  escape-good : 0 < length s → Good s (escape_of s)
  escape-good p = both (eqb (byte s 1) 0x75)
      (λ e. subst (Good s) (escape-unit s (eqb-true _ _ e)) (
      both (is_high (code_unit s 2)) (λ q. subst (Good s) (unit-high s (code_unit s 2) q) (good-pair (code_unit s 2) q)) λ q.
      both (is_low (code_unit s 2)) (λ r. subst (Good s) (unit-low s (code_unit s 2) q r) tt) λ r.
      subst (Good s) (unit-char s (code_unit s 2) q r) (good-unit (eqb-true _ _ e) q r)))
      (λ e. subst (Good s) (escape-short s (λ x. false≢true (sym e ∙ eq-eqb _ _ x))) (good-short p))

  pub char-good : {r : Option Escaped} {c n : ℕ} → 0 < length s → r ≡ escape_of s → r ≡ escaped_char c n → Writable s c n
  char-good p e q = subst (Good s) (sym e ∙ q) (escape-good p)

-- ---- as the program makes them

pub digit_is : {r : ℕ} (b : ℕ) → r ≡ hex_digit b → r ≤ 15
digit_is b e = let h = digit-small b in omega arith

pub unit_is : (s : List ℕ) (i : ℕ) {a b c d pa pb pc pd : ℕ} → a ≡ hex_digit pa → pa ≡ byte s i → b ≡ hex_digit pb → pb ≡ byte s (i + 1) → c ≡ hex_digit pc → pc ≡ byte s (i + 2) → d ≡ hex_digit pd → pd ≡ byte s (i + 3) → 4096 * a + (256 * b + (16 * c + d)) ≡ code_unit s i
unfolding code_unit
unit_is s i a ea b eb c ec d ed =
    let x = a ∙ ap hex_digit ea in
    let y = b ∙ ap hex_digit eb in
    let z = c ∙ ap hex_digit ec in
    let w = d ∙ ap hex_digit ed in
    omega arith

pub pair_made : (s : List ℕ) (h : ℕ) {l : ℕ} → byte s 6 ≡ 0x5C → byte s 7 ≡ 0x75 → l ≡ code_unit s 8 → is_low l ≡ true → escaped_char (0x10000 + (1024 * (h - 0xD800) + (l - 0xDC00))) 11 ≡ pair_after s h
unfolding pair_of
pair_made s h e f x q = ap (λ (u : ℕ). escaped_char (pair_of h u) 11) x ∙ pair_is s h e f (ap is_low (sym x) ∙ q)

module _ (s : List ℕ) {b : ℕ} (p : b ≡ byte s 1) where
  pub short-made : {c : ℕ} → (b ≡ 117 → ⊥) → c ≡ short_of b → escaped_char c 1 ≡ escape_of s
  short-made n e = ap (λ (x : ℕ). escaped_char x 1) (e ∙ ap short_of p) ∙ escape-short s (λ q. n (p ∙ q))

  module _ (t : b ≡ 117) {u : ℕ} (x : u ≡ code_unit s 2) where
    made : {r : Option Escaped} → r ≡ unit_escape s u → r ≡ escape_of s
    made q = q ∙ ap (unit_escape s) x ∙ escape-unit s (sym p ∙ t)

    pub high-made : {r : Option Escaped} → is_high u ≡ true → r ≡ pair_after s u → r ≡ escape_of s
    high-made q y = made (y ∙ unit-high s u q)

    pub low-made : is_high u ≡ false → is_low u ≡ true → None ≡ escape_of s
    low-made q r = made (unit-low s u q r)

    pub char_made : is_high u ≡ false → is_low u ≡ false → escaped_char u 5 ≡ escape_of s
    char_made q r = made (unit-char s u q r)
