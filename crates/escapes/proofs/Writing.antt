-- Whatever way a character is written, it is decoded.
use Prim.Native.Nat.{ℕ, suc, ◌+◌, ◌*◌, ◌/◌, ◌%◌, ◌≤◌, ◌<◌}
use native.Mathlib.Omega.{arith}
use mathlib.Core.Path.{◌≡◌, refl, sym, ap, ◌∙◌}
use mathlib.Core.List.{List, [], ◌∷◌, ◌++◌, append_assoc, append-nil}
use mathlib.Core.Bool.{true, false, false≢true}
use lib.ListN.{length}
use lib.Dec.{eqb}
use borrow.Author.Tests.{eqb-false, ne_eqb}
use Rattle.text.specs.Scalars.{Scalar, Encodes, one, two, three, four}
use Rattle.text.proofs.Bytes.{both}
use Rattle.json_text.specs.Bytes.{byte}
use Rattle.json_text.specs.Strings.{is_plain}
use Rattle.escapes.specs.Escapes.{hex_digit, code_unit, is_high, is_low, pair_of, short_of, unit_escape, escape_of, utf8, escaped_char}
use Rattle.escapes.specs.Decode.{Decoded, whole, half, join, decode_after, decode}
use Rattle.escapes.specs.Writes.{Hex, decimal, upper, lower, Hex4, digits, Short, quotation-mark, reverse-solidus, solidus, backspace, form_feed, line_feed, carriage_return, tab, Writes, unescaped, short, unit, pair, WritesAll, none, more, in_utf8}
use Rattle.escapes.proofs.Escapes.{digit_09, digit_upper_af, digit_lower_af, utf8_1, utf8_2, utf8_3, utf8_4, high_range, low_range, high_yes, low_yes, escape-unit, unit-high, unit-char, pair_is}
use Rattle.escapes.proofs.Walk.{decode-plain, decode-char}

-- ---- what n bytes write in front of the rest

unfoldable pub lead : ℕ → List ℕ → Decoded → Decoded
lead n x (whole u) = whole (x ++ u)
lead n x (half p) = half (n + p)

join-lead : (w : List ℕ) (n : ℕ) (x : List ℕ) (d : Decoded) → join w (lead n x d) ≡ lead (suc n) (w ++ x) d
unfolding join lead
join-lead w n x (whole u) = ap whole (sym (append_assoc w x u))
join-lead w n x (half p) = let e : suc (n + p) ≡ suc n + p = omega arith in ap half e

lead-none : (d : Decoded) → d ≡ lead 0 [] d
unfolding lead
lead-none (whole u) = refl
lead-none (half p) = let e : p ≡ 0 + p = omega arith in ap half e

-- bytes that stand for themselves
pass : (w t : List ℕ) → is_plain w ≡ true → decode (w ++ t) ≡ lead (length w) w (decode t)
unfolding is_plain
pass [] t e = lead-none (decode t)
pass (b ∷ w) t e = both (eqb b 0x5C)
    (λ n. absurd (false≢true (rw (n, is_plain) at e)))
    (λ n. decode-plain b (w ++ t) (eqb-false _ _ n) ∙ ap (join (b ∷ [])) (pass w t (rw (n, is_plain) at e)) ∙ join-lead (b ∷ []) (length w) w (decode t))

plain-one : (b : ℕ) (w : List ℕ) → (b ≡ 0x5C → ⊥) → is_plain w ≡ true → is_plain (b ∷ w) ≡ true
unfolding is_plain
plain-one b w n e = rw (ne_eqb b 0x5C n, is_plain) e

plain-none : is_plain [] ≡ true
unfolding is_plain
plain-none = refl

module _ (c : ℕ) where
  encoding-plain : {w : List ℕ} → Encodes c w → (c ≡ 0x5C → ⊥) → is_plain w ≡ true
  encoding-plain (one a e h) n = plain-one a [] (λ q. n (sym e ∙ q)) plain-none
  encoding-plain (two a b x y ea xa eb yb ec h) n = plain-one a _ (λ q. omega arith) (plain-one b _ (λ q. omega arith) plain-none)
  encoding-plain (three a b d x y z ea xa eb yb ed zd ec h) n = plain-one a _ (λ q. omega arith) (plain-one b _ (λ q. omega arith) (plain-one d _ (λ q. omega arith) plain-none))
  encoding-plain (four a b d e x y z v ea xa eb yb ed zd ee we ec h) n = plain-one a _ (λ q. omega arith) (plain-one b _ (λ q. omega arith) (plain-one d _ (λ q. omega arith) (plain-one e _ (λ q. omega arith) plain-none)))

  -- a character has one encoding
  pub encoding-one : {w : List ℕ} → Encodes c w → w ≡ utf8 c
  encoding-one (one a e h) = ap (λ (k : ℕ). k ∷ []) e ∙ sym (utf8_1 c (omega arith))
  encoding-one (two a b x y ea xa eb yb ec h) =
      let p : a ≡ 0xC0 + c / 64 = omega arith in
      let q : b ≡ 0x80 + c % 64 = omega arith in
      rw (p, q) (sym (utf8_2 c h (omega arith)))
  encoding-one (three a b d x y z ea xa eb yb ed zd ec h) =
      let p : a ≡ 0xE0 + c / 4096 = omega arith in
      let q : b ≡ 0x80 + c / 64 % 64 = omega arith in
      let r : d ≡ 0x80 + c % 64 = omega arith in
      rw (p, q, r) (sym (utf8_3 c h (omega arith)))
  encoding-one (four a b d e x y z v ea xa eb yb ed zd ee we ec h) =
      let p : a ≡ 0xF0 + c / 262144 = omega arith in
      let q : b ≡ 0x80 + c / 4096 % 64 = omega arith in
      let r : d ≡ 0x80 + c / 64 % 64 = omega arith in
      let t : e ≡ 0x80 + c % 64 = omega arith in
      rw (p, q, r, t) (sym (utf8_4 c h))

-- ---- escapes

passed : (p t : List ℕ) → decode_after (length p) (p ++ t) ≡ lead (length p) [] (decode t)
unfolding decode_after
passed [] t = lead-none (decode t)
passed (b ∷ p) t = ap (join []) (passed p t) ∙ join-lead [] (length p) [] (decode t)

escaped : (p t : List ℕ) {c : ℕ} → escape_of (0x5C ∷ (p ++ t)) ≡ escaped_char c (length p) → decode (0x5C ∷ (p ++ t)) ≡ lead (suc (length p)) (utf8 c) (decode t)
escaped p t {c} e =
    decode-char 0x5C (p ++ t) refl e
    ∙ ap (join (utf8 c)) (passed p t)
    ∙ join-lead (utf8 c) (length p) [] (decode t)
    ∙ ap (λ (x : List ℕ). lead (suc (length p)) x (decode t)) (append-nil (utf8 c))

short_escape : {b c : ℕ} (t : List ℕ) → Short b c → escape_of (0x5C ∷ b ∷ t) ≡ escaped_char c 1
unfolding escape_of byte short_of
short_escape t quotation-mark = refl
short_escape t reverse-solidus = refl
short_escape t solidus = refl
short_escape t backspace = refl
short_escape t form_feed = refl
short_escape t line_feed = refl
short_escape t carriage_return = refl
short_escape t tab = refl

hex-digit : {b v : ℕ} → Hex b v → hex_digit b ≡ v
hex-digit {b} {v} (decimal e h) = digit_09 b (omega arith) (omega arith) ∙ omega arith
hex-digit {b} {v} (upper e h k) = digit_upper_af b (omega arith) (omega arith) ∙ omega arith
hex-digit {b} {v} (lower e h k) = digit_lower_af b (omega arith) (omega arith) ∙ omega arith

module _ {a b c d x y z w u : ℕ} (i : Hex a x) (j : Hex b y) (k : Hex c z) (l : Hex d w) (e : 4096 * x + (256 * y + (16 * z + w)) ≡ u) where
  pub unit_2 : (t : List ℕ) → code_unit (0x5C ∷ 0x75 ∷ a ∷ b ∷ c ∷ d ∷ t) 2 ≡ u
  unfolding code_unit byte
  unit_2 t = let p = hex-digit i in let q = hex-digit j in let r = hex-digit k in let s = hex-digit l in omega arith

  pub unit_8 : (a1 a2 a3 a4 : ℕ) (t : List ℕ) → code_unit (0x5C ∷ 0x75 ∷ a1 ∷ a2 ∷ a3 ∷ a4 ∷ 0x5C ∷ 0x75 ∷ a ∷ b ∷ c ∷ d ∷ t) 8 ≡ u
  unfolding code_unit byte
  unit_8 a1 a2 a3 a4 t = let p = hex-digit i in let q = hex-digit j in let r = hex-digit k in let s = hex-digit l in omega arith

high_no : (u : ℕ) → (0xD800 ≤ u → u ≤ 0xDFFF → ⊥) → is_high u ≡ false
high_no u f = both (is_high u) (λ e. let h = high_range u e in absurd (f (omega arith) (omega arith))) (λ e. e)

low_no : (u : ℕ) → (0xD800 ≤ u → u ≤ 0xDFFF → ⊥) → is_low u ≡ false
low_no u f = both (is_low u) (λ e. let h = low_range u e in absurd (f (omega arith) (omega arith))) (λ e. e)

second : (s : List ℕ) → byte (0x5C ∷ 0x75 ∷ s) 1 ≡ 0x75
unfolding byte
second s = refl

unit-escape : {c : ℕ} {d : List ℕ} (t : List ℕ) → Hex4 c d → Scalar c → escape_of (0x5C ∷ 0x75 ∷ (d ++ t)) ≡ escaped_char c 5
unit-escape {c} t (digits p q r s x y z w i j k l e) n =
    sym (unit-char _ c (high_no c n.plain) (low_no c n.plain) ∙ ap (unit_escape _) (sym (unit_2 i j k l e t)) ∙ escape-unit _ (second _))

sixth : (a b c d : ℕ) (s : List ℕ) → byte (0x5C ∷ 0x75 ∷ a ∷ b ∷ c ∷ d ∷ 0x5C ∷ 0x75 ∷ s) 6 ≡ 0x5C
unfolding byte
sixth a b c d s = refl

seventh : (a b c d : ℕ) (s : List ℕ) → byte (0x5C ∷ 0x75 ∷ a ∷ b ∷ c ∷ d ∷ 0x5C ∷ 0x75 ∷ s) 7 ≡ 0x75
unfolding byte
seventh a b c d s = refl

pair-escape : {d e : List ℕ} (h l : ℕ) (t : List ℕ) → h < 1024 → l < 1024 → Hex4 (0xD800 + h) d → Hex4 (0xDC00 + l) e → escape_of (0x5C ∷ 0x75 ∷ (d ++ (0x5C ∷ 0x75 ∷ (e ++ t)))) ≡ escaped_char (0x10000 + (1024 * h + l)) 11
unfolding pair_of
pair-escape h l t hh hl (digits a1 a2 a3 a4 x y z w i j k m e) (digits b1 b2 b3 b4 x2 y2 z2 w2 i2 j2 k2 m2 e2) =
    let s : List ℕ = 0x5C ∷ 0x75 ∷ a1 ∷ a2 ∷ a3 ∷ a4 ∷ 0x5C ∷ 0x75 ∷ b1 ∷ b2 ∷ b3 ∷ b4 ∷ t in
    let u8 : code_unit s 8 ≡ 0xDC00 + l = unit_8 i2 j2 k2 m2 e2 a1 a2 a3 a4 t in
    let u2 : code_unit s 2 ≡ 0xD800 + h = unit_2 i j k m e (0x5C ∷ 0x75 ∷ b1 ∷ b2 ∷ b3 ∷ b4 ∷ t) in
    let v : pair_of (0xD800 + h) (code_unit s 8) ≡ 0x10000 + (1024 * h + l) = omega arith in
    sym (
    ap (λ (c : ℕ). escaped_char c 11) (sym v)
    ∙ pair_is s (0xD800 + h) (sixth a1 a2 a3 a4 _) (seventh a1 a2 a3 a4 _) (ap is_low u8 ∙ low_yes (0xDC00 + l) (omega arith) (omega arith))
    ∙ unit-high s (0xD800 + h) (high_yes (0xD800 + h) (omega arith) (omega arith))
    ∙ ap (unit_escape s) (sym u2)
    ∙ escape-unit s (second _))

-- ---- any way

hex-four : {u : ℕ} {d : List ℕ} → Hex4 u d → length d ≡ 4
hex-four (digits a b c d x y z w i j k l e) = refl

pair-way : {c : ℕ} {d e : List ℕ} (t : List ℕ) (h l : ℕ) → h < 1024 → l < 1024 → Hex4 (0xD800 + h) d → Hex4 (0xDC00 + l) e → 0x10000 + (1024 * h + l) ≡ c → decode ((0x5C ∷ 0x75 ∷ (d ++ (0x5C ∷ 0x75 ∷ e))) ++ t) ≡ lead (length (0x5C ∷ 0x75 ∷ (d ++ (0x5C ∷ 0x75 ∷ e)))) (utf8 c) (decode t)
pair-way {c} t h l hh hl (digits a1 a2 a3 a4 x y z w i j k m e) (digits b1 b2 b3 b4 x2 y2 z2 w2 i2 j2 k2 m2 e2) q =
    escaped (0x75 ∷ a1 ∷ a2 ∷ a3 ∷ a4 ∷ 0x5C ∷ 0x75 ∷ b1 ∷ b2 ∷ b3 ∷ b4 ∷ []) t (pair-escape h l t hh hl (digits a1 a2 a3 a4 x y z w i j k m e) (digits b1 b2 b3 b4 x2 y2 z2 w2 i2 j2 k2 m2 e2) ∙ ap (λ (n : ℕ). escaped_char n 11) q)

pub one_way : {c : ℕ} {w : List ℕ} (t : List ℕ) → Scalar c → Writes c w → decode (w ++ t) ≡ lead (length w) (utf8 c) (decode t)
one_way {c} {w} t n (unescaped e h p q) = pass w t (encoding-plain c e q) ∙ ap (λ (x : List ℕ). lead (length w) x (decode t)) (encoding-one c e)
one_way t n (short {b} s) = escaped (b ∷ []) t (short_escape t s)
one_way {c} t n (unit {d} h) = escaped (0x75 ∷ d) t (unit-escape t h n ∙ ap (escaped_char c) (sym (ap suc (hex-four h))))
one_way t n (pair h l hh hl f g q) = pair-way t h l hh hl f g q

pub every_way : {cs w : List ℕ} → WritesAll cs w → decode w ≡ whole (in_utf8 cs)
unfolding decode_after in_utf8 lead
every_way none = refl
every_way (more {c = c} {w = w} {t = t} n a r) = one_way t n a ∙ ap (lead (length w) (utf8 c)) (every_way r)
