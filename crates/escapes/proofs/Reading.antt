-- A string of a JSON text in UTF-8 writes characters, each in one of the ways, or has half a pair.
use Rattle.std.specs.Prelude.{Option, None}
use Prim.Native.Nat.{ℕ, zero, suc, ◌+◌, ◌*◌, ◌-◌, ◌≤◌, ◌<◌}
use native.Mathlib.Omega.{arith}
use mathlib.Core.Path.{◌≡◌, refl, sym, ap, ◌∙◌, subst}
use mathlib.Core.List.{List, [], ◌∷◌, ◌++◌}
use mathlib.Core.Bool.{true, false, false≢true}
use lib.ListN.{length, length-append}
use lib.Dec.{eqb}
use borrow.Author.Tests.{eqb-true, eqb-false}
use Rattle.abnf.specs.Abnf as Abnf
use Rattle.abnf.specs.Abnf.{◌∈◌}
use Rattle.abnf.specs.Accepts.{in_range}
use Rattle.abnf.proofs.Steps.{range-true}
use Rattle.text.specs.Scalars.{Scalar, Encodes, Encoding, one, two, three, four}
use Rattle.text.specs.Utf8.{UTF8-octets}
use Rattle.text.specs.Utf8Place.{ready, next, later}
use Rattle.text.specs.Parts.{utf8_from}
use Rattle.text.proofs.Bytes.{both, or_cases}
use Rattle.text.proofs.Steps.{first_1}
use Rattle.text.proofs.Utf8.{utf8_contract}
use Rattle.text.proofs.Scalars.{char_is}
use Rattle.json_text.specs.Bytes.{byte}
use Rattle.json_text.proofs.Bytes.{split}
use Rattle.json_text.specs.Strings.{is_hex, is_escape, plain_step, escape_step, hex_step, text_step}
use Rattle.json_text.specs.declared.string.State.{State}
use Rattle.json_text.specs.declared.string.State.TheVariants as J
use Rattle.json_text.specs.declared.string.Move.TheVariants.{Go, Shut, Stuck}
use Rattle.json_text.proofs.Strings.{plain-plain, plain_stuck, escape-plain, escape_stuck, hex_go, hex_stuck}
use Rattle.escapes.specs.declared.Escaped.{Escaped}
use Rattle.escapes.specs.Escapes.{hex_digit, code_unit, is_high, is_low, escape_of, utf8, unit_escape, pair_after}
use Rattle.escapes.specs.Decode.{half, decode}
use Rattle.escapes.specs.Writes.{Hex, decimal, upper, lower, Hex4, digits, Short, quotation-mark, reverse-solidus, solidus, backspace, form_feed, line_feed, carriage_return, tab, Writes, unescaped, short, unit, pair, WritesAll, none, more}
use Rattle.escapes.proofs.Escapes.{digit_09, digit_upper_af, digit_lower_af, unit-small, pair_6, pair_7, pair-not, high_range, low_range, high_yes, low_yes, escape-unit, unit-high, unit-low}
use Rattle.escapes.proofs.Walk.{decode-half}
use Rattle.escapes.proofs.Writing.{lead, one_way, unit_8, unit_2}

-- ---- the states of json's reader over bytes that it takes, the quote not among them

unfoldable pub Runs : State → List ℕ → Type 0
Runs t [] = t ≡ J.Plain
Runs t (b ∷ r) = (u : State) × (text_step t b ≡ Go u) × Runs u r

shut_no {ℓ} : {X : Type ℓ} {u : State} → Shut ≡ Go u → X
shut_no e = absurd (let z : ◌≡◌ {A = ℕ} 0 1 = cc in omega arith)

stuck_no {ℓ} : {X : Type ℓ} {u : State} → Stuck ≡ Go u → X
stuck_no e = absurd (let z : ◌≡◌ {A = ℕ} 0 1 = cc in omega arith)

go_same : {u v : State} → Go u ≡ Go v → u ≡ v
go_same e = cc

module _ (b : ℕ) {u : State} where
  plain_go : (b ≡ 0x5C → ⊥) → text_step J.Plain b ≡ Go u → (J.Plain ≡ u) × (0x20 ≤ b) × (b ≡ 0x22 → ⊥)
  unfolding text_step plain_step
  plain_go n e = both (eqb b 34)
      (λ q. shut_no (sym (ap plain_step (eqb-true b 34 q)) ∙ e))
      (λ q. both (in_range 32 255 b)
      (λ p. (go_same (plain-plain b (eqb-false b 34 q) n p ∙ e), (range-true 32 255 b p).0, eqb-false b 34 q))
      (λ p. stuck_no (plain_stuck b (eqb-false b 34 q) n p ∙ e)))

  pub escape_go {ℓ} : {X : Type ℓ} → text_step J.Escape b ≡ Go u → (b ≡ 0x75 → J.Hex4 ≡ u → X) → ((b ≡ 0x75 → ⊥) → is_escape b ≡ true → J.Plain ≡ u → X) → X
  unfolding text_step escape_step
  escape_go e f g = both (eqb b 117)
      (λ q. f (eqb-true b 117 q) (go_same (sym (ap escape_step (eqb-true b 117 q)) ∙ e)))
      (λ q. both (is_escape b)
      (λ p. g (eqb-false b 117 q) p (go_same (escape-plain b (eqb-false b 117 q) p ∙ e)))
      (λ p. stuck_no (escape_stuck b (eqb-false b 117 q) p ∙ e)))

  pub digit_go : (t : State) → hex_step t b ≡ Go u → (t ≡ u) × (is_hex b ≡ true)
  digit_go t e = both (is_hex b)
      (λ p. (go_same (hex_go t b p ∙ e), p))
      (λ p. stuck_no (hex_stuck t b p ∙ e))

-- a byte that stands for itself leaves the state
pub pass-byte : (b : ℕ) → (b ≡ 0x5C → ⊥) → (r : List ℕ) → Runs J.Plain (b ∷ r) → (0x20 ≤ b) × (b ≡ 0x22 → ⊥) × Runs J.Plain r
unfolding Runs
pass-byte b n r (u, e, w) = let h = plain_go b n e in (h.1, h.2, subst (λ (x : State). Runs x r) (sym h.0) w)

over : (b : ℕ) → (b ≡ 0x5C → ⊥) → (r : List ℕ) → Runs J.Plain (b ∷ r) → Runs J.Plain r
over b n r w = (pass-byte b n r w).2

pub backslash_go : (b : ℕ) {u : State} → b ≡ 0x5C → text_step J.Plain b ≡ Go u → J.Escape ≡ u
unfolding text_step plain_step
backslash_go b q e = go_same (sym (ap plain_step q) ∙ e)

is_hex_lem : (b : ℕ) → is_hex b ≡ true → Hex b (hex_digit b)
unfolding is_hex
is_hex_lem b e = or_cases (in_range 48 57 b) _ e
    (λ p. let r = range-true 48 57 b p in let d = digit_09 b r.0 r.1 in decimal (omega arith) (omega arith))
    (λ f. or_cases (in_range 65 70 b) _ f
    (λ p. let r = range-true 65 70 b p in let d = digit_upper_af b r.0 r.1 in upper (omega arith) (omega arith) (omega arith))
    (λ p. let r = range-true 97 102 b p in let d = digit_lower_af b r.0 r.1 in lower (omega arith) (omega arith) (omega arith)))

hex-ascii : {b v : ℕ} → Hex b v → b ≤ 0x7F
hex-ascii (decimal e h) = omega arith
hex-ascii (upper e h k) = omega arith
hex-ascii (lower e h k) = omega arith

is-short : (b : ℕ) → is_escape b ≡ true → (c : ℕ) × Short b c
unfolding is_escape
is-short b e =
    or_cases (eqb b 34) _ e (λ p. (0x22, at 34 p quotation-mark)) λ e1.
    or_cases (eqb b 47) _ e1 (λ p. (0x2F, at 47 p solidus)) λ e2.
    or_cases (eqb b 92) _ e2 (λ p. (0x5C, at 92 p reverse-solidus)) λ e3.
    or_cases (eqb b 98) _ e3 (λ p. (0x08, at 98 p backspace)) λ e4.
    or_cases (eqb b 102) _ e4 (λ p. (0x0C, at 102 p form_feed)) λ e5.
    or_cases (eqb b 110) _ e5 (λ p. (0x0A, at 110 p line_feed)) λ e6.
    or_cases (eqb b 114) _ e6 (λ p. (0x0D, at 114 p carriage_return)) λ e7.
    (0x09, at 116 e7 tab)
  where
    at : (k : ℕ) {c : ℕ} → eqb b k ≡ true → Short k c → Short b c
    at k {c} p s = subst (λ (x : ℕ). Short x c) (sym (eqb-true b k p)) s

short-ascii : {b c : ℕ} → Short b c → (b ≤ 0x7F) × Scalar c
short-ascii quotation-mark = (omega arith, record { small = omega arith; plain = λ p q. omega arith })
short-ascii reverse-solidus = (omega arith, record { small = omega arith; plain = λ p q. omega arith })
short-ascii solidus = (omega arith, record { small = omega arith; plain = λ p q. omega arith })
short-ascii backspace = (omega arith, record { small = omega arith; plain = λ p q. omega arith })
short-ascii form_feed = (omega arith, record { small = omega arith; plain = λ p q. omega arith })
short-ascii line_feed = (omega arith, record { small = omega arith; plain = λ p q. omega arith })
short-ascii carriage_return = (omega arith, record { small = omega arith; plain = λ p q. omega arith })
short-ascii tab = (omega arith, record { small = omega arith; plain = λ p q. omega arith })

-- ---- bytes in UTF-8

abbrev pub Utf8 : List ℕ → Type 0
Utf8 r = utf8_from ready r ≡ true

ascii-tail : (b : ℕ) (r : List ℕ) → b ≤ 0x7F → Utf8 (b ∷ r) → Utf8 r
unfolding utf8_from next later
ascii-tail b r h e = rw (first_1 b h) at e

-- ---- what is read

pub data Reads (r : List ℕ) : Type 0 where
  chars : (cs : List ℕ) → WritesAll cs r → Reads r
  broken : (p : ℕ) → decode r ≡ half p → Reads r

prepend : {c : ℕ} {w : List ℕ} (t : List ℕ) → Scalar c → Writes c w → Reads t → Reads (w ++ t)
unfolding lead
prepend {c} t n a (chars cs r) = chars (c ∷ cs) (more n a r)
prepend {c} {w} t n a (broken p e) = broken (length w + p) (one_way t n a ∙ ap (lead (length w) (utf8 c)) e)

half-here : (s : List ℕ) → escape_of (0x5C ∷ s) ≡ None → Reads (0x5C ∷ s)
half-here s e = broken 0 (decode-half 0x5C s refl e)

-- four digits and what follows them
data Four : List ℕ → Type 0 where
  after : {a b c d : ℕ} {z : List ℕ} → Hex a (hex_digit a) → Hex b (hex_digit b) → Hex c (hex_digit c) → Hex d (hex_digit d) → Runs J.Plain z → Utf8 z → Four (a ∷ b ∷ c ∷ d ∷ z)

pub runs_as : {t u : State} (r : List ℕ) → u ≡ t → Runs t r → Runs u r
runs_as r e w = subst (λ (x : State). Runs x r) (sym e) w

-- the last k digits of four are due
one_of_lem : (d : ℕ) (r : List ℕ) {X : Type 0} → Runs J.Hex1 (d ∷ r) → Utf8 (d ∷ r) → (Hex d (hex_digit d) → Runs J.Plain r → Utf8 r → X) → X
unfolding Runs text_step
one_of_lem d r (u, e, w) g f = let h = digit_go d J.Plain e in let x = is_hex_lem d h.1 in f x (runs_as r h.0 w) (ascii-tail d r (hex-ascii x) g)

two_of : (d : ℕ) (r : List ℕ) {X : Type 0} → Runs J.Hex2 (d ∷ r) → Utf8 (d ∷ r) → (Hex d (hex_digit d) → Runs J.Hex1 r → Utf8 r → X) → X
unfolding Runs text_step
two_of d r (u, e, w) g f = let h = digit_go d J.Hex1 e in let x = is_hex_lem d h.1 in f x (runs_as r h.0 w) (ascii-tail d r (hex-ascii x) g)

three_of : (d : ℕ) (r : List ℕ) {X : Type 0} → Runs J.Hex3 (d ∷ r) → Utf8 (d ∷ r) → (Hex d (hex_digit d) → Runs J.Hex2 r → Utf8 r → X) → X
unfolding Runs text_step
three_of d r (u, e, w) g f = let h = digit_go d J.Hex2 e in let x = is_hex_lem d h.1 in f x (runs_as r h.0 w) (ascii-tail d r (hex-ascii x) g)

all_of : (d : ℕ) (r : List ℕ) {X : Type 0} → Runs J.Hex4 (d ∷ r) → Utf8 (d ∷ r) → (Hex d (hex_digit d) → Runs J.Hex3 r → Utf8 r → X) → X
unfolding Runs text_step
all_of d r (u, e, w) g f = let h = digit_go d J.Hex3 e in let x = is_hex_lem d h.1 in f x (runs_as r h.0 w) (ascii-tail d r (hex-ascii x) g)

four_of : (y : List ℕ) → Runs J.Hex4 y → Utf8 y → Four y
unfolding Runs
four_of [] w g = absurd (let z : ◌≡◌ {A = ℕ} 0 1 = cc in omega arith)
four_of (a ∷ []) w g = all_of a [] w g λ x v h. absurd (let z : ◌≡◌ {A = ℕ} 0 1 = cc in omega arith)
four_of (a ∷ b ∷ []) w g = all_of a (b ∷ []) w g λ x v h. three_of b [] v h λ y v2 h2. absurd (let z : ◌≡◌ {A = ℕ} 0 1 = cc in omega arith)
four_of (a ∷ b ∷ c ∷ []) w g = all_of a (b ∷ c ∷ []) w g λ x v h. three_of b (c ∷ []) v h λ y v2 h2. two_of c [] v2 h2 λ z v3 h3. absurd (let z : ◌≡◌ {A = ℕ} 0 1 = cc in omega arith)
four_of (a ∷ b ∷ c ∷ d ∷ r) w g = all_of a (b ∷ c ∷ d ∷ r) w g λ x v h. three_of b (c ∷ d ∷ r) v h λ y v2 h2. two_of c (d ∷ r) v2 h2 λ z v3 h3. one_of_lem d r v3 h3 λ k v4 h4. after x y z k v4 h4

-- ---- an escape

module _ (f : ℕ) (ih : (t : List ℕ) → length t < f → Runs J.Plain t → Utf8 t → Reads t) where
  value : ℕ → ℕ → ℕ → ℕ → ℕ
  value a b c d = 4096 * hex_digit a + (256 * hex_digit b + (16 * hex_digit c + hex_digit d))

  second_u : (s : List ℕ) → byte (0x5C ∷ 0x75 ∷ s) 1 ≡ 0x75
  unfolding byte
  second_u s = refl

  module _ (a b c d : ℕ) (x : Hex a (hex_digit a)) (y : Hex b (hex_digit b)) (z : Hex c (hex_digit c)) (k : Hex d (hex_digit d)) where
    four-digits : Hex4 (value a b c d) (a ∷ b ∷ c ∷ d ∷ [])
    unfolding value
    four-digits = digits a b c d (hex_digit a) (hex_digit b) (hex_digit c) (hex_digit d) x y z k refl

    module _ (r : List ℕ) where
      here : List ℕ
      here = 0x5C ∷ 0x75 ∷ a ∷ b ∷ c ∷ d ∷ r

      its-unit : code_unit here 2 ≡ value a b c d
      unfolding value here
      its-unit = unit_2 x y z k refl r

      as-unit : {q : Option Escaped} → q ≡ unit_escape here (value a b c d) → escape_of here ≡ q
      unfolding here
      as-unit e = sym (e ∙ ap (unit_escape here) (sym its-unit) ∙ escape-unit here (second_u (a ∷ b ∷ c ∷ d ∷ r)))

      as-low : is_high (value a b c d) ≡ false → is_low (value a b c d) ≡ true → Reads here
      unfolding here
      as-low p q = half-here (0x75 ∷ a ∷ b ∷ c ∷ d ∷ r) (as-unit (unit-low here (value a b c d) p q))

      as-broken : is_high (value a b c d) ≡ true → None ≡ pair_after here (value a b c d) → Reads here
      unfolding here
      as-broken p q = half-here (0x75 ∷ a ∷ b ∷ c ∷ d ∷ r) (as-unit (q ∙ unit-high here (value a b c d) p))

      as-char : is_high (value a b c d) ≡ false → is_low (value a b c d) ≡ false → Reads r → Reads here
      unfolding here
      as-char p q w = prepend r (record { small = let m = unit-small here 2 in let e = its-unit in omega arith; plain = λ g h. split (value a b c d) 0xDBFF (λ k. false≢true (sym p ∙ high_yes _ g k)) (λ k. false≢true (sym q ∙ low_yes _ k h)) }) (unit four-digits) w

  -- two units, of which the first is high
  module _ (a b c d : ℕ) (x : Hex a (hex_digit a)) (y : Hex b (hex_digit b)) (z : Hex c (hex_digit c)) (k : Hex d (hex_digit d)) (p : is_high (value a b c d) ≡ true) where
    pair_of : (v w : ℕ) {e g : List ℕ} (r : List ℕ) → (0xD800 ≤ v) × (v ≤ 0xDBFF) → (0xDC00 ≤ w) × (w ≤ 0xDFFF) → Hex4 v e → Hex4 w g → Reads r → Reads ((0x5C ∷ 0x75 ∷ (e ++ (0x5C ∷ 0x75 ∷ g))) ++ r)
    pair_of v w {e} {g} r hv hw m n q =
        let ev : v ≡ 0xD800 + (v - 0xD800) = omega arith in
        let ew : w ≡ 0xDC00 + (w - 0xDC00) = omega arith in
        prepend r (record { small = omega arith; plain = λ i j. omega arith })
        (pair (v - 0xD800) (w - 0xDC00) (omega arith) (omega arith) (subst (λ (u : ℕ). Hex4 u e) ev m) (subst (λ (u : ℕ). Hex4 u g) ew n) refl)
        q

    units : {r : List ℕ} → Four r → length r < f → Reads (0x5C ∷ 0x75 ∷ a ∷ b ∷ c ∷ d ∷ 0x5C ∷ 0x75 ∷ r)
    unfolding here value byte
    units (after {a = a2} {b = b2} {c = c2} {d = d2} {z = r} x2 y2 z2 k2 w g) l = both (is_low (value a2 b2 c2 d2))
        (λ q. pair_of (value a b c d) (value a2 b2 c2 d2) r (high_range _ p) (low_range _ q) (four-digits a b c d x y z k) (four-digits a2 b2 c2 d2 x2 y2 z2 k2) (ih r (omega arith) w g))
        (λ q.
        let s : List ℕ = 0x5C ∷ 0x75 ∷ a2 ∷ b2 ∷ c2 ∷ d2 ∷ r in
        as-broken a b c d x y z k s p (pair-not (here a b c d x y z k s) (value a b c d) refl refl (ap is_low (unit_8 x2 y2 z2 k2 refl a b c d r) ∙ q)))

    -- a backslash after it
    low_then : (r : List ℕ) → length r < f → Runs J.Escape r → Utf8 r → Reads (0x5C ∷ 0x75 ∷ a ∷ b ∷ c ∷ d ∷ 0x5C ∷ r)
    unfolding Runs here byte
    low_then [] l w g = absurd (let z : ◌≡◌ {A = ℕ} 0 1 = cc in omega arith)
    low_then (b2 ∷ r) l (u, e, w) g = escape_go b2 e
        (λ q h. subst (λ (n : ℕ). Reads (0x5C ∷ 0x75 ∷ a ∷ b ∷ c ∷ d ∷ 0x5C ∷ n ∷ r)) (sym q) (units (four_of r (runs_as r h w) (ascii-tail b2 r (omega arith) g)) (omega arith)))
        (λ n i h. as-broken a b c d x y z k (0x5C ∷ b2 ∷ r) p (pair_7 (here a b c d x y z k (0x5C ∷ b2 ∷ r)) (value a b c d) refl n))

    slash : (b1 : ℕ) → b1 ≡ 0x5C → (r : List ℕ) → length (b1 ∷ r) < f → Runs J.Plain (b1 ∷ r) → Utf8 (b1 ∷ r) → Reads (0x5C ∷ 0x75 ∷ a ∷ b ∷ c ∷ d ∷ b1 ∷ r)
    unfolding Runs
    slash b1 q r l (u, e, w) g = subst (λ (n : ℕ). Reads (0x5C ∷ 0x75 ∷ a ∷ b ∷ c ∷ d ∷ n ∷ r)) (sym q) (low_then r (omega arith) (runs_as r (backslash_go b1 q e) w) (ascii-tail b1 r (omega arith) g))

    high_then : (r : List ℕ) → length r < f → Runs J.Plain r → Utf8 r → Reads (0x5C ∷ 0x75 ∷ a ∷ b ∷ c ∷ d ∷ r)
    unfolding here byte
    high_then [] l w g = as-broken a b c d x y z k [] p (pair_6 (here a b c d x y z k []) (value a b c d) (λ e. omega arith))
    high_then (b1 ∷ r) l w g = both (eqb b1 0x5C)
        (λ q. slash b1 (eqb-true b1 0x5C q) r l w g)
        (λ q. as-broken a b c d x y z k (b1 ∷ r) p (pair_6 (here a b c d x y z k (b1 ∷ r)) (value a b c d) (eqb-false b1 0x5C q)))

  unit_then : {r : List ℕ} → Four r → length r < f → Reads (0x5C ∷ 0x75 ∷ r)
  unfolding here
  unit_then (after {a = a} {b = b} {c = c} {d = d} {z = r} x y z k w g) l = both (is_high (value a b c d))
      (λ p. high_then a b c d x y z k p r (omega arith) w g)
      (λ p. both (is_low (value a b c d))
      (λ q. as-low a b c d x y z k r p q)
      (λ q. as-char a b c d x y z k r p q (ih r (omega arith) w g)))

  escape_then : (r : List ℕ) → length r < f → Runs J.Escape r → Utf8 r → Reads (0x5C ∷ r)
  unfolding Runs
  escape_then [] l w g = absurd (let z : ◌≡◌ {A = ℕ} 0 1 = cc in omega arith)
  escape_then (b ∷ r) l (u, e, w) g = escape_go b e
      (λ q h. subst (λ (n : ℕ). Reads (0x5C ∷ n ∷ r)) (sym q) (unit_then (four_of r (runs_as r h w) (ascii-tail b r (omega arith) g)) (omega arith)))
      (λ n i h. let s = is-short b i in let t = short-ascii s.1 in prepend r t.1 (short s.1) (ih r (omega arith) (runs_as r h w) (ascii-tail b r t.0 g)))

  -- ---- a character that begins with no backslash

  module _ {c : ℕ} where
    plain-char : {x : List ℕ} → Encodes c x → (c ≡ 0x5C → ⊥) → (y : List ℕ) → Runs J.Plain (x ++ y) → (0x20 ≤ c) × (c ≡ 0x22 → ⊥) × Runs J.Plain y
    plain-char (one a e h) n y w = let r = pass-byte a (λ q. n (sym e ∙ q)) y w in (omega (arith, r.0), λ q. r.1 (e ∙ q), r.2)
    plain-char (two a b x y ea xa eb yb ec h) n r w = (omega arith, λ q. omega arith, over b (λ q. omega arith) r (over a (λ q. omega arith) _ w))
    plain-char (three a b d x y z ea xa eb yb ed zd ec h) n r w = (omega arith, λ q. omega arith, over d (λ q. omega arith) r (over b (λ q. omega arith) _ (over a (λ q. omega arith) _ w)))
    plain-char (four a b d e x y z v ea xa eb yb ed zd ee we ec h) n r w = (omega arith, λ q. omega arith, over e (λ q. omega arith) r (over d (λ q. omega arith) _ (over b (λ q. omega arith) _ (over a (λ q. omega arith) _ w))))

    some_bytes : {x : List ℕ} → Encodes c x → 0 < length x
    some_bytes (one a e h) = omega arith
    some_bytes (two a b x y ea xa eb yb ec h) = omega arith
    some_bytes (three a b d x y z ea xa eb yb ed zd ec h) = omega arith
    some_bytes (four a b d e x y z v ea xa eb yb ed zd ee we ec h) = omega arith

    back : {x : List ℕ} → Encodes c x → c ≡ 0x5C → (y : List ℕ) → Utf8 y → length (x ++ y) < suc f → Runs J.Plain (x ++ y) → Reads (x ++ y)
    unfolding Runs
    back (one a e h) q y g l (u, s, w) = subst (λ (n : ℕ). Reads (n ∷ y)) (sym (e ∙ q)) (escape_then y (omega arith) (runs_as y (backslash_go a (e ∙ q) s) w) g)
    back (two a b x y ea xa eb yb ec h) q r g l w = absurd (omega arith)
    back (three a b d x y z ea xa eb yb ed zd ec h) q r g l w = absurd (omega arith)
    back (four a b d e x y z v ea xa eb yb ed zd ee we ec h) q r g l w = absurd (omega arith)

  step : (x y : List ℕ) → Encoding x → Utf8 y → length (x ++ y) < suc f → Runs J.Plain (x ++ y) → Reads (x ++ y)
  step x y (c, enc, sc) g l w = both (eqb c 0x5C)
      (λ q. back enc (eqb-true c 0x5C q) y g l w)
      (λ q.
      let n = eqb-false c 0x5C q in
      let h = plain-char enc n y w in
      let m = some_bytes enc in
      let k = length-append x y in
      prepend y sc (unescaped enc h.0 h.1 n) (ih y (omega arith) h.2 g))

  first_char : (r : List ℕ) → r ∈ UTF8-octets → length r < suc f → Runs J.Plain r → Reads r
  first_char r Abnf.none l w = chars [] none
  first_char r (Abnf.more {x = x} {y = y} k ws) l w = step x y ((char_is x).0 k) ((utf8_contract (utf8_from ready y) y refl).1 ws) l w

read : (f : ℕ) (r : List ℕ) → length r < f → Runs J.Plain r → Utf8 r → Reads r
read zero r h w g = absurd (omega arith)
read (suc f) r h w g = first_char f (read f) r ((utf8_contract (utf8_from ready r) r refl).0 g) h w

pub reads_raw : (r : List ℕ) → Runs J.Plain r → Utf8 r → Reads r
reads_raw r w g = read (suc (length r)) r (omega arith) w g
