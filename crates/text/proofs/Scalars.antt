-- The grammar's characters are the encodings of the character numbers, each in its one form.
use Prim.Native.Nat.{ℕ, ◌+◌, ◌*◌, ◌-◌, ◌≤◌, ◌<◌}
use native.Mathlib.Omega.{arith}
use mathlib.Core.Path.{◌≡◌, refl}
use mathlib.Core.Logic.{◌↔◌}
use mathlib.Core.List.{List, [], ◌∷◌}
use Rattle.abnf.specs.Abnf.{◌–◌, ◌∈◌, byte, join, left, right}
use Rattle.text.specs.Utf8.{UTF8-3, UTF8-4, UTF8-char}
use Rattle.text.specs.Scalars.{Scalar, Encodes, Encoding, one, two, three, four}
use Rattle.text.proofs.Bytes.{at_most}

-- ---- from the grammar to the numbers

abbrev num_2 : ℕ → ℕ → ℕ
num_2 a b = 64 * (a - 0xC0) + (b - 0x80)

abbrev num_3 : ℕ → ℕ → ℕ → ℕ
num_3 a b d = 4096 * (a - 0xE0) + (64 * (b - 0x80) + (d - 0x80))

abbrev num_4 : ℕ → ℕ → ℕ → ℕ → ℕ
num_4 a b d e = 262144 * (a - 0xF0) + (4096 * (b - 0x80) + (64 * (d - 0x80) + (e - 0x80)))

pub record Tail (b : ℕ) : Type 0 where
  pub least : 0x80 ≤ b
  pub most : b ≤ 0xBF

row_2 : (a b : ℕ) → 0xC2 ≤ a → a ≤ 0xDF → Tail b → Encoding (a ∷ b ∷ [])
row_2 a b h k t = (
  num_2 a b,
  two a b (a - 0xC0) (b - 0x80) (omega arith) (omega arith) (omega arith) (omega arith) refl (omega arith),
  record { small = omega arith; plain = λ p q. omega arith },
)

row_3 : (a b d : ℕ) → 0xE0 ≤ a → a ≤ 0xEF → Tail b → Tail d → 0x800 ≤ num_3 a b d → (0xD800 ≤ num_3 a b d → num_3 a b d ≤ 0xDFFF → ⊥) → Encoding (a ∷ b ∷ d ∷ [])
row_3 a b d h k t u big plain = (
  num_3 a b d,
  three a b d (a - 0xE0) (b - 0x80) (d - 0x80) (omega arith) (omega arith) (omega arith) (omega arith) (omega arith) (omega arith) refl big,
  record { small = omega arith; plain = plain },
)

row_4 : (a b d e : ℕ) → 0xF0 ≤ a → a ≤ 0xF4 → Tail b → Tail d → Tail e → 0x10000 ≤ num_4 a b d e → num_4 a b d e ≤ 0x10FFFF → Encoding (a ∷ b ∷ d ∷ e ∷ [])
row_4 a b d e h k t u v big small = (
  num_4 a b d e,
  four a b d e (a - 0xF0) (b - 0x80) (d - 0x80) (e - 0x80) (omega arith) (omega arith) (omega arith) (omega arith) (omega arith) (omega arith) (omega arith) (omega arith) refl big,
  record { small = small; plain = λ p q. omega arith },
)

encoded_3 : (w : List ℕ) → w ∈ UTF8-3 → Encoding w
encoded_3 w (left (join (byte {b = a} h k) (join (byte {b = b} m n) (byte {b = d} o p)))) =
    row_3 a b d (omega arith) (omega arith) (record { least = omega arith; most = omega arith }) (record { least = o; most = p }) (omega arith) (λ x y. omega arith)
encoded_3 w (right (left (join (byte {b = a} h k) (join (byte {b = b} m n) (byte {b = d} o p))))) =
    row_3 a b d (omega arith) (omega arith) (record { least = m; most = n }) (record { least = o; most = p }) (omega arith) (λ x y. omega arith)
encoded_3 w (right (right (left (join (byte {b = a} h k) (join (byte {b = b} m n) (byte {b = d} o p)))))) =
    row_3 a b d (omega arith) (omega arith) (record { least = omega arith; most = omega arith }) (record { least = o; most = p }) (omega arith) (λ x y. omega arith)
encoded_3 w (right (right (right (join (byte {b = a} h k) (join (byte {b = b} m n) (byte {b = d} o p)))))) =
    row_3 a b d (omega arith) (omega arith) (record { least = m; most = n }) (record { least = o; most = p }) (omega arith) (λ x y. omega arith)

encoded_4 : (w : List ℕ) → w ∈ UTF8-4 → Encoding w
encoded_4 w (left (join (byte {b = a} h k) (join (byte {b = b} m n) (join (byte {b = d} o p) (byte {b = e} q r))))) =
    row_4 a b d e (omega arith) (omega arith) (record { least = omega arith; most = omega arith }) (record { least = o; most = p }) (record { least = q; most = r }) (omega arith) (omega arith)
encoded_4 w (right (left (join (byte {b = a} h k) (join (byte {b = b} m n) (join (byte {b = d} o p) (byte {b = e} q r)))))) =
    row_4 a b d e (omega arith) (omega arith) (record { least = m; most = n }) (record { least = o; most = p }) (record { least = q; most = r }) (omega arith) (omega arith)
encoded_4 w (right (right (join (byte {b = a} h k) (join (byte {b = b} m n) (join (byte {b = d} o p) (byte {b = e} q r)))))) =
    row_4 a b d e (omega arith) (omega arith) (record { least = omega arith; most = omega arith }) (record { least = o; most = p }) (record { least = q; most = r }) (omega arith) (omega arith)

encoded : (w : List ℕ) → w ∈ UTF8-char → Encoding w
encoded w (left (byte {b = a} h k)) = (a, one a refl k, record { small = omega arith; plain = λ p q. omega arith })
encoded w (right (left (join (byte {b = a} h k) (byte {b = b} m n)))) = row_2 a b h k (record { least = m; most = n })
encoded w (right (right (left u))) = encoded_3 w u
encoded w (right (right (right u))) = encoded_4 w u

-- ---- from the numbers to the grammar

is : (lo hi b : ℕ) → lo ≤ b → b ≤ hi → (b ∷ []) ∈ lo – hi
is lo hi b h k = byte h k

in_3 : (a b d c x y z : ℕ) → a ≡ 0xE0 + x → x < 16 → b ≡ 0x80 + y → y < 64 → d ≡ 0x80 + z → z < 64 → c ≡ 4096 * x + (64 * y + z) → 0x800 ≤ c → Scalar c → (a ∷ b ∷ d ∷ []) ∈ UTF8-3
in_3 a b d c x y z ea xa eb yb ed zd ec h s =
    let tail = is 0x80 0xBF d (omega arith) (omega arith) in
    at_most a 0xE0 (λ k. left (join (is 0xE0 0xE0 a (omega arith) k) (join (is 0xA0 0xBF b (omega arith) (omega arith)) tail))) λ h1.
    at_most a 0xEC (λ k. right (left (join (is 0xE1 0xEC a h1 k) (join (is 0x80 0xBF b (omega arith) (omega arith)) tail)))) λ h2.
    at_most a 0xED (λ k. right (right (left (join (is 0xED 0xED a h2 k) (join (is 0x80 0x9F b (omega arith) (below k h2)) tail))))) λ h3.
    right (right (right (join (is 0xEE 0xEF a h3 (omega arith)) (join (is 0x80 0xBF b (omega arith) (omega arith)) tail))))
  where
    below : a ≤ 0xED → 0xEC < a → b ≤ 0x9F
    below k h2 = at_most b 0x9F (λ p. p) (λ p. absurd (s.plain (omega arith) (omega arith)))

in_4 : (a b d e c x y z w : ℕ) → a ≡ 0xF0 + x → x < 8 → b ≡ 0x80 + y → y < 64 → d ≡ 0x80 + z → z < 64 → e ≡ 0x80 + w → w < 64 → c ≡ 262144 * x + (4096 * y + (64 * z + w)) → 0x10000 ≤ c → Scalar c → (a ∷ b ∷ d ∷ e ∷ []) ∈ UTF8-4
in_4 a b d e c x y z w ea xa eb yb ed zd ee we ec h s =
    let tails = join (is 0x80 0xBF d (omega arith) (omega arith)) (is 0x80 0xBF e (omega arith) (omega arith)) in
    at_most a 0xF0 (λ k. left (join (is 0xF0 0xF0 a (omega arith) k) (join (is 0x90 0xBF b (omega arith) (omega arith)) tails))) λ h1.
    at_most a 0xF3 (λ k. right (left (join (is 0xF1 0xF3 a h1 k) (join (is 0x80 0xBF b (omega arith) (omega arith)) tails)))) λ h2.
    right (right (join (is 0xF4 0xF4 a h2 (omega (arith, s.small))) (join (is 0x80 0x8F b (omega arith) (omega (arith, s.small))) tails)))

in-char : (w : List ℕ) (c : ℕ) → Encodes c w → Scalar c → w ∈ UTF8-char
in-char w c (one a e h) s = left (is 0x00 0x7F a (omega arith) (omega arith))
in-char w c (two a b x y ea xa eb yb ec h) s = right (left (join (is 0xC2 0xDF a (omega arith) (omega arith)) (is 0x80 0xBF b (omega arith) (omega arith))))
in-char w c (three a b d x y z ea xa eb yb ed zd ec h) s = right (right (left (in_3 a b d c x y z ea xa eb yb ed zd ec h s)))
in-char w c (four a b d e x y z v ea xa eb yb ed zd ee we ec h) s = right (right (right (in_4 a b d e c x y z v ea xa eb yb ed zd ee we ec h s)))

pub char_is : (w : List ℕ) → (w ∈ UTF8-char) ↔ Encoding w
char_is w = (encoded w, λ e. in-char w e.0 e.1 e.2)
