-- An ID is a word of its grammar, and the other way round.
use Prim.Native.Nat.{ℕ}
use native.Mathlib.Omega.{arith}
use mathlib.Core.Path.{◌≡◌, refl, ◌∙◌}
use mathlib.Core.Logic.{◌↔◌}
use mathlib.Core.List.{List, [], ◌∷◌}
use mathlib.Core.Bool.{true}
use borrow.Author.Tests.{eqb-true}
use Rattle.abnf.specs.Abnf.{Abnf, ◌–◌, ◌//◌, ◌∈◌, x, byte, left, right}
use Rattle.abnf.specs.Accepts.{in_range}
use Rattle.text.specs.Ids.{id_byte, is_id, ID}
use Rattle.text.proofs.Bytes.{or_cases, in_range_lem}
use Rattle.text.proofs.Ids.{lower, digit, dash, is-id, id_sized}
use Rattle.text.proofs.Repeats.{Char, repeat_in, repeat_out}

abbrev id_char : Abnf ⊥
id_char = 0x61 – 0x7A // 0x30 – 0x39 // x 0x2D

in-char : (b : ℕ) → id_byte b ≡ true → (b ∷ []) ∈ id_char
unfolding id_byte
in-char b e =
    or_cases (in_range 0x61 0x7A b) _ e (λ p. let r = in_range_lem 0x61 0x7A b p in left (byte r.0 r.1)) λ f.
    or_cases (in_range 0x30 0x39 b) _ f (λ p. let r = in_range_lem 0x30 0x39 b p in right (left (byte r.0 r.1))) λ g.
    let h = eqb-true b 0x2D g in right (right (byte (omega arith) (omega arith)))

one_char : (w : List ℕ) → w ∈ id_char → (b : ℕ) × (w ≡ b ∷ []) × (id_byte b ≡ true)
one_char w (left (byte {b = b} h k)) = (b, refl, lower b h k)
one_char w (right (left (byte {b = b} h k))) = (b, refl, digit b h k)
one_char w (right (right (byte {b = b} h k))) = (b, refl, dash b (omega arith))

id-char : Char id_byte id_char
id-char = record { is = in-char; one = one_char }

pub is_id_is : (s : List ℕ) → (is_id s ≡ true) ↔ (s ∈ ID)
is_id_is s = (
  (λ e. let i = is-id s e in repeat_in id_byte _ id-char 1 32 s (record { least = i.some; most = i.few; all = i.all })),
  (λ w. let r = repeat_out id_byte _ id-char 1 32 (omega arith) w in id_sized s r.least r.most ∙ r.all),
)
