-- A `homie` string has no backslash.
use Prim.Native.Nat.{ℕ}
use mathlib.Core.Path.{◌≡◌, refl, sym, ap, ◌∙◌}
use mathlib.Core.List.{List, [], ◌∷◌}
use mathlib.Core.Bool.{true, not, ◌&&◌, ◌||◌, false≢true}
use lib.ListN.{length, get_or, take, drop, take-append-drop}
use lib.Dec.{eqb, leb}
use Rattle.text.specs.Bytes.{eq_bytes, every}
use Rattle.text.specs.Ascii.{ascii}
use Rattle.text.proofs.Bytes.{both, and_both, eq_bytes-true}
use Rattle.numbers.specs.Digits.{is_digit}
use Rattle.json_text.specs.Strings.{is_plain}
use Rattle.fields.proofs.Plain.{every-plain, plain-append}
use Rattle.description.specs.Description.{all_digits, is_minor, is_homie}

digits-every : (t : List ℕ) → all_digits t ≡ true → every is_digit t ≡ true
unfolding all_digits every
digits-every [] h = refl
digits-every (b ∷ t) h = both (is_digit b) (λ e. rw e (digits-every t (rw (e, all_digits) at h))) (λ e. absurd (false≢true (rw (e, all_digits) at h)))

minor-plain : (t : List ℕ) → is_minor t ≡ true → is_plain t ≡ true
unfolding is_minor
minor-plain t h =
    let last = not (eqb (get_or t 0 0) 48) || eqb (length t) 1 in
    let a = and_both (leb 1 (length t)) (leb (length t) 3 && (all_digits t && last)) h in
    let b = and_both (leb (length t) 3) (all_digits t && last) a.1 in
    every-plain is_digit refl t (digits-every t (and_both (all_digits t) last b.1).0)

five-plain : is_plain (ascii "5.") ≡ true
unfolding is_plain
five-plain = refl

pub homie-plain : (t : List ℕ) → is_homie t ≡ true → is_plain t ≡ true
unfolding is_homie
homie-plain t e =
    let h = and_both (eq_bytes (take 2 t) (ascii "5.")) (is_minor (drop 2 t)) e in
    ap is_plain (sym (take-append-drop 2 t)) ∙ plain-append (take 2 t) (drop 2 t) (ap is_plain (eq_bytes-true (take 2 t) (ascii "5.") h.0) ∙ five-plain) (minor-plain (drop 2 t) h.1)
