-- What the private functions do. No promise of the crate rests on believing this file: proofs/ show that it comes to the rules of the others.
use Rattle.std.specs.Prelude.{ℕ, ◌+◌, ◌-◌, ◌*◌, ◌^◌, ◌≤◌, ◌<◌, ◌≡◌, List, [], ◌∷◌, Bool, true, false, cond, ◌&&◌, ltb, leb, eqb, length, get_or, drop, None, Option, Some}
use Rattle.numbers.specs.declared.decimals.Run.{Run}
use Rattle.numbers.specs.declared.decimals.DecimalRead.{DecimalRead}
use Rattle.numbers.specs.Digits.{is_digit, numeral}
use Rattle.numbers.specs.Decimal.{is_e}

-- a text of digits alone, one at least, that writes at most 2^63
unfoldable pub all_digits : List ℕ → Bool
all_digits [] = true
all_digits (d ∷ ds) = is_digit d && all_digits ds

abbrev pub some_digits : List ℕ → Bool
some_digits s = ltb 0 (length s) && all_digits s

unfoldable pub natural : List ℕ → Option ℕ
natural s = cond (some_digits s && leb (numeral 0 s) (2 ^ 63)) (Some (numeral 0 s)) None

-- a run of at most `limit` digits after `count` digits that write `value`, and what comes after it
pub data Found : Type 0 where
  found : (value count : ℕ) (rest : List ℕ) → Found
  over : Found

unfoldable pub run : ℕ → ℕ → ℕ → List ℕ → Found
run limit value count [] = found value count []
run limit value count (d ∷ ds) =
    cond (is_digit d) (cond (ltb count limit) (run limit (value * 10 + (d - 48)) (count + 1) ds) over) (found value count (d ∷ ds))

-- an index stands for what is left of the bytes from there
abbrev pub meant : List ℕ → Option Run → Found
meant s (Some r) = found r.value r.count (drop r.at s)
meant s None = over

-- the bounds that the answer keeps
abbrev pub Kept : List ℕ → ℕ → Option Run → Type 0
Kept s limit (Some r) = (r.at ≤ length s) × (r.count ≤ limit) × (r.value < 10 ^ r.count)
Kept s limit None = Unit {0}

-- the decimal ± m · 10^(e - 300)
abbrev pub made : Bool → ℕ → ℕ → Bool → Option DecimalRead
made neg m e fixed = Some (record { value = record { negative = neg; mantissa = m; exponent = e }; fixed = fixed })

-- after the exponent's digits: 1 to 3, at most 280, and nothing after them; f digits were behind the dot
unfoldable pub after_power : Bool → ℕ → ℕ → Bool → Found → Option DecimalRead
after_power neg m f below (found e n []) = cond (ltb 0 n && leb e 280) (made neg m (cond below (300 - f - e) (300 - f + e)) false) None
after_power neg m f below (found e n (c ∷ cs)) = None
after_power neg m f below over = None

-- an exponent after the digits, f of which were behind the dot
unfoldable pub after_digits : Bool → ℕ → ℕ → List ℕ → Option DecimalRead
after_digits neg m f [] = None
after_digits neg m f (c ∷ cs) =
    cond (is_e c)
    (cond (eqb (get_or cs 0 0) 45) (after_power neg m f true (run 3 0 0 (drop 1 cs))) (after_power neg m f false (run 3 0 0 cs)))
    None

-- at most nine digits before the dot and nine behind it
abbrev pub are_few : ℕ → ℕ → Bool
are_few n f = leb n 9 && leb f 9

-- after the digits, n before the dot and f behind it: the end, or an exponent
unfoldable pub ending : Bool → ℕ → ℕ → ℕ → List ℕ → Option DecimalRead
ending neg m n f [] = made neg m (300 - f) (are_few n f)
ending neg m n f (c ∷ cs) = after_digits neg m f (c ∷ cs)

-- after the digits behind the dot, of which there is one at least; n were before it
unfoldable pub after_fraction : Bool → ℕ → Found → Option DecimalRead
after_fraction neg n (found m k rest) = cond (ltb n k) (ending neg m n (k - n) rest) None
after_fraction neg n over = None

-- after the digits before the dot, of which there is one at least
unfoldable pub after_whole : Bool → Found → Option DecimalRead
after_whole neg (found m n rest) =
    cond (ltb 0 n) (cond (eqb (get_or rest 0 0) 46) (after_fraction neg n (run 18 m n (drop 1 rest))) (ending neg m n 0 rest)) None
after_whole neg over = None

-- r is v - b modulo s, rounded down: v - b = (q - p) s + r
pub record Past (v b s r : ℕ) : Type 0 where
  pub q : ℕ
  pub p : ℕ
  pub less : r < s
  pub sum : v + p * s ≡ b + q * s + r
