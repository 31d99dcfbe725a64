-- The returns of the functions that read a decimal's parts.
use Rattle.std.specs.Prelude.{Option, None}
use Prim.Native.Nat.{ℕ, suc, ◌+◌, ◌-◌, ◌<◌, ◌≤◌}
use mathlib.Core.Path.{◌≡◌, ap, ◌∙◌, sym}
use mathlib.Core.List.{List, []}
use mathlib.Core.Logic.{◌⊎◌, inl, inr}
use mathlib.Core.Bool.{Bool, true, false, cond, ◌||◌}
use native.Mathlib.Omega.{arith}
use lib.Dec.{eqb}
use lib.ListN.{length, get_or, drop, drop_of_length-le, get_or-eq_default}
use lib.Seq.{drop-cons, get_or-drop, drop-drop}
use borrow.Author.Tests.{le-leb, lt-leb, lt-ltb, le-ltb, ne_eqb, eqb-true}
use native.Mathlib.Decide.{dec_le}
use Rattle.numbers.specs.declared.decimals.DecimalRead.{DecimalRead}
use Rattle.numbers.specs.Parts.{Found, found, over, run, made, after_power, after_digits, are_few, ending, after_fraction, after_whole}

-- after the exponent's digits, which were read as x
module _ {x : Found} (neg : Bool) (m f : ℕ) (minus : Bool) where
  pub none : over ≡ x → None ≡ after_power neg m f minus x
  unfolding after_power
  none got = rw (← got)

  module _ (s : List ℕ) (v n i : ℕ) (got : found v n (drop i s) ≡ x) where
    pub bad : (i < length s) ⊎ (((length s ≤ i) × (n ≡ 0)) ⊎ ((length s ≤ i) × (n ≡ 0 → ⊥) × (280 < v))) → None ≡ after_power neg m f minus x
    unfolding after_power
    bad (inl h) = rw (← got, drop-cons s i 0 h)
    bad (inr (inl (h, e))) = rw (← got, drop_of_length-le s h, e)
    bad (inr (inr (h, e, l))) = rw (← got, drop_of_length-le s h, lt-ltb 0 n (omega arith), lt-leb v 280 l)

    good : length s ≤ i → (n ≡ 0 → ⊥) → v ≤ 280 → made neg m (cond minus (300 - f - v) (300 - f + v)) false ≡ after_power neg m f minus x
    unfolding after_power
    good h e l = rw (← got, drop_of_length-le s h, lt-ltb 0 n (omega arith), le-leb v 280 l)

    pub down : {d : Option DecimalRead} → length s ≤ i → (n ≡ 0 → ⊥) → v ≤ 280 → minus ≡ true → d ≡ made neg m (300 - f - v) false → d ≡ after_power neg m f minus x
    down h e l t k = k ∙ rw (← good h e l, t)

    pub up : {d : Option DecimalRead} → length s ≤ i → (n ≡ 0 → ⊥) → v ≤ 280 → minus ≡ false → d ≡ made neg m (300 - f + v) false → d ≡ after_power neg m f minus x
    up h e l t k = k ∙ rw (← good h e l, t)

-- past the end there is no byte but 0
pub past_end : (s : List ℕ) (at b : ℕ) → 0 < b → length s ≤ at → false ≡ eqb (get_or s at 0) b
past_end s at b h l = sym (ne_eqb (get_or s at 0) b (λ e. omega (arith, get_or-eq_default s 0 l)))

pub within : (s : List ℕ) (at : ℕ) (r : Bool) → r ≡ eqb (get_or s (at + 1) 0) 45 → r ≡ true → at + 2 ≤ length s
within s at r e t = pick (dec_le (at + 2) (length s))
  where
    pick : Dec (at + 2 ≤ length s) → at + 2 ≤ length s
    pick (yes h) = h
    pick (no h) =
        let none : get_or s (at + 1) 0 ≡ 0 = get_or-eq_default s 0 (omega arith) in
        let some : get_or s (at + 1) 0 ≡ 45 = eqb-true (get_or s (at + 1) 0) 45 (sym e ∙ t) in
        absurd (omega arith)

tail_get : (s : List ℕ) (at : ℕ) → get_or (drop (suc at) s) 0 0 ≡ get_or s (at + 1) 0
tail_get s at = get_or-drop (suc at) s 0 0 ∙ ap (λ (k : ℕ). get_or s k 0) (omega arith)

tail-drop : (s : List ℕ) (at : ℕ) → drop 1 (drop (suc at) s) ≡ drop (at + 2) s
tail-drop s at = let e : suc at + 1 ≡ at + 2 = omega arith in drop-drop 1 (suc at) s ∙ ap (λ (k : ℕ). drop k s) e

here_get : (s : List ℕ) (i : ℕ) → get_or (drop i s) 0 0 ≡ get_or s i 0
here_get s i = let e : i + 0 ≡ i = omega arith in get_or-drop i s 0 0 ∙ ap (λ (k : ℕ). get_or s k 0) e

here-drop : (s : List ℕ) (i : ℕ) → drop 1 (drop i s) ≡ drop (i + 1) s
here-drop s i = drop-drop 1 i s

tail-same : (s : List ℕ) (at : ℕ) → drop (suc at) s ≡ drop (at + 1) s
tail-same s at = let e : suc at ≡ at + 1 = omega arith in ap (λ (k : ℕ). drop k s) e

module _ (s : List ℕ) (at : ℕ) (neg : Bool) (m f : ℕ) (e : Bool) (h : at < length s) (is-e : e ≡ (eqb (get_or s at 0) 101 || eqb (get_or s at 0) 69)) where
  pub junk : e ≡ false → None ≡ after_digits neg m f (drop at s)
  unfolding after_digits
  junk t = rw (drop-cons s at 0 h, ← is-e, t)

  shape : e ≡ true → after_digits neg m f (drop at s) ≡ cond (eqb (get_or s (at + 1) 0) 45) (after_power neg m f true (run 3 0 0 (drop (at + 2) s))) (after_power neg m f false (run 3 0 0 (drop (at + 1) s)))
  unfolding after_digits
  shape t = rw (drop-cons s at 0 h, ← is-e, t, tail_get s at, tail-drop s at, tail-same s at)

  pub minus : (x : Bool) (r : Option DecimalRead) → e ≡ true → x ≡ eqb (get_or s (at + 1) 0) 45 → x ≡ true → r ≡ after_power neg m f true (run 3 0 0 (drop (at + 2) s)) → r ≡ after_digits neg m f (drop at s)
  minus x r t y z is = is ∙ sym (shape t ∙ rw (← y, z))

  pub plus : (x : Bool) (r : Option DecimalRead) → e ≡ true → x ≡ eqb (get_or s (at + 1) 0) 45 → x ≡ false → r ≡ after_power neg m f false (run 3 0 0 (drop (at + 1) s)) → r ≡ after_digits neg m f (drop at s)
  plus x r t y z is = is ∙ sym (shape t ∙ rw (← y, z))

-- the end, or an exponent
pub end : (neg : Bool) (m n f : ℕ) {b : Bool} → b ≡ are_few n f → made neg m (300 - f) b ≡ ending neg m n f []
unfolding ending
end neg m n f e = rw e

module _ (s : List ℕ) (at : ℕ) (neg : Bool) (m n f : ℕ) {r : Option DecimalRead} where
  at-end : length s ≤ at → r ≡ ending neg m n f [] → r ≡ ending neg m n f (drop at s)
  at-end h e = e ∙ rw (drop_of_length-le s h)

  not_end : at < length s → r ≡ after_digits neg m f (drop at s) → r ≡ ending neg m n f (drop at s)
  unfolding ending
  not_end h e = e ∙ rw (drop-cons s at 0 h)

-- after the digits behind the dot, which were read as x
module _ {x : Found} (neg : Bool) (n : ℕ) where
  pub f-none : over ≡ x → None ≡ after_fraction neg n x
  unfolding after_fraction
  f-none got = rw (← got)

  module _ (s : List ℕ) (v k i : ℕ) (got : found v k (drop i s) ≡ x) where
    pub f-bad : k ≤ n → None ≡ after_fraction neg n x
    unfolding after_fraction
    f-bad h = rw (← got, le-ltb n k h)

    f-good : (d : Option DecimalRead) → n < k → d ≡ ending neg v n (k - n) (drop i s) → d ≡ after_fraction neg n x
    unfolding after_fraction
    f-good d h e = rw (← got, lt-ltb n k h) e

    pub f-power : (d : Option DecimalRead) → n < k → i < length s → d ≡ after_digits neg v (k - n) (drop i s) → d ≡ after_fraction neg n x
    f-power d h l e = f-good d h (not_end s i neg v n (k - n) l e)

    pub f-end : (d : Option DecimalRead) → n < k → length s ≤ i → d ≡ ending neg v n (k - n) [] → d ≡ after_fraction neg n x
    f-end d h l e = f-good d h (at-end s i neg v n (k - n) l e)

-- after the digits before the dot, which were read as x
module _ {x : Found} (neg : Bool) where
  pub w-none : over ≡ x → None ≡ after_whole neg x
  unfolding after_whole
  w-none got = rw (← got)

  module _ (s : List ℕ) (v n i : ℕ) (got : found v n (drop i s) ≡ x) where
    pub w-bad : n ≡ 0 → None ≡ after_whole neg x
    unfolding after_whole
    w-bad h = rw (← got, le-ltb 0 n (omega arith))

    shape_w : (n ≡ 0 → ⊥) → after_whole neg x ≡ cond (eqb (get_or s i 0) 46) (after_fraction neg n (run 18 v n (drop (i + 1) s))) (ending neg v n 0 (drop i s))
    unfolding after_whole
    shape_w h = rw (← got, lt-ltb 0 n (omega arith), here_get s i, here-drop s i)

    pub w_point : (d : Option DecimalRead) (p : Bool) → (n ≡ 0 → ⊥) → p ≡ eqb (get_or s i 0) 46 → p ≡ true → d ≡ after_fraction neg n (run 18 v n (drop (i + 1) s)) → d ≡ after_whole neg x
    w_point d p h e t y = y ∙ sym (shape_w h ∙ rw (← e, t))

    pub w-power : (d : Option DecimalRead) (p : Bool) → (n ≡ 0 → ⊥) → i < length s → p ≡ eqb (get_or s i 0) 46 → p ≡ false → d ≡ after_digits neg v 0 (drop i s) → d ≡ after_whole neg x
    w-power d p h l e t y = not_end s i neg v n 0 l y ∙ sym (shape_w h ∙ rw (← e, t))

    pub w-end : (d : Option DecimalRead) → (n ≡ 0 → ⊥) → length s ≤ i → d ≡ ending neg v n 0 [] → d ≡ after_whole neg x
    w-end d h l y = at-end s i neg v n 0 l y ∙ sym (shape_w h ∙ rw (← past_end s i 46 (omega arith) l))
