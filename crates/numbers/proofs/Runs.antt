-- The loop of `read_run`.
use Prim.Native.Nat.{ℕ, ◌+◌, ◌-◌, ◌*◌, ◌^◌, ◌<◌, ◌≤◌}
use mathlib.Core.Path.{◌≡◌, sym, ap, ◌∙◌}
use mathlib.Core.List.{List}
use mathlib.Core.Bool.{true, false}
use native.Mathlib.Omega.{arith}
use native.Mathlib.Nat.{pow-suc, pow-le-pow_right}
use native.Mathlib.Numerals.{add-one}
use lib.Dec.{lit<}
use lib.ListN.{length, get_or, drop, drop_of_length-le}
use lib.Seq.{drop-cons}
use mir.Syntax.{w64}
use mir.Val.{Fits}
use borrow.Author.Tests.{lt-ltb, le-ltb}
use Rattle.std.specs.Char.{is_ascii_digit}
use Rattle.numbers.specs.Digits.{is_digit}
use Rattle.numbers.specs.Parts.{found, over, run}
use Rattle.numbers.proofs.Texts.{digit_is}

pub record Running (s : List ℕ) (from limit value count v n i : ℕ) : Type 0 where
  pub within : i ≤ length s
  pub few : n ≤ limit
  pub short : limit ≤ 18
  pub small : v < 10 ^ n
  pub rest : run limit v n (drop i s) ≡ run limit value count (drop from s)

module _ {s : List ℕ} {from limit value count v n i : ℕ} (so_far : Running s from limit value count v n i) where
  room : n < limit → v < 10 ^ 17
  room h =
      let l : 10 ^ n ≤ 10 ^ 17 = pow-le-pow_right (lit< tt) {i = n} {j = 17} (omega (arith, so_far.short)) in
      omega (arith, so_far.small)

  pub mul-fits : n < limit → Fits w64 (v * 10)
  mul-fits h = omega (arith, room h)

  pub add-fits : (w : ℕ) → n < limit → true ≡ is_ascii_digit (get_or s i 0) → w ≡ get_or s i 0 - 48 → Fits w64 (v * 10 + w)
  add-fits w h e q = omega (arith, room h, digit_is (get_or s i 0) (sym e))

  stop : i < length s → is_digit (get_or s i 0) ≡ false → found v n (drop i s) ≡ run limit v n (drop i s)
  unfolding run
  stop h e = rw (drop-cons s i 0 h, e)

  pub other : i < length s → false ≡ is_ascii_digit (get_or s i 0) → found v n (drop i s) ≡ run limit value count (drop from s)
  other h e = stop h (sym e) ∙ so_far.rest

  nil : length s ≤ i → found v n (drop (length s) s) ≡ run limit v n (drop i s)
  unfolding run
  nil h = let none : length s ≤ length s = omega arith in rw (drop_of_length-le s h, drop_of_length-le s none)

  pub past : length s ≤ i → found v n (drop (length s) s) ≡ run limit value count (drop from s)
  past h = nil h ∙ so_far.rest

  full : i < length s → true ≡ is_ascii_digit (get_or s i 0) → limit ≤ n → over ≡ run limit v n (drop i s)
  unfolding run
  full h e m = let d : is_digit (get_or s i 0) ≡ true = sym e in rw (drop-cons s i 0 h, d, le-ltb n limit m)

  pub many : i < length s → true ≡ is_ascii_digit (get_or s i 0) → limit ≤ n → over ≡ run limit value count (drop from s)
  many h e m = full h e m ∙ so_far.rest

  step : i < length s → true ≡ is_ascii_digit (get_or s i 0) → n < limit → run limit (v * 10 + (get_or s i 0 - 48)) (n + 1) (drop (i + 1) s) ≡ run limit v n (drop i s)
  unfolding run
  step h e m = let d : is_digit (get_or s i 0) ≡ true = sym e in rw (add-one i, drop-cons s i 0 h, d, lt-ltb n limit m)

  pub one_more : {w : ℕ} → i < length s → true ≡ is_ascii_digit (get_or s i 0) → n < limit → w ≡ get_or s i 0 - 48 → Running s from limit value count (v * 10 + w) (n + 1) (i + 1)
  one_more h e m q =
      rw q
      (record {
        within = omega arith;
        few = omega arith;
        short = so_far.short;
        small = omega (arith, digit_is (get_or s i 0) (sym e), ap (λ (k : ℕ). 10 ^ k) (add-one n) ∙ pow-suc 10 n, so_far.small);
        rest = step h e m ∙ so_far.rest;
      })
