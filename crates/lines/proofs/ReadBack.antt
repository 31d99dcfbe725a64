-- A number that is written is read back.
use Rattle.std.specs.Prelude.{Some}
use Prim.Native.Nat.{ℕ, zero, suc, ◌+◌, ◌-◌, ◌*◌, ◌/◌, ◌%◌, ◌^◌, ◌≤◌, ◌<◌}
use mathlib.Core.Path.{◌≡◌, refl}
use mathlib.Core.List.{List, [], ◌∷◌, ◌++◌}
use mathlib.Core.Bool.{Bool, true, false, ◌&&◌}
use native.Mathlib.Omega.{arith}
use native.Mathlib.Nat.{pow-suc}
use lib.ListN.{length, length-append}
use borrow.Author.Tests.{le-leb, le-ltb, lt-ltb}
use Rattle.text.specs.Bytes.{every}
use Rattle.text.proofs.Bytes.{at_most}
use Rattle.numbers.specs.Digits.{is_digit, numeral, number}
use Rattle.lines.specs.Number.{number_of, decimal_in, decimal_text}

numeral_snoc : (a : ℕ) (s : List ℕ) (d : ℕ) → numeral a (s ++ (d ∷ [])) ≡ numeral a s * 10 + (d - 48)
unfolding numeral
numeral_snoc a [] d = refl
numeral_snoc a (c ∷ s) d = numeral_snoc (a * 10 + (c - 48)) s d

every_snoc : (p : ℕ → Bool) (s : List ℕ) (d : ℕ) → every p s ≡ true → p d ≡ true → every p (s ++ (d ∷ [])) ≡ true
unfolding every
every_snoc p [] d h e = rw e
every_snoc p (c ∷ s) d h e = pick (p c) (every p s) h (λ q. every_snoc p s d q e)
  where
    pick : (x y : Bool) → (x && y) ≡ true → (y ≡ true → every p (s ++ (d ∷ [])) ≡ true) → (x && every p (s ++ (d ∷ []))) ≡ true
    pick true y q go = go q
    pick false y q go = q

digit : (n : ℕ) → n < 10 → is_digit (48 + n) ≡ true
digit n h = rw (le-leb 48 (48 + n) (omega arith), le-leb (48 + n) 57 (omega arith))

pub record Reads (s : List ℕ) (n : ℕ) : Type 0 where
  pub value : number s ≡ n
  pub digits : every is_digit s ≡ true
  pub some : 1 ≤ length s

small : (k n : ℕ) → n < 10 → Reads (decimal_in (suc k) n) n
unfolding decimal_in numeral every
small k n h = rw (lt-ltb n 10 h) (record { value = omega arith; digits = rw (digit n h); some = omega arith })

opened : (k n : ℕ) → 9 < n → decimal_in (suc (suc k)) n ≡ decimal_in (suc k) (n / 10) ++ ((48 + n % 10) ∷ [])
unfolding decimal_in
opened k n h = rw (le-ltb n 10 (omega arith))

longer : (k n : ℕ) → 9 < n → Reads (decimal_in (suc k) (n / 10)) (n / 10) → Reads (decimal_in (suc (suc k)) n) n
longer k n h r =
    let s : List ℕ = decimal_in (suc k) (n / 10) in
    rw (opened k n h) (record {
      value = rw (numeral_snoc 0 s (48 + n % 10), r.value) (omega arith);
      digits = every_snoc is_digit s (48 + n % 10) r.digits (digit (n % 10) (omega arith));
      some = rw length-append (omega arith);
    })

reads : (k n : ℕ) → n < 10 ^ suc k → Reads (decimal_in (suc k) n) n
reads zero n h = small 0 n (omega (arith, pow-suc 10 0))
reads (suc k) n h = at_most n 9
    (λ l. small (suc k) n (omega arith))
    (λ l. longer k n l (reads k (n / 10) (let e = pow-suc 10 (suc k) in omega arith)))

read_number : (s : List ℕ) (n : ℕ) → n < 2 ^ 64 → Reads s n → number_of s ≡ Some n
unfolding number_of
read_number s n h r = rw (le-leb 1 (length s) r.some, r.digits, r.value, lt-ltb n (2 ^ 64) h)

pub number-back : (n : ℕ) → n < 2 ^ 64 → number_of (decimal_text n) ≡ Some n
unfolding decimal_text
number-back n h = read_number (decimal_in 20 n) n h (reads 19 n (omega arith))
