-- Two digits as a number, 100 where they are none.
use Prim.Native.Nat.{ℕ, ◌+◌, ◌*◌, ◌-◌, ◌<◌}
use native.Mathlib.Omega.{arith}
use mathlib.Core.Path.{◌≡◌, sym, ap, ◌∙◌}
use mathlib.Core.List.{List}
use mathlib.Core.Bool.{◌&&◌, cond}
use lib.Dec.{leb}
use borrow.Author.Tests.{le-leb, lt-leb, leb-false}
use Rattle.std.specs.Prelude.{Option, Some, None}
use Rattle.abnf.specs.Accepts.{in_range}
use Rattle.abnf.proofs.Accepts.{and_both}
use Rattle.abnf.proofs.Steps.{both, range-true}
use Rattle.times.specs.Parts.{byte_at, pair_of, pair_at, at_most}

unfoldable pub pair_number : ℕ → ℕ → ℕ
pair_number a b = cond (in_range 48 57 a && in_range 48 57 b) (10 * (a - 48) + (b - 48)) 100

abbrev pub number_at : List ℕ → ℕ → ℕ
number_at s i = pair_number (byte_at s i) (byte_at s (i + 1))

-- the number again
unfoldable pub read_number : ℕ → Option ℕ
read_number n = cond (leb n 99) (Some n) None

pub pair_is_number : (a b : ℕ) → pair_of a b ≡ read_number (pair_number a b)
unfolding pair_of pair_number read_number
pair_is_number a b =
    both (in_range 48 57 a && in_range 48 57 b)
    (λ e.
    let p = and_both (in_range 48 57 a) (in_range 48 57 b) e in
    let x = range-true 48 57 a p.0 in
    let y = range-true 48 57 b p.1 in
    rw (e, le-leb (10 * (a - 48) + (b - 48)) 99 (omega arith)))
    (λ e. rw e)

pub at_most_number : (m n : ℕ) → m < 100 → at_most m (read_number n) ≡ leb n m
unfolding read_number
at_most_number m n h =
    both (leb n 99)
    (λ e. rw e)
    (λ e. rw e (sym (lt-leb n m (omega (arith, leb-false n 99 e)))))

pub at_most_is : (m : ℕ) (s : List ℕ) (i : ℕ) → m < 100 → at_most m (pair_at s i) ≡ leb (number_at s i) m
at_most_is m s i h = ap (at_most m) (pair_is_number (byte_at s i) (byte_at s (i + 1))) ∙ at_most_number m (number_at s i) h
