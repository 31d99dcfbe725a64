-- The digits that `decimal` writes from the back are those of the definition.
use Rattle.std.proofs.Common.{◌≡◌, ◌∙◌, ℕ, zero, suc, ◌+◌, ◌*◌, ◌/◌, ◌%◌, ◌-◌, ◌^◌, ◌≤◌, ◌<◌, List, [], ◌∷◌, ◌++◌, length, drop, set, refl, sym, ap, append_assoc, append-nil, add-one, arith}
use Rattle.std.proofs.lemmas.List.{drop-set, drop_all}
use Rattle.std.proofs.Math.Nat.{pow-suc}
use borrow.Author.Tests.{le-ltb, lt-ltb}
use Rattle.lines.specs.Number.{decimal_in, decimal_text}

last : (i n : ℕ) → n ≤ 9 → decimal_in (suc i) n ≡ (48 + n) ∷ []
unfolding decimal_in
last i n h = let t : n < 10 = omega arith in rw lt-ltb refl

more : (i n : ℕ) → 9 < n → decimal_in (suc i) n ≡ decimal_in i (n / 10) ++ ((48 + n % 10) ∷ [])
unfolding decimal_in
more i n h = let t : 10 ≤ n = omega arith in rw le-ltb refl

-- none is written yet
pub begins : (n : ℕ) (text : List ℕ) → length text ≡ 20 → decimal_in 20 n ++ drop 20 text ≡ decimal_text n
unfolding decimal_text
begins n text h =
    let e : drop 20 text ≡ [] = drop_all 20 text (omega arith) in
    rw e (append-nil (decimal_in 20 n))

-- the last digit of what is left is written
pub goes_on : (i n : ℕ) (text all : List ℕ) → 0 < i → i < length text → 9 < n → decimal_in (suc i) n ++ drop (suc i) text ≡ all → decimal_in (suc (i - 1)) (n / 10) ++ drop (suc (i - 1)) (set text i (48 + n % 10)) ≡ all
goes_on i n text all some room h e =
    let same : suc (i - 1) ≡ i = omega arith in
    let two : drop i (set text i (48 + n % 10)) ≡ (48 + n % 10) ∷ drop (i + 1) text = drop-set text i (48 + n % 10) room in
    let one : decimal_in (suc i) n ≡ decimal_in i (n / 10) ++ ((48 + n % 10) ∷ []) = more i n h in
    rw (same, two, add-one) (sym (append_assoc (decimal_in i (n / 10)) ((48 + n % 10) ∷ []) (drop (suc i) text)) ∙ ap (λ (s : List ℕ). s ++ drop (suc i) text) (sym one) ∙ e)

-- one digit was left, and is written
pub ends : (i n : ℕ) (text all : List ℕ) → i < length text → n ≤ 9 → decimal_in (suc i) n ++ drop (suc i) text ≡ all → drop i (set text i (48 + n % 10)) ≡ all
ends i n text all room h e =
    let two : drop i (set text i (48 + n % 10)) ≡ (48 + n % 10) ∷ drop (i + 1) text = drop-set text i (48 + n % 10) room in
    let one : decimal_in (suc i) n ≡ (48 + n) ∷ [] = last i n h in
    let digit : n % 10 ≡ n = omega arith in
    rw (two, add-one, digit) (ap (λ (s : List ℕ). s ++ drop (suc i) text) (sym one) ∙ e)

-- what is left is short enough for the places that are left
pub fits_less : (i n : ℕ) → 0 < i → n < 10 ^ suc i → n / 10 < 10 ^ suc (i - 1)
fits_less i n some h =
    let same : suc (i - 1) ≡ i = omega arith in
    let p : 10 ^ suc i ≡ 10 ^ i * 10 = pow-suc 10 i in
    rw same (omega arith)

pub not_first : (i n : ℕ) → 9 < n → n < 10 ^ suc i → 0 < i
not_first zero n h f = absurd (omega (arith, f))
not_first (suc i) n h f = omega arith
