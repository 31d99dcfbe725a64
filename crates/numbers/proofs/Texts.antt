-- The parts of a number's text: what the grammar says of each, as lists.
use Prim.Native.Nat.{ℕ, zero, suc, ◌≤◌, ◌<◌}
use native.Mathlib.Omega.{arith}
use mathlib.Core.Path.{◌≡◌, refl, ap, subst, ◌∙◌}
use mathlib.Core.Logic.{inl, inr}
use mathlib.Core.List.{List, [], ◌∷◌, ◌++◌, append-nil}
use mathlib.Core.Bool.{Bool, true, false, ◌||◌}
use lib.Dec.{leb, eqb}
use lib.ListN.{length}
use borrow.Author.Tests.{leb-true, le-leb, eqb-true}
use Rattle.abnf.specs.Abnf.{◌·◌, ◌//◌, x, opt, some, times, up_to, repeat}
use Rattle.abnf.proofs.Lead.{Many, over, again, Lead}
use Rattle.numbers.specs.Digits.{is_digit}
use Rattle.numbers.specs.Grammar.{DIGIT}
use Rattle.numbers.specs.Decimal.{is_e}
use Rattle.numbers.specs.Parts.{all_digits}
use Rattle.abnf.proofs.Steps.{both}
use Rattle.abnf.proofs.Accepts.{and_both}

-- digits at the front of s, and r after them
pub record Front (s r : List ℕ) : Type 0 where
  pub ds : List ℕ
  pub all : all_digits ds ≡ true
  pub cut : s ≡ ds ++ r

pub is_digit_lem : (b : ℕ) → 48 ≤ b → b ≤ 57 → is_digit b ≡ true
is_digit_lem b l u = rw (le-leb 48 b l, le-leb b 57 u)

pub digit_is : (b : ℕ) → is_digit b ≡ true → (48 ≤ b) × (b ≤ 57)
digit_is b e = let p = and_both (leb 48 b) (leb b 57) e in (leb-true 48 b p.0, leb-true b 57 p.1)

pub cons-digits : (b : ℕ) (ds : List ℕ) → is_digit b ≡ true → all_digits ds ≡ true → all_digits (b ∷ ds) ≡ true
unfolding all_digits
cons-digits b ds e f = rw (e, f)

pub uncons-digits : (b : ℕ) (ds : List ℕ) → all_digits (b ∷ ds) ≡ true → (is_digit b ≡ true) × (all_digits ds ≡ true)
unfolding all_digits
uncons-digits b ds e = and_both (is_digit b) (all_digits ds) e

pub no-digits : all_digits [] ≡ true
unfolding all_digits
no-digits = refl

-- one digit
lead-digit : (b : ℕ) (r : List ℕ) → is_digit b ≡ true → Lead DIGIT (b ∷ r) r
lead-digit b r e = let p = digit_is b e in (b, p.0, p.1, refl)

abbrev then-front : {s m r : List ℕ} → Lead DIGIT s m → Front m r → Front s r
then-front h f = record {
  ds = h.0 ∷ f.ds;
  all = cons-digits h.0 f.ds (is_digit_lem h.0 h.1 h.2) f.all;
  cut = h.3 ∙ ap (λ (l : List ℕ). h.0 ∷ l) f.cut;
}

-- *DIGIT
many-front : {s r : List ℕ} → Many (Lead DIGIT) s r → Front s r
many-front over = record { ds = []; all = no-digits; cut = refl }
many-front (again h t) = then-front h (many-front t)

front_many : (ds r : List ℕ) → all_digits ds ≡ true → Many (Lead DIGIT) (ds ++ r) r
front_many [] r e = over
front_many (b ∷ ds) r e = let p = uncons-digits b ds e in again (lead-digit b (ds ++ r) p.0) (front_many ds r p.1)

-- 1*DIGIT
pub record Some (s r : List ℕ) : Type 0 where
  pub front : Front s r
  pub some : 0 < length front.ds

pub some-front : {s r : List ℕ} → Lead (some DIGIT) s r → Some s r
some-front h = record { front = then-front h.1 (many-front h.2); some = omega arith }

pub front-some : (ds r : List ℕ) → all_digits ds ≡ true → 0 < length ds → Lead (some DIGIT) (ds ++ r) r
front-some [] r e l = absurd (omega arith)
front-some (b ∷ ds) r e l = let p = uncons-digits b ds e in (ds ++ r, lead-digit b (ds ++ r) p.0, front_many ds r p.1)

-- at most n digits
pub record Few (n : ℕ) (s r : List ℕ) : Type 0 where
  pub front : Front s r
  pub few : length front.ds ≤ n

few-front : (n : ℕ) {s r : List ℕ} → Lead (up_to n DIGIT) s r → Few n s r
few-front zero h = record { front = record { ds = []; all = no-digits; cut = h }; few = omega arith }
few-front (suc n) (inr h) = record { front = record { ds = []; all = no-digits; cut = h }; few = omega arith }
few-front (suc n) (inl h) = let f = few-front n h.2 in let l = f.few in record { front = then-front h.1 f.front; few = omega arith }

front-few : (n : ℕ) (ds r : List ℕ) → all_digits ds ≡ true → length ds ≤ n → Lead (up_to n DIGIT) (ds ++ r) r
front-few zero [] r e l = refl
front-few zero (b ∷ ds) r e l = absurd (omega arith)
front-few (suc n) [] r e l = inr refl
front-few (suc n) (b ∷ ds) r e l = let p = uncons-digits b ds e in inl (ds ++ r, lead-digit b (ds ++ r) p.0, front-few n ds r p.1 (omega arith))

-- 1 to n + 1 digits
pub record OneTo (n : ℕ) (s r : List ℕ) : Type 0 where
  pub front : Front s r
  pub some : 0 < length front.ds
  pub few : length front.ds ≤ n

pub one-front : (n : ℕ) {s r : List ℕ} → Lead (times 1 DIGIT · up_to n DIGIT) s r → OneTo (suc n) s r
one-front n {s} {r} h =
    let f = few-front n h.2 in
    let l = f.few in
    record { front = then-front (subst (λ (l : List ℕ). Lead DIGIT s l) h.1.2 h.1.1) f.front; some = omega arith; few = omega arith }

pub front-one : (n : ℕ) (ds r : List ℕ) → all_digits ds ≡ true → 0 < length ds → length ds ≤ suc n → Lead (times 1 DIGIT · up_to n DIGIT) (ds ++ r) r
front-one n [] r e l k = absurd (omega arith)
front-one n (b ∷ ds) r e l k =
    let p = uncons-digits b ds e in
    (ds ++ r, (ds ++ r, lead-digit b (ds ++ r) p.0, refl), front-few n ds r p.1 (omega arith))

-- [ "-" ]
abbrev pub sign : Bool → List ℕ
sign true = 45 ∷ []
sign false = []

pub record Sign (s r : List ℕ) : Type 0 where
  pub neg : Bool
  pub cut : s ≡ sign neg ++ r

is_byte : (k : ℕ) {s r : List ℕ} → Lead {N = ⊥} (x k) s r → s ≡ k ∷ r
is_byte k {s} {r} h =
    let l = h.1 in
    let u = h.2 in
    let e : h.0 ≡ k = omega arith in
    h.3 ∙ ap (λ (b : ℕ). b ∷ r) e

lead-byte : (k : ℕ) (r : List ℕ) → Lead {N = ⊥} (x k) (k ∷ r) r
lead-byte k r = (k, omega arith, omega arith, refl)

pub sign-front : {s r : List ℕ} → Lead {N = ⊥} (opt (x 0x2D)) s r → Sign s r
sign-front (inl h) = record { neg = true; cut = is_byte 45 h }
sign-front (inr h) = record { neg = false; cut = h }

pub front-sign : (neg : Bool) (r : List ℕ) → Lead {N = ⊥} (opt (x 0x2D)) (sign neg ++ r) r
front-sign true r = inl (lead-byte 45 r)
front-sign false r = inr refl

-- [ "." 1*DIGIT ]
abbrev pub dotted : List ℕ → List ℕ
dotted [] = []
dotted (f ∷ fs) = 46 ∷ f ∷ fs

pub record Dotted (s r : List ℕ) : Type 0 where
  pub fs : List ℕ
  pub all : all_digits fs ≡ true
  pub cut : s ≡ dotted fs ++ r

pub dotted-some : (fs r : List ℕ) → 0 < length fs → 46 ∷ (fs ++ r) ≡ dotted fs ++ r
dotted-some [] r l = absurd (omega arith)
dotted-some (f ∷ fs) r l = refl

pub dot-front : {s r : List ℕ} → Lead (opt (x 0x2E · some DIGIT)) s r → Dotted s r
dot-front {s} {r} (inl h) =
    let d = some-front h.2 in
    record {
      fs = d.front.ds;
      all = d.front.all;
      cut = is_byte 46 h.1 ∙ ap (λ (l : List ℕ). 46 ∷ l) d.front.cut ∙ dotted-some d.front.ds r d.some;
    }
dot-front (inr h) = record { fs = []; all = no-digits; cut = h }

pub front-dot : (fs r : List ℕ) → all_digits fs ≡ true → Lead (opt (x 0x2E · some DIGIT)) (dotted fs ++ r) r
front-dot [] r e = inr refl
front-dot (f ∷ fs) r e = inl ((f ∷ fs) ++ r, lead-byte 46 ((f ∷ fs) ++ r), front-some (f ∷ fs) r e (omega arith))

-- [ "." 1*9DIGIT ]
pub record DottedFew (s r : List ℕ) : Type 0 where
  pub dot : Dotted s r
  pub few : length dot.fs ≤ 9

pub dot-few : {s r : List ℕ} → Lead (opt (x 0x2E · repeat 1 9 DIGIT)) s r → DottedFew s r
dot-few {s} {r} (inl h) =
    let d = one-front 8 h.2 in
    record {
      dot = record {
        fs = d.front.ds;
        all = d.front.all;
        cut = is_byte 46 h.1 ∙ ap (λ (l : List ℕ). 46 ∷ l) d.front.cut ∙ dotted-some d.front.ds r d.some;
      };
      few = d.few;
    }
dot-few (inr h) = record { dot = record { fs = []; all = no-digits; cut = h }; few = omega arith }

pub few-dot : (fs r : List ℕ) → all_digits fs ≡ true → length fs ≤ 9 → Lead (opt (x 0x2E · repeat 1 9 DIGIT)) (dotted fs ++ r) r
few-dot [] r e l = inr refl
few-dot (f ∷ fs) r e l = inl ((f ∷ fs) ++ r, lead-byte 46 ((f ∷ fs) ++ r), front-one 8 (f ∷ fs) r e (omega arith) l)

-- [ ("e" / "E") [ "-" ] 1*3DIGIT ]
abbrev pub powered : ℕ → Bool → List ℕ → List ℕ
powered c neg [] = []
powered c neg (e ∷ es) = c ∷ (sign neg ++ (e ∷ es))

pub record Powered (s : List ℕ) : Type 0 where
  pub c : ℕ
  pub neg : Bool
  pub es : List ℕ
  pub letter : is_e c ≡ true
  pub all : all_digits es ≡ true
  pub few : length es ≤ 3
  pub cut : s ≡ powered c neg es

powered-some : (c : ℕ) (neg : Bool) (es : List ℕ) → 0 < length es → c ∷ (sign neg ++ (es ++ [])) ≡ powered c neg es
powered-some c neg [] l = absurd (omega arith)
powered-some c true (e ∷ es) l = rw append-nil
powered-some c false (e ∷ es) l = rw append-nil

letter-front : {s r : List ℕ} → Lead {N = ⊥} (x 0x65 // x 0x45) s r → (c : ℕ) × (is_e c ≡ true) × (s ≡ c ∷ r)
letter-front (inl h) = (101, refl, is_byte 101 h)
letter-front (inr h) = (69, refl, is_byte 69 h)

front-letter : (c : ℕ) (r : List ℕ) → is_e c ≡ true → Lead {N = ⊥} (x 0x65 // x 0x45) (c ∷ r) r
front-letter c r e = both (eqb c 101) (λ t. inl (at c 101 r (eqb-true c 101 t))) (λ t. inr (at c 69 r (eqb-true c 69 (subst (λ (b : Bool). (b || eqb c 69) ≡ true) t e))))
  where
    at : (c k : ℕ) (r : List ℕ) → c ≡ k → Lead {N = ⊥} (x k) (c ∷ r) r
    at c k r i = (c, omega arith, omega arith, refl)

pub power-front : {s : List ℕ} → Lead (opt ((x 0x65 // x 0x45) · opt (x 0x2D) · repeat 1 3 DIGIT)) s [] → Powered s
power-front (inl h) =
    let c = letter-front h.1 in
    let n = sign-front h.2.1 in
    let d = one-front 2 h.2.2 in
    record {
      c = c.0;
      neg = n.neg;
      es = d.front.ds;
      letter = c.1;
      all = d.front.all;
      few = d.few;
      cut = c.2 ∙ ap (λ (l : List ℕ). c.0 ∷ l) (n.cut ∙ ap (λ (l : List ℕ). sign n.neg ++ l) d.front.cut) ∙ powered-some c.0 n.neg d.front.ds d.some;
    }
power-front (inr h) = record { c = 101; neg = false; es = []; letter = refl; all = no-digits; few = omega arith; cut = h }

pub front-power : (c : ℕ) (neg : Bool) (es : List ℕ) → is_e c ≡ true → all_digits es ≡ true → length es ≤ 3 → Lead (opt ((x 0x65 // x 0x45) · opt (x 0x2D) · repeat 1 3 DIGIT)) (powered c neg es) []
front-power c neg [] i e l = inr refl
front-power c neg (d ∷ es) i e l =
    inl
    (sign neg ++ (d ∷ es), front-letter c (sign neg ++ (d ∷ es)) i, (d ∷ es, front-sign neg (d ∷ es), subst (λ (t : List ℕ). Lead (repeat 1 3 DIGIT) t []) (append-nil (d ∷ es)) (front-one 2 (d ∷ es) [] e (omega arith) l)))
