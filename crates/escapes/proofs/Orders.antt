-- Laws of the order.
use Rattle.std.specs.Prelude.{None, Option, Some}
use Prim.Native.Nat.{ℕ, suc}
use native.Mathlib.Omega.{arith}
use mathlib.Core.Path.{◌≡◌, refl, sym, ap, ◌∙◌}
use mathlib.Core.List.{List, [], ◌∷◌}
use mathlib.Core.Bool.{Bool, true, false, ◌&&◌, ◌||◌}
use lib.ListN.{length}
use lib.Dec.{ltb}
use borrow.Author.Tests.{lt-ltb, le-ltb, eq-eqb, ne_eqb}
use Rattle.text.specs.Bytes.{less_bytes}
use Rattle.text.proofs.Bytes.{and_both}
use Rattle.json_text.specs.Strings.{is_plain}
use Rattle.escapes.specs.Decode.{Decoded, whole, half, decode, bytes_of, written, half_of}
use Rattle.escapes.specs.declared.Step.{Step}
use Rattle.escapes.specs.declared.Step.TheVariants.{Byte, Stop, Over}
use Rattle.escapes.specs.Parts.{step_at}
use Rattle.escapes.proofs.Walk.{some-half, whole_of, front, tail, Place, Stepped, start-place, start-tail, stopped, over}
use Rattle.escapes.proofs.Loops.{plain-written}

-- ---- with a half, and without

half_empty : (d : Decoded) {p : ℕ} → half_of d ≡ Some p → bytes_of d ≡ []
unfolding bytes_of
half_empty d e = ap bytes_of (some-half d e)

less_empty : (l : List ℕ) → ltb 0 (length l) ≡ less_bytes [] l
unfolding less_bytes
less_empty [] = refl
less_empty (x ∷ l) = lt-ltb 0 (suc (length l)) (omega arith)

less_differs : (d c : ℕ) (l m : List ℕ) → (d ≡ c → ⊥) → less_bytes (d ∷ l) (c ∷ m) ≡ ltb d c
unfolding less_bytes
less_differs d c l m n = rw (ne_eqb d c n) (or_no (ltb d c))
  where
    or_no : (t : Bool) → (t || false) ≡ t
    or_no true = refl
    or_no false = refl

less-same : (d c : ℕ) (l m : List ℕ) → d ≡ c → less_bytes (d ∷ l) (c ∷ m) ≡ less_bytes l m
unfolding less_bytes
less-same d c l m e = rw (le-ltb d c (omega arith), eq-eqb d c e)

less_none : (l : List ℕ) → false ≡ less_bytes l []
unfolding less_bytes
less_none l = refl

module _ (a b : List ℕ) where
  pub half-second : {r : Option ℕ} {p : ℕ} → r ≡ half_of (decode b) → r ≡ Some p → false ≡ less_bytes (written a) (written b)
  unfolding written
  half-second e q = less_none (written a) ∙ ap (less_bytes (written a)) (sym (half_empty (decode b) (sym e ∙ q)))

  pub half-first : {r : Option ℕ} {p n : ℕ} → r ≡ half_of (decode a) → r ≡ Some p → n ≡ length (written b) → ltb 0 n ≡ less_bytes (written a) (written b)
  unfolding written
  half-first e q s = ap (ltb 0) s ∙ less_empty (written b) ∙ ap (λ (l : List ℕ). less_bytes l (written b)) (sym (half_empty (decode a) (sym e ∙ q)))

  pub plain-order : {t r : Bool} → t ≡ (is_plain a && is_plain b) → t ≡ true → r ≡ less_bytes a b → r ≡ less_bytes (written a) (written b)
  plain-order e q s = let h = and_both (is_plain a) (is_plain b) (sym e ∙ q) in s ∙ ap (less_bytes a) (sym (plain-written b h.1)) ∙ ap (λ (l : List ℕ). less_bytes l (written b)) (sym (plain-written a h.0))

-- ---- the loop
pub record Racing (a b : List ℕ) (i o j p : ℕ) : Type 0 where
  pub first : Place a i o
  pub second : Place b j p
  pub x : List ℕ
  pub y : List ℕ
  pub left : tail a i o ≡ whole x
  pub right : tail b j p ≡ whole y
  pub same : less_bytes x y ≡ less_bytes (written a) (written b)

pub racing : (a b : List ℕ) → half_of (decode a) ≡ None → half_of (decode b) ≡ None → Racing a b 0 0 0 0
unfolding written
racing a b e f = record {
  first = start-place a;
  second = start-place b;
  x = written a;
  y = written b;
  left = start-tail a ∙ whole_of (decode a) e;
  right = start-tail b ∙ whole_of (decode b) f;
  same = refl;
}

record Tail (b : ℕ) (x : List ℕ) (t : Decoded) : Type 0 where
  pub rest : List ℕ
  pub is : t ≡ whole rest
  pub whole_is : x ≡ b ∷ rest

tail_of : (b : ℕ) (x : List ℕ) (t : Decoded) → whole x ≡ front (b ∷ []) t → Tail b x t
unfolding front
tail_of b x (whole u) e = record { rest = u; is = refl; whole_is = cc }
tail_of b x (half p) e = absurd (let z : ◌≡◌ {A = ℕ} 0 1 = cc in omega arith)

whole_same : {a b : List ℕ} → whole a ≡ whole b → a ≡ b
whole_same e = cc

module _ {a b : List ℕ} {i o j p : ℕ} (v : Racing a b i o j p) where
  pub race_no {ℓ} : {X : Type ℓ} → tail a i o ≡ half 0 → X
  race_no e = absurd (let q = v.left in let z : ◌≡◌ {A = ℕ} 0 1 = cc in omega arith)

  race-none {ℓ} : {X : Type ℓ} → tail b j p ≡ half 0 → X
  race-none e = absurd (let q = v.right in let z : ◌≡◌ {A = ℕ} 0 1 = cc in omega arith)

  race-end : tail b j p ≡ whole [] → false ≡ less_bytes (written a) (written b)
  race-end e = less_none v.x ∙ ap (less_bytes v.x) (whole_same (sym e ∙ v.right)) ∙ v.same

  -- the second does not go on
  pub race-late : (r : Step) → r ≡ step_at b j p → ((y k l : ℕ) → r ≡ Byte y k l → ⊥) → false ≡ less_bytes (written a) (written b)
  race-late (Byte y k l) e n = absurd (n y k l refl)
  race-late Stop e n = race-none (stopped b j p v.second e refl)
  race-late Over e n = race-end (over b j p v.second e refl)

  module _ {c j₂ p₂ : ℕ} (w : Stepped b j p c j₂ p₂) where
    ahead : Tail c v.y (tail b j₂ p₂)
    ahead = tail_of c v.y (tail b j₂ p₂) (sym v.right ∙ w.same)

    pub race-short : tail a i o ≡ whole [] → true ≡ less_bytes (written a) (written b)
    unfolding less_bytes
    race-short e = ap (λ (l : List ℕ). less_bytes [] l) (sym ahead.whole_is) ∙ ap (λ (l : List ℕ). less_bytes l v.y) (whole_same (sym e ∙ v.left)) ∙ v.same

    module _ {d i₂ o₂ : ℕ} (u : Stepped a i o d i₂ o₂) where
      mine : Tail d v.x (tail a i₂ o₂)
      mine = tail_of d v.x (tail a i₂ o₂) (sym v.left ∙ u.same)

      both_on : less_bytes (d ∷ mine.rest) (c ∷ ahead.rest) ≡ less_bytes (written a) (written b)
      both_on = ap (less_bytes (d ∷ mine.rest)) (sym ahead.whole_is) ∙ ap (λ (l : List ℕ). less_bytes l v.y) (sym mine.whole_is) ∙ v.same

      pub race_differs : (d ≡ c → ⊥) → ltb d c ≡ less_bytes (written a) (written b)
      race_differs n = sym (less_differs d c mine.rest ahead.rest n) ∙ both_on

      pub race-more : d ≡ c → Racing a b i₂ o₂ j₂ p₂
      race-more e = record {
        first = u.place;
        second = w.place;
        x = mine.rest;
        y = ahead.rest;
        left = mine.is;
        right = ahead.is;
        same = sym (less-same d c mine.rest ahead.rest e) ∙ both_on;
      }
