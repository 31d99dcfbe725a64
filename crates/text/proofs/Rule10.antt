-- Rule 10: UTF-8 that begins with no byte order mark.
use Prim.Native.Nat.{ℕ}
use mathlib.Core.Path.{◌≡◌, refl, sym, ap, ◌∙◌}
use mathlib.Core.Logic.{◌↔◌}
use mathlib.Core.List.{List, [], ◌∷◌, ◌++◌}
use mathlib.Core.Bool.{Bool, true, false, not, and-true, false≢true}
use lib.ListN.{take, drop, take-append-drop}
use lib.Dec.{eqb}
use borrow.Author.Tests.{eq-eqb, ne_eqb, eqb-true, eqb-false}
use Rattle.std.specs.Cmp.Lexicographic.{pointwise}
use Rattle.std.specs.List.{starts_with}
use Rattle.abnf.specs.Abnf.{◌∈◌}
use Rattle.text.specs.Bytes.{eq_bytes}
use Rattle.text.specs.Utf8.{UTF8-octets, is_utf8, starts_bom, is_text}
use Rattle.text.proofs.Bytes.{both, and_both, eq_bytes-true}
use Rattle.text.proofs.Utf8.{is_utf8_is}

eqb_sym : (x y : ℕ) → eqb x y ≡ eqb y x
eqb_sym x y = both (eqb y x)
    (λ e. eq-eqb x y (sym (eqb-true y x e)) ∙ sym e)
    (λ e. ne_eqb x y (λ q. eqb-false y x e (sym q)) ∙ sym e)

pointwise_eq : (a b : List ℕ) → pointwise eqb a b ≡ eq_bytes b a
unfolding eq_bytes
pointwise_eq [] [] = refl
pointwise_eq [] (y ∷ b) = refl
pointwise_eq (x ∷ a) [] = refl
pointwise_eq (x ∷ a) (y ∷ b) = cc (eqb_sym x y, pointwise_eq a b)

pub bom_is : (s : List ℕ) → starts_with eqb s (0xEF ∷ 0xBB ∷ 0xBF ∷ []) ≡ starts_bom s
unfolding starts_bom
bom_is s = pointwise_eq (0xEF ∷ 0xBB ∷ 0xBF ∷ []) (take 3 s)

module _ (t : Bool) (s : List ℕ) (e : t ≡ starts_bom s) where
  pub text-utf8 : (r : Bool) → t ≡ false → r ≡ is_utf8 s → r ≡ is_text s
  unfolding is_text
  text-utf8 r p q = q ∙ sym (rw (sym e ∙ p) (and-true (is_utf8 s)))

-- the mark, and anything after it
bom_yes : (s t : List ℕ) → s ≡ 0xEF ∷ 0xBB ∷ 0xBF ∷ t → starts_bom s ≡ true
unfolding starts_bom eq_bytes
bom_yes s t e = rw e

bom_then : (s : List ℕ) → starts_bom s ≡ true → s ≡ 0xEF ∷ 0xBB ∷ 0xBF ∷ drop 3 s
unfolding starts_bom
bom_then s e = sym (take-append-drop 3 s) ∙ ap (λ (l : List ℕ). l ++ drop 3 s) (eq_bytes-true (take 3 s) (0xEF ∷ 0xBB ∷ 0xBF ∷ []) e)

pub is_text_is : (s : List ℕ) → (is_text s ≡ true) ↔ ((s ∈ UTF8-octets) × ((t : List ℕ) → s ≡ 0xEF ∷ 0xBB ∷ 0xBF ∷ t → ⊥))
unfolding is_text
is_text_is s = (
  (λ e. let q = and_both (is_utf8 s) (not (starts_bom s)) e in ((is_utf8_is s).0 q.0, λ t f. false≢true (rw (bom_yes s t f) at q.1))),
  (λ h. rw ((is_utf8_is s).1 h.0) (both (starts_bom s) (λ e. absurd (h.1 (drop 3 s) (bom_then s e))) (λ e. rw e))),
)
