-- A whole topic: its answer by the first two levels and the form of the rest.
use Prim.Native.Nat.{ℕ}
use mathlib.Core.Path.{◌≡◌, refl, sym, ap, ◌∙◌}
use mathlib.Core.List.{List, [], ◌∷◌}
use mathlib.Core.Bool.{Bool, true, false}
use native.Mathlib.Omega.{arith}
use Rattle.answer.specs.Answer.{Answer, refused, gives, require, only, Refusal}
use Rattle.answer.proofs.Theorems.{same_number}
use Rattle.text.specs.Bytes.{eq_bytes}
use Rattle.text.specs.Split.{split}
use Rattle.text.proofs.Bytes.{both, eq_bytes-true, eq_bytes-false, eq_bytes-refl}
use Rattle.topic.specs.Words.{slash, five}
use Rattle.topic.specs.Form.{Form}
use Rattle.topic.specs.Topics.{when◌give◌else◌, form_of, read_levels, read_topic}
use Rattle.topic.specs.Table.{HasForm, HasTopicForm}
use Rattle.topic.proofs.Table.{complete, sound}

-- ---- the rest has a form, or 9

-- the only refusal
OnlyNine : Answer Form → Type 0
OnlyNine a = (n : Refusal) → a ≡ refused n → n ≡ only 9

only_row : (b : Bool) (f : Form) (a : Answer Form) → OnlyNine a → OnlyNine (when b give f else a)
unfolding OnlyNine when◌give◌else◌
only_row true f a h n e = let z : ◌≡◌ {A = ℕ} 0 1 = cc in absurd (omega arith)
only_row false f a h n e = h n e

only_nine : (ls : List (List ℕ)) → OnlyNine (form_of ls)
unfolding OnlyNine form_of
only_nine ls =
    only_row _ _ _ (only_row _ _ _ (only_row _ _ _ (only_row _ _ _ (only_row _ _ _ (only_row _ _ _ (only_row _ _ _ (only_row _ _ _ (only_row _ _ _ (λ n e. cc)))))))))

pub no-form : (ls : List (List ℕ)) → ((f : Form) → HasForm ls f → ⊥) → form_of ls ≡ refused (only 9)
unfolding OnlyNine
no-form ls h = go (form_of ls) refl
  where
    go : (a : Answer Form) → form_of ls ≡ a → form_of ls ≡ refused (only 9)
    go (refused n) e = rw (only_nine ls n e) at e
    go (gives f) e = absurd (h f (sound ls f e))

pub nine-none : (ls : List (List ℕ)) (f : Form) → form_of ls ≡ refused (only 9) → HasForm ls f → ⊥
nine-none ls f e h = let g = complete h in let z : ◌≡◌ {A = ℕ} 0 1 = cc in omega arith

-- ---- the first two levels

pub read-form : (d : List ℕ) (ls : List (List ℕ)) → read_levels d (d ∷ five ∷ ls) ≡ form_of ls
unfolding read_levels require
read-form d ls = rw (eq_bytes-refl d, eq_bytes-refl five)

pub read_below : (d t : List ℕ) (ls : List (List ℕ)) → split slash t ≡ d ∷ five ∷ ls → read_topic d t ≡ form_of ls
unfolding read_topic
read_below d t ls e = rw e (read-form d ls)

-- they are the domain and `5`, or not
module _ {X : Type 0} (d t : List ℕ) (yes : (ls : List (List ℕ)) → split slash t ≡ d ∷ five ∷ ls → X)
    (no : ((ls : List (List ℕ)) → split slash t ≡ d ∷ five ∷ ls → ⊥) → read_topic d t ≡ refused (only 8) → X) where
  by-levels : (ls : List (List ℕ)) → split slash t ≡ ls → X
  unfolding read_topic read_levels require
  by-levels [] e = no (λ ls q. let z : ◌≡◌ {A = ℕ} 0 1 = cc in omega arith) (rw e)
  by-levels (l ∷ []) e = no (λ ls q. let z : ◌≡◌ {A = ℕ} 0 1 = cc in omega arith) (rw e)
  by-levels (l ∷ (m ∷ ls)) e = both (eq_bytes l d)
      (λ p. both (eq_bytes m five)
      (λ q. yes ls (e ∙ rw (eq_bytes-true l d p, eq_bytes-true m five q)))
      (λ q. no (λ k r. eq_bytes-false m five q (cc)) (rw (e, p, q))))
      (λ p. no (λ k r. eq_bytes-false l d p (cc)) (rw (e, p)))

  pub read_cases : X
  read_cases = by-levels (split slash t) refl

-- ---- the three answers

pub read-gives : (d t : List ℕ) (f : Form) → read_topic d t ≡ gives f → HasTopicForm d t f
read-gives d t f e = read_cases d t
    (λ ls q. record { rest = ls; levels = q; form = sound ls f (sym (read_below d t ls q) ∙ e) })
    (λ n q. let z : ◌≡◌ {A = ℕ} 0 1 = cc in absurd (omega arith))

pub gives-read : (d t : List ℕ) (f : Form) → HasTopicForm d t f → read_topic d t ≡ gives f
gives-read d t f h = read_below d t h.rest h.levels ∙ complete h.form

pub read_eight : (d t : List ℕ) → read_topic d t ≡ refused (only 8) → (ls : List (List ℕ)) → split slash t ≡ d ∷ five ∷ ls → ⊥
unfolding OnlyNine
read_eight d t e ls q = let z : ◌≡◌ {A = ℕ} 8 9 = ap (λ (r : Refusal). r.number) (only_nine ls (only 8) (sym (read_below d t ls q) ∙ e)) in omega arith

pub eight-read : (d t : List ℕ) → ((ls : List (List ℕ)) → split slash t ≡ d ∷ five ∷ ls → ⊥) → read_topic d t ≡ refused (only 8)
eight-read d t h = read_cases d t (λ ls q. absurd (h ls q)) (λ n q. q)

pub read_nine : (d t : List ℕ) → read_topic d t ≡ refused (only 9) → (ls : List (List ℕ)) × (split slash t ≡ d ∷ five ∷ ls) × ((f : Form) → HasForm ls f → ⊥)
read_nine d t e = read_cases d t
    (λ ls q. (ls, q, λ f h. nine-none ls f (sym (read_below d t ls q) ∙ e) h))
    (λ n q. let z : ◌≡◌ {A = ℕ} 8 9 = same_number {A = Form} {r = only 8} {r' = only 9} (sym q ∙ e) in absurd (omega arith))

pub nine-read : (d t : List ℕ) (ls : List (List ℕ)) → split slash t ≡ d ∷ five ∷ ls → ((f : Form) → HasForm ls f → ⊥) → read_topic d t ≡ refused (only 9)
nine-read d t ls q h = read_below d t ls q ∙ no-form ls h
