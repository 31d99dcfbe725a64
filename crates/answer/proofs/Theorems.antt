-- What a chain of requirements answers: the first one that fails gives its number, and where none fails the rest stands.
use Prim.Native.Nat.{ℕ}
use mathlib.Core.Path.{◌≡◌, refl, ap}
use mathlib.Core.Bool.{Bool, true, false}
use mathlib.Core.List.{[], ◌∷◌}
use Rattle.answer.specs.Answer.{Answer, refused, require, and_then, only, Refusal, placed}

pub require-holds : {A : Type 0} (t : Bool) (n : ℕ) (a : Answer A) → t ≡ true → require t n a ≡ a
unfolding require
require-holds t n a e = rw e

pub require-fails : {A : Type 0} (t : Bool) (n : ℕ) (a : Answer A) → t ≡ false → require t n a ≡ refused (only n)
unfolding require
require-fails t n a e = rw e

-- of two that fail, the first is told
pub first-refusal : {A : Type 0} (m n : ℕ) (a : Answer A) → require false m (require false n a) ≡ refused (only m)
unfolding require
first-refusal m n a = refl

-- answers of two refusals are the same where the refusals are
pub same-refusal : {A : Type 0} {r r' : Refusal} → ◌≡◌ {A = Answer A} (refused r) (refused r') → r ≡ r'
same-refusal e = cc

pub same_number : {A : Type 0} {r r' : Refusal} → ◌≡◌ {A = Answer A} (refused r) (refused r') → r.number ≡ r'.number
same_number e = ap (λ (x : Refusal). x.number) (same-refusal e)

pub same_place : {A : Type 0} {m n p q : ℕ} → ◌≡◌ {A = Answer A} (refused (placed m p)) (refused (placed n q)) → p ≡ q
same_place e = head (ap (λ (x : Refusal). x.tells) (same-refusal e))
  where
    head : {a b : ℕ} → a ∷ [] ≡ b ∷ [] → a ≡ b
    head h = cc

-- what is refused is refused with all that it tells, whatever was to follow
pub then-refused : {A B : Type 0} (r : Refusal) (f : A → Answer B) → and_then (refused r) f ≡ refused r
unfolding and_then
then-refused r f = refl
