-- What holds of everything that an answer may give.
use Prim.Native.Nat.{ℕ}
use mathlib.Core.Path.{◌≡◌, refl, subst}
use mathlib.Core.Bool.{Bool, true, false}
use Rattle.answer.specs.Answer.{Answer, refused, gives, require, and_then}

abbrev pub Given : {A : Type 0} → (A → Type 0) → Answer A → Type 0
Given P (refused n) = true ≡ true
Given P (gives x) = P x

module _ {A : Type 0} (P : A → Type 0) where
  pub given : {a : Answer A} {x : A} → Given P a → a ≡ gives x → P x
  given h e = subst (Given P) e h

  pub given-require : (t : Bool) (n : ℕ) (a : Answer A) → (t ≡ true → Given P a) → Given P (require t n a)
  unfolding require
  given-require true n a h = h refl
  given-require false n a h = refl

  pub given_then : {B : Type 0} (b : Answer B) (f : B → Answer A) → ((y : B) → b ≡ gives y → Given P (f y)) → Given P (and_then b f)
  unfolding and_then
  given_then (refused n) f h = refl
  given_then (gives y) f h = h y refl

  pub given_choice : (t : Bool) (a b : Answer A) → Given P a → Given P b → Given P (elim t as (λ x. Answer A) [ true ↦ a | false ↦ b ])
  given_choice true a b p q = p
  given_choice false a b p q = q
