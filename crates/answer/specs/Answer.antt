-- An answer: a refusal (paper 01, "Refusal numbers"), or what was asked for.
use Rattle.std.specs.Prelude.{ℕ, Bool, true, false, List, [], ◌∷◌}

-- a refusal: the paper's number, and what it tells besides (paper 02, K1: a place; K9: a trace's number)
pub record Refusal : Type 0 where
  pub number : ℕ
  pub tells : List ℕ

pub data Answer (A : Type 0) : Type 0 where
  refused : Refusal → Answer A
  gives : A → Answer A

-- a number alone
abbrev pub only : ℕ → Refusal
only n = record { number = n; tells = [] }

-- a number and a place: paper 02, K1, "Split it, with the byte place"
abbrev pub placed : ℕ → ℕ → Refusal
placed n p = record { number = n; tells = p ∷ [] }

-- `require test n a`: refusal n unless the test holds, else a. A chain of these is an order of refusals.
unfoldable pub require : {A : Type 0} → Bool → ℕ → Answer A → Answer A
require true n a = a
require false n a = refused (only n)

-- go on with what an answer gives
unfoldable pub and_then : {A B : Type 0} → Answer A → (A → Answer B) → Answer B
and_then (refused n) f = refused n
and_then (gives a) f = f a
