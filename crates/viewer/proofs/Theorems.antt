-- What the interface promises beyond the contracts of its calls.
use Prim.Native.Nat.{ℕ}
use mathlib.Core.Path.{◌≡◌}
use mathlib.Core.Logic.{◌↔◌}
use Rattle.answer.specs.Answer.{Refusal, Answer, refused}
use Rattle.viewer.specs.Calls.{NumberedCall}
use Rattle.viewer.proofs.Zero.{zero-answers}

-- include/homie5.h: "It is 0 (HOMIE5_OK) where the call answers". Of every such call: the number of an answer that it may give is 0 exactly where the answer is no refusal.
-- Which number a refusal has is in the contracts.
pub zero : {A B : Type 0} {Promised : A → Type 0} {number : A → ℕ} {says : A → Answer B} → NumberedCall A B Promised number says → (a : A) → Promised a → (number a ≡ 0) ↔ ((r : Refusal) → says a ≡ refused r → ⊥)
zero = zero-answers
