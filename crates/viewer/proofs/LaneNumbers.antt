-- Lanes by number.
use mathlib.Core.Path.{◌≡◌, refl, subst}
use mathlib.Core.List.{List}
use Prim.Native.Nat.{ℕ, zero, suc}
use Rattle.answer.specs.Answer.{Answer}
use Rattle.rules.specs.declared.LaneKind.{LaneKind}
use Rattle.rules.specs.declared.LaneKind.TheVariants as kind
use Rattle.rules.specs.Questions.{Value, ask_lane}
use Rattle.questions.specs.Meaning.{Asked}
use Rattle.viewer.specs.Lanes.{kind_at}

pub other_kind : (n : ℕ) → (n ≡ 0 → ⊥) → (n ≡ 1 → ⊥) → kind.Asked ≡ kind_at n
unfolding kind_at
other_kind zero h k = absurd (h refl)
other_kind (suc zero) h k = absurd (k refl)
other_kind (suc (suc n)) h k = refl

-- by the kind of a number
pub lane-promise : (i n p : List ℕ) (k k' : LaneKind) (m : List ℕ) (a : Answer Value) (I : Type 0) → Asked (ask_lane i n p k) m a I → k ≡ k' → Asked (ask_lane i n p k') m a I
lane-promise i n p k k' m a I h e = subst (λ (x : LaneKind). Asked (ask_lane i n p x) m a I) e h
