-- The rounded value is held against the bounds: the returns of `in_range`.
use Rattle.std.specs.Prelude.{None, Option, Some}
use Rattle.std.specs.Option.{option_or}
use Prim.Native.Nat.{ℕ, zero, suc, ◌+◌}
use mathlib.Core.Path.{◌≡◌, refl, ap, ◌∙◌, sym}
use mathlib.Core.Bool.{Bool, true}
use native.Mathlib.Omega.{arith}
use lib.IntN.{ℤ, sub_ℕ}
use Rattle.std.specs.declared.num.NonZeroU64.{NonZeroU64}
use Rattle.numbers.specs.declared.steps.Move.{Move}
use Rattle.numbers.specs.Whole.{stands}
use Rattle.numbers.specs.Step.{rounded, in_bounds, base, steps, in_range, limit, size}
use Rattle.numbers.proofs.Difference.{sub_eq}

pub base_or : (min max : Option ℕ) {b : Option ℕ} → b ≡ option_or min max → (k : ℕ) → limit k b ≡ base (limit k min) (limit k max)
base_or None max e k = rw e
base_or (Some m) max e k = rw e

pub some-size : {step : Option NonZeroU64} (s : NonZeroU64) → step ≡ Some s → size step ≡ 0 → ⊥
some-size s e h = let n : s.value ≡ 0 = ap size (sym e) ∙ h in omega (arith, s.ok)

-- a rounding, by a step that is the same
pub at_step : (b v : ℕ) (m : Move) {n s : ℕ} → ((k : ℕ) → rounded (sub_ℕ b k) (sub_ℕ v k) n ≡ sub_ℕ (v + m.add) (k + m.sub)) → s ≡ n → (k : ℕ) → rounded (sub_ℕ b k) (sub_ℕ v k) s ≡ sub_ℕ (v + m.add) (k + m.sub)
at_step b v m h e k = rw e (h k)

module _ (v s : ℕ) (min max : Option ℕ) (r : Bool) where
  unmoved : (k : ℕ) → sub_ℕ (v + 0) (k + 0) ≡ stands k v
  unmoved k = sub_eq (v + 0) (k + 0) v k (omega arith)

  pub no_step : s ≡ 0 → ((k : ℕ) → r ≡ in_bounds (limit k min) (limit k max) (sub_ℕ (v + 0) (k + 0))) → (k : ℕ) → r ≡ in_range (limit k min) (limit k max) s (stands k v)
  unfolding in_range
  no_step e h k = rw e (h k ∙ ap (λ (z : ℤ). in_bounds (limit k min) (limit k max) z) (unmoved k))

  stepping : (s ≡ 0 → ⊥) → (k : ℕ) → in_range (limit k min) (limit k max) s (stands k v) ≡ steps (base (limit k min) (limit k max)) (limit k min) (limit k max) s (stands k v)
  unfolding in_range
  stepping e k = some-step s e
    where
      some-step : (n : ℕ) → (n ≡ 0 → ⊥) → in_range (limit k min) (limit k max) n (stands k v) ≡ steps (base (limit k min) (limit k max)) (limit k min) (limit k max) n (stands k v)
      some-step zero i = absurd (i refl)
      some-step (suc n) i = refl

  module _ (b : Option ℕ) (e : s ≡ 0 → ⊥) (is_base : (k : ℕ) → limit k b ≡ base (limit k min) (limit k max)) where
    pub no-base : b ≡ None → (k : ℕ) → true ≡ in_range (limit k min) (limit k max) s (stands k v)
    unfolding steps
    no-base o k = sym (stepping e k ∙ rw (← is_base k, o))

    pub stepped : (n : ℕ) (m : Move) → b ≡ Some n → ((k : ℕ) → rounded (sub_ℕ n k) (sub_ℕ v k) s ≡ sub_ℕ (v + m.add) (k + m.sub)) → ((k : ℕ) → r ≡ in_bounds (limit k min) (limit k max) (sub_ℕ (v + m.add) (k + m.sub))) → (k : ℕ) → r ≡ in_range (limit k min) (limit k max) s (stands k v)
    unfolding steps
    stepped n m o to h k = sym (stepping e k ∙ rw (← is_base k, o, to k) (sym (h k)))
