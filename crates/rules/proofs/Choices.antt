-- Choices one after another, and the five states by their codes.
use Rattle.std.specs.Prelude.{Option, None, Some}
use Prim.Native.Nat.{ℕ, zero, suc, ◌≤◌}
use native.Mathlib.Nat.{not-suc-le-zero, le_of_suc-le-suc}
use native.Mathlib.Omega.{arith}
use mathlib.Core.Path.{◌≡◌, refl, sym, ◌∙◌}
use mathlib.Core.Bool.{Bool, true, false, cond}
use Rattle.rules.specs.declared.DeviceState.TheVariants.{Lost}
use Rattle.rules.specs.States.{state_at}

pub told : {r b v : Bool} → r ≡ b → r ≡ v → b ≡ v
told e t = sym e ∙ t

pub pick_yes : {A : Type 0} {t : Bool} {a : A} (b : A) → t ≡ true → a ≡ cond t a b
pick_yes b e = rw e

pub pick_no : {A : Type 0} {t : Bool} {r b : A} (a : A) → t ≡ false → r ≡ b → r ≡ cond t a b
pick_no a e f = rw e f

pub not-some : {A : Type 0} (x : Option A) → ((y : A) → x ≡ Some y → ⊥) → x ≡ None
not-some None h = refl
not-some (Some y) h = absurd (h y refl)

pub other-state : (n : ℕ) → 4 ≤ n → Lost ≡ state_at n
unfolding state_at
other-state zero h = absurd (not-suc-le-zero h)
other-state (suc zero) h = absurd (not-suc-le-zero (le_of_suc-le-suc h))
other-state (suc (suc zero)) h = absurd (omega arith)
other-state (suc (suc (suc zero))) h = absurd (omega arith)
other-state (suc (suc (suc (suc zero)))) h = refl
other-state (suc (suc (suc (suc (suc n))))) h = refl
