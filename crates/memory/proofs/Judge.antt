-- The two halves of a judge's contract: yes if it holds, no if it does not.
use Prim.Native.Nat.{ℕ, ◌≤◌, ◌<◌}
use native.Mathlib.Omega.{arith}
use mathlib.Core.Path.{◌≡◌, sym, subst}
use mathlib.Core.Bool.{Bool, true, false}
use lib.Dec.{T, ltb, eqb}
use borrow.Author.Tests.{ltb-true, ltb-false, eqb-true, eqb-false}

pub ft : {A : Type 0} → false ≡ true → A
ft e = absurd (subst T (sym e) tt)

pub tf : {A : Type 0} → true ≡ false → A
tf e = ft (sym e)

abbrev pub Decides : Bool → Type 0 → Type 0
Decides r P = (r ≡ true → P) × (r ≡ false → P → ⊥)

pub denied : {P : Type 0} → (P → ⊥) → Decides false P
denied n = (λ e. ft e, λ _. n)

pub by_equal : {P : Type 0} (a b : ℕ) → (a ≡ b → P) → (P → a ≡ b) → Decides (eqb a b) P
by_equal a b f g = (λ e. f (eqb-true a b e), λ e p. eqb-false a b e (g p))
