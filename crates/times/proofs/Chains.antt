-- Tests one after another: where one fails the answer is no, else the next decides.
use Prim.Native.Nat.{ℕ, ◌+◌}
use native.Mathlib.Omega.{arith}
use mathlib.Core.Path.{◌≡◌, sym, ap, ◌∙◌}
use mathlib.Core.Bool.{Bool, true, false, not, ◌&&◌, cond}
use lib.Dec.{eqb}
use borrow.Author.Tests.{not-true, not-false, eq-eqb, ne_eqb}

pub stop : {a : Bool} (b : Bool) → a ≡ false → false ≡ (a && b)
stop b e = rw e

pub go : {a b r : Bool} → a ≡ true → r ≡ b → r ≡ (a && b)
go e f = rw e f

-- what a call answered, as what its contract says
pub no : {r b : Bool} → r ≡ b → not r ≡ true → b ≡ false
no {r} e t = sym e ∙ not-true r t

pub yes : {r b : Bool} → r ≡ b → not r ≡ false → b ≡ true
yes {r} e t = sym e ∙ not-false r t

pub told : {r b v : Bool} → r ≡ b → r ≡ v → b ≡ v
told e t = sym e ∙ t

pub cond_yes : {t a r : Bool} (b : Bool) → t ≡ true → r ≡ a → r ≡ cond t a b
cond_yes b e f = rw e f

pub cond_no : {t b r : Bool} (a : Bool) → t ≡ false → r ≡ b → r ≡ cond t a b
cond_no a e f = rw e f

-- a place that is d past n
pub none : {e : ℕ} (n d : ℕ) → e ≡ n + d → e ≡ n → not (eqb d 0) ≡ false
none {e} n d p q = ap not (eq-eqb d 0 (omega arith))

pub some : {e : ℕ} (n d : ℕ) → e ≡ n + d → (e ≡ n → ⊥) → not (eqb d 0) ≡ true
some {e} n d p q = ap not (ne_eqb d 0 (λ z. q (omega arith)))
