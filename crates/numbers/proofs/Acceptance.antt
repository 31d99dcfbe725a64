-- A definition of the form "a word of the grammar that keeps its limits, and then its value", both ways.
use Rattle.std.specs.Prelude.{None, Some}
use mathlib.Core.Path.{◌≡◌, refl, ap}
use mathlib.Core.Logic.{◌↔◌}
use mathlib.Core.List.{List}
use mathlib.Core.Bool.{Bool, true, false, cond, ◌&&◌}
use Prim.Native.Nat.{ℕ}
use native.Mathlib.Omega.{arith}
use Rattle.abnf.specs.Abnf.{Abnf, ◌∈◌}
use Rattle.abnf.specs.Accepts.{accepts}
use Rattle.abnf.proofs.Accepts.{and_both, accepts-word, word-accepts}

some_when : {A : Type 0} (b : Bool) (v z : A) → cond b (Some v) None ≡ Some z → (b ≡ true) × (v ≡ z)
some_when true v z e = (refl, let i : v ≡ z = cc in i)
some_when false v z e = let i : ◌≡◌ {A = ℕ} 0 1 = cc in absurd (omega arith)

pub word_value : {A : Type 0} (g : Abnf ⊥) (s : List ℕ) (limits : Bool) (v z : A) → (cond (accepts g s && limits) (Some v) None ≡ Some z) ↔ ((s ∈ g) × (limits ≡ true) × (v ≡ z))
word_value g s limits v z = (to, from)
  where
    to : cond (accepts g s && limits) (Some v) None ≡ Some z → (s ∈ g) × (limits ≡ true) × (v ≡ z)
    to e =
        let p = some_when (accepts g s && limits) v z e in
        let q = and_both (accepts g s) limits p.0 in
        (accepts-word g s q.0, q.1, p.1)

    from : (s ∈ g) × (limits ≡ true) × (v ≡ z) → cond (accepts g s && limits) (Some v) None ≡ Some z
    from h = rw (word-accepts g s h.0, h.1) (ap Some h.2)
