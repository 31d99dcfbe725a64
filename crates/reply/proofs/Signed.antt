-- The bits of a whole number.
use Prim.Native.Nat.{ℕ, suc, ◌+◌, ◌-◌, ◌^◌, ◌≤◌, ◌<◌}
use native.Mathlib.Omega.{arith}
use native.Mathlib.Decide.{dec_lt}
use mathlib.Core.Path.{◌≡◌, refl, sym, ap, subst, ◌∙◌}
use lib.IntN.{ℤ, pos, negsuc}
use mir.Syntax.{w64}
use mir.Val.{SFits, to_z, of_z}
use mir.ValLaws.{to_z-of_z}
use Rattle.numbers.specs.Whole.{stands}
use Rattle.numbers.proofs.Difference.{sub_lt, sub_ge}
use Rattle.reply.specs.Reply.{twos_complement}

-- as the language has them
as_bits : (z : ℤ) → of_z w64 z ≡ twos_complement z
unfolding twos_complement
as_bits (pos n) = refl
as_bits (negsuc n) = refl

-- the two branches of `twos_complement`
pub bits_below : (v : ℕ) → v < 2 ^ 63 → v + 2 ^ 63 ≡ twos_complement (stands (2 ^ 63) v)
unfolding twos_complement
bits_below v h = let e : v + 2 ^ 63 ≡ 2 ^ 64 - suc (2 ^ 63 - suc v) = omega arith in e ∙ sym (ap twos_complement (sub_lt v (2 ^ 63) h))

pub bits_above : (v : ℕ) → 2 ^ 63 ≤ v → v - 2 ^ 63 ≡ twos_complement (stands (2 ^ 63) v)
unfolding twos_complement
bits_above v h = sym (ap twos_complement (sub_ge v (2 ^ 63) h))

signed-fits : (v : ℕ) → v < 2 ^ 64 → SFits w64 (stands (2 ^ 63) v)
signed-fits v h = pick (dec_lt v (2 ^ 63))
  where
    pick : Dec (v < 2 ^ 63) → SFits w64 (stands (2 ^ 63) v)
    pick (yes l) = subst (SFits w64) (sym (sub_lt v (2 ^ 63) l)) (record { sfits = omega arith })
    pick (no l) = subst (SFits w64) (sym (sub_ge v (2 ^ 63) (omega arith))) (record { sfits = omega arith })

pub read-signed : (v : ℕ) → v < 2 ^ 64 → to_z w64 (twos_complement (stands (2 ^ 63) v)) ≡ stands (2 ^ 63) v
read-signed v h = ap (to_z w64) (sym (as_bits (stands (2 ^ 63) v))) ∙ to_z-of_z w64 (stands (2 ^ 63) v) (signed-fits v h)
