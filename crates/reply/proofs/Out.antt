-- Values written to the front of an array.
use mathlib.Core.Path.{◌≡◌, refl, sym, ap, ◌∙◌}
use mathlib.Core.List.{List, [], ◌∷◌, ◌++◌}
use Prim.Native.Nat.{ℕ, zero, suc, min}
use native.Mathlib.Omega.{arith}
use lib.ListN.{length, take, drop}
use Rattle.answer.specs.Answer.{placed}
use Rattle.reply.specs.Reply.{Reply, refusal_code, written, Replied, refuses, says}

pub nothing : (out : List ℕ) → out ≡ written [] out
unfolding written
nothing [] = refl
nothing (o ∷ out) = ap (λ (l : List ℕ). o ∷ l) (nothing out)

-- as many values as there is room for, and the rest of the array
pub front : (vs out : List ℕ) (n : ℕ) → n ≡ min (length vs) (length out) → take n vs ++ drop n out ≡ written vs out
unfolding written
front [] out n e = let z : n ≡ 0 = omega (arith, e) in rw z (nothing out)
front (v ∷ vs) [] n e = let z : n ≡ 0 = omega (arith, e) in rw z refl
front (v ∷ vs) (o ∷ out) zero e = absurd (omega (arith, e))
front (v ∷ vs) (o ∷ out) (suc n) e = ap (λ (l : List ℕ). v ∷ l) (front vs out n (omega (arith, e)))

pub told : (vs out part : List ℕ) (n : ℕ) → n ≡ min (length vs) (length out) → part ≡ take n vs → Replied (says vs) out 0 (part ++ drop n out)
told vs out part n e h = record { number = refl; array = ap (λ (l : List ℕ). l ++ drop n out) h ∙ front vs out n e }

-- a refusal alters nothing
pub refusal : (x : Reply) (n : ℕ) (out : List ℕ) → x ≡ refuses n → Replied x out n out
refusal x n out e = record { number = ap (λ (y : Reply). y.number) (sym e); array = nothing out ∙ ap (λ (y : Reply). written y.values out) (sym e) }

-- a refusal's number by what it is
pub numbered_as : {n m k : ℕ} (p : ℕ) → n ≡ m → k ≡ refusal_code (placed n p) → k ≡ refusal_code (placed m p)
numbered_as p e h = h ∙ ap (λ (n : ℕ). refusal_code (placed n p)) e

pub reply_as : (x y : Reply) (out : List ℕ) (r : ℕ) (out' : List ℕ) → x ≡ y → Replied y out r out' → Replied x out r out'
reply_as x y out r out' e h = record { number = h.number ∙ ap (λ (z : Reply). z.number) (sym e); array = h.array ∙ ap (λ (z : Reply). written z.values out) (sym e) }
