-- What the scanners ensure, passed on.
use Rattle.std.specs.Prelude.{Err, Ok, Result, IsErrAnd}
use Prim.Native.Nat.{ℕ, ◌≤◌, ◌<◌}
use native.Mathlib.Omega.{arith}
use mathlib.Core.Path.{◌≡◌, ◌∙◌, sym, ap, subst}
use Rattle.json_text.specs.Bytes.{EndsWithin, Scanned, Between, Moved}

-- an error that `?` passes on
pub raised : {x : ℕ} (r : Result ℕ ℕ) → IsErrAnd r (λ y. y ≡ x) → r ≡ Err x
raised (Ok y) e = elim e [ ]
raised (Err y) e = ap Err e

pub on-error : {want : Result ℕ ℕ} {lo hi x : ℕ} {r : Result ℕ ℕ} → IsErrAnd r (λ y. y ≡ x) → Scanned want lo hi (Err x) → Scanned want lo hi r
on-error {want} {lo} {hi} {x} {r} e w = subst (Scanned want lo hi) (sym (raised r e)) w

-- of the variant that a match found
pub told : {want : Result ℕ ℕ} {lo hi : ℕ} {r : Result ℕ ℕ} (q : Result ℕ ℕ) → Scanned want lo hi r → r ≡ q → Scanned want lo hi q
told {want} {lo} {hi} q w e = subst (Scanned want lo hi) e w

-- of a part, said of the whole
pub same_as : {want want' : Result ℕ ℕ} {lo hi : ℕ} {r : Result ℕ ℕ} → want ≡ want' → Scanned want lo hi r → Scanned want' lo hi r
same_as e w = record { is = w.is ∙ e; lies = w.lies }

pub carry : {want want' : Result ℕ ℕ} {lo lo' hi : ℕ} {r : Result ℕ ℕ} → want ≡ want' → lo ≤ lo' → lo' ≤ hi → Scanned want lo' hi r → Scanned want' lo hi r
carry {lo = lo} {lo' = lo'} {hi = hi} {r = r} e h k w = record { is = w.is ∙ e; lies = go r w.lies }
  where
    go : (q : Result ℕ ℕ) → EndsWithin lo' hi q → EndsWithin lo hi q
    go (Ok j) p = (omega arith, omega arith)
    go (Err j) p = (omega arith, omega arith)

pub moved : {want want' : Result ℕ ℕ} {lo lo' hi : ℕ} {r : Result ℕ ℕ} → want ≡ want' → lo ≤ lo' → lo' ≤ hi → Scanned want lo' hi r → Moved want' lo hi r
moved {lo = lo} {lo' = lo'} {hi = hi} {r = r} e h k w = record { is = w.is ∙ e; lies = go r w.lies }
  where
    go : (q : Result ℕ ℕ) → EndsWithin lo' hi q → Between lo hi q
    go (Ok j) p = (omega arith, omega arith)
    go (Err j) p = (omega arith, omega arith)

pub scanned : {want want' : Result ℕ ℕ} {lo lo' hi : ℕ} {r : Result ℕ ℕ} → want ≡ want' → lo < lo' → lo' ≤ hi → Moved want lo' hi r → Scanned want' lo hi r
scanned {lo = lo} {lo' = lo'} {hi = hi} {r = r} e h k w = record { is = w.is ∙ e; lies = go r w.lies }
  where
    go : (q : Result ℕ ℕ) → Between lo' hi q → EndsWithin lo hi q
    go (Ok j) p = (omega arith, omega arith)
    go (Err j) p = (omega arith, omega arith)
