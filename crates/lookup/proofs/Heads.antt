-- The head: as it is written (the number of devices, a 1, the last time in 8 bytes, zeros), and the last time read off it.
use Rattle.std.specs.Prelude.{None, Some}
use Prim.Native.Nat.{ℕ, ◌+◌, ◌^◌, ◌<◌}
use native.Mathlib.Omega.{arith}
use mathlib.Core.Path.{◌≡◌, refl, sym, ap, ◌∙◌}
use mathlib.Core.List.{List, ◌∷◌}
use mathlib.Core.Bool.{Bool, true, false}
use lib.ListN.{length, get_or, drop, replicate}
use borrow.Author.Tests.{ne_eqb}
use Rattle.little_endian.specs.Bytes.{le_bytes, num, u64, put, Stored}
use Rattle.little_endian.proofs.Numbers.{num-back}
use Rattle.little_endian.proofs.Put.{drop-put}
use Rattle.memory.specs.Bytes.{span}
use Rattle.memory.specs.Layout.{head_at, head_size}
use Rattle.memory.specs.State.{state, current}
use Rattle.device.specs.Decode.{is_set}
use Rattle.lookup.specs.Meaning.{last_flag_at, last_at, last_of, table_of, means}

abbrev untimed : ℕ → List ℕ
untimed n = n ∷ (1 ∷ replicate 22 0)

module _ (n time : ℕ) (bytes : List ℕ) (w : Stored (untimed n) last_at 8 time bytes) where
  whole : bytes ≡ put (untimed n) last_at (le_bytes 8 time)
  whole = w.written (omega arith)

  pub counts : get_or bytes 0 0 ≡ n
  unfolding put
  counts = ap (λ (l : List ℕ). get_or l 0 0) whole

  time_is : time < 256 ^ 8 → num 8 last_at (put (untimed n) last_at (le_bytes 8 time)) ≡ time
  time_is h = num-back 8 last_at time (put (untimed n) last_at (le_bytes 8 time)) (drop (last_at + length (le_bytes 8 time)) (untimed n)) (drop-put (untimed n) last_at (le_bytes 8 time) (omega arith)) h

  flagged : last_of (put (untimed n) last_at (le_bytes 8 time)) ≡ Some (num 8 last_at (put (untimed n) last_at (le_bytes 8 time)))
  unfolding last_of is_set put
  flagged = refl

  pub last_is_lem : time < 256 ^ 8 → last_of bytes ≡ Some time
  last_is_lem h = ap last_of whole ∙ flagged ∙ ap (λ (t : ℕ). Some t) (time_is h)

-- the last time, read off the head t of memory, whose flag is x
by_flag : (t : List ℕ) (b : Bool) → is_set t last_flag_at ≡ b → last_of t ≡ elim b [ true ↦ Some (u64 t last_at) | false ↦ None ]
unfolding last_of
by_flag t b h = rw (h, last_of)

module _ (m t : List ℕ) (x : ℕ) (e : t ≡ span m head_at head_size) (f : x ≡ get_or t last_flag_at 0) where
  last-read : last_of t ≡ (means m).now.last
  unfolding means table_of state current
  last-read = ap last_of e

  pub never : x ≡ 0 → None ≡ (means m).now.last
  unfolding is_set
  never z = sym (by_flag t false (rw (← f, z))) ∙ last-read

  pub at-time : (time : ℕ) → (x ≡ 0 → ⊥) → time ≡ u64 t last_at → Some time ≡ (means m).now.last
  unfolding is_set
  at-time time z k = ap (λ (n : ℕ). Some n) k ∙ sym (by_flag t true (rw (← f, ne_eqb x 0 z))) ∙ last-read
