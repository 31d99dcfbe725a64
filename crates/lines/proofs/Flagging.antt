-- The flag that a word writes.
use Rattle.std.specs.Prelude.{None, Some}
use Prim.Native.Nat.{ℕ}
use mathlib.Core.Path.{◌≡◌}
use mathlib.Core.List.{List}
use mathlib.Core.Bool.{true, false}
use Rattle.text.specs.Ascii.{ascii}
use Rattle.text.specs.Bytes.{eq_bytes}
use Rattle.lines.specs.Flag.{flag_of}

module _ (w : List ℕ) where
  pub flag_one : true ≡ eq_bytes w (ascii "1") → Some true ≡ flag_of w
  unfolding flag_of
  flag_one e = rw (← e)

  pub flag-zero : false ≡ eq_bytes w (ascii "1") → true ≡ eq_bytes w (ascii "0") → Some false ≡ flag_of w
  unfolding flag_of
  flag-zero e f = rw (← e, ← f)

  pub flag-none : false ≡ eq_bytes w (ascii "1") → false ≡ eq_bytes w (ascii "0") → None ≡ flag_of w
  unfolding flag_of
  flag-none e f = rw (← e, ← f)
