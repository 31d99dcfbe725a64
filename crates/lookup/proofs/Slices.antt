-- A part of memory, as far as there are bytes.
use Prim.Native.Nat.{ℕ, ◌+◌, ◌-◌, ◌≤◌, ◌<◌}
use native.Mathlib.Omega.{arith}
use mathlib.Core.Path.{◌≡◌, sym, ap, ◌∙◌}
use mathlib.Core.List.{List, []}
use lib.ListN.{length, take, drop, length-drop, drop_of_length-le}
use lib.Seq.{take_all, take-nil}
use Rattle.memory.specs.Bytes.{span}

module _ (m : List ℕ) (a n : ℕ) where
  pub cut-none : length m ≤ a → [] ≡ span m a n
  unfolding span
  cut-none h = rw (drop_of_length-le m {i = a} h, take-nil n)

  pub cut-rest : length m - a < n → take (length m - a) (drop a m) ≡ span m a n
  unfolding span
  cut-rest h = take_all (length m - a) (drop a m) (rw (length-drop a m) (omega arith)) ∙ sym (take_all n (drop a m) (rw (length-drop a m) (omega arith)))

  pub cut-whole : take (a + n - a) (drop a m) ≡ span m a n
  unfolding span
  cut-whole = let e : a + n - a ≡ n = omega arith in ap (λ (k : ℕ). take k (drop a m)) e
