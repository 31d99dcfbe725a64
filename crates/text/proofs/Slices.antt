-- Laws of `slice`: its length, and what each way through the function shows.
use Prim.Native.Nat.{ℕ, ◌-◌, ◌≤◌, ◌<◌}
use native.Mathlib.Omega.{arith}
use mathlib.Core.Path.{◌≡◌, sym, ◌∙◌}
use mathlib.Core.List.{List, []}
use lib.ListN.{length, take, drop, length-take, length-drop, drop_of_length-le}
use lib.Seq.{take_all, take-nil}
use Rattle.text.specs.Bytes.{slice}

module _ (s : List ℕ) (a e : ℕ) where
  pub slice-none : e < a → [] ≡ slice s a e
  slice-none h = let z : e - a ≡ 0 = omega arith in rw z

  pub slice-rest : length s < e → a ≤ length s → take (length s - a) (drop a s) ≡ slice s a e
  slice-rest h k = take_all (length s - a) (drop a s) (rw (length-drop a s) (omega arith)) ∙ sym (take_all (e - a) (drop a s) (rw (length-drop a s) (omega arith)))

  pub slice_out : length s < a → [] ≡ slice s a e
  slice_out h = rw (drop_of_length-le s {i = a} (omega arith), take-nil (e - a))

  pub slice-length : a ≤ e → e ≤ length s → length (slice s a e) ≡ e - a
  slice-length h k = omega (arith, length-take (e - a) (drop a s), length-drop a s)
