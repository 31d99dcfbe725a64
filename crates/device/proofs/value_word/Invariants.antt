use Prim.Native.Nat.{◌≤◌}
use mathlib.Core.Path.{◌≡◌}
use lib.ListN.{take}
use Rattle.device.specs.Parts.{word_of}
use Rattle.device.proofs.Described.{all}
use Rattle.device.proofs.value_word.Given as goal

abbrev pub invariant-loop-i : goal.invariant-loop-i
invariant-loop-i l = (l.i ≤ l.n) × (l.w ≡ word_of (take l.i (all l.room)))
