use Prim.Native.Nat.{◌*◌}
use Rattle.lines.proofs.Pairing.{Filled}
use Rattle.lines.proofs.hex.fill.Given as goal

abbrev pub invariant-loop-k : goal.invariant-loop-k
invariant-loop-k l = Filled l.w l.initial.buf l.buf (2 * l.k) l.k
