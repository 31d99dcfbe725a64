use native.Mathlib.Omega.{arith}
use Rattle.escapes.proofs.Steps.{coded-few, char-over, char-more, char-last}
use Rattle.escapes.proofs.char_step.Goals as goal

pub returns-then-o-n : goal.returns-then-o-n
returns-then-o-n c = char-over _ c.encode-n.ensures _ _ _ (omega arith)

pub bounds-bytes-o : goal.bounds-bytes-o
bounds-bytes-o c = let h = coded-few _ c.encode-n.ensures in omega arith

pub returns-then-o-n-2 : goal.returns-then-o-n-2
returns-then-o-n-2 c = char-more _ c.encode-n.ensures _ _ _ (omega arith)

pub returns : goal.returns
returns c = char-last _ c.encode-n.ensures _ _ _ (omega arith) (omega arith)
