use Rattle.json_text.proofs.Numbers.{hit, minus_one, minus-none}
use native.Mathlib.Omega.{arith}
use Rattle.json_text.proofs.number.minus.Goals as goal

pub overflow_add-result : goal.overflow_add-result
overflow_add-result c = let h = hit c.args.s.now _ c.peek.ensures 45 c.if-peek-eq45.true (omega arith) in omega arith

pub returns-then-peek-eq45 : goal.returns-then-peek-eq45
returns-then-peek-eq45 c = minus_one _ _ c.peek.ensures c.if-peek-eq45.true

pub returns-else-peek-eq45 : goal.returns-else-peek-eq45
returns-else-peek-eq45 c = minus-none _ _ c.peek.ensures c.if-peek-eq45.false
