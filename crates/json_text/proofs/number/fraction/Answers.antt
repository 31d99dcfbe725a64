use Rattle.json_text.proofs.Numbers.{hit, some-frac, no-frac}
use native.Mathlib.Omega.{arith}
use Rattle.json_text.proofs.number.fraction.Goals as goal

pub overflow_add-at : goal.overflow_add-at
overflow_add-at c = let h = hit c.args.s.now _ c.peek.ensures 46 c.if-peek-eq46.true (omega arith) in omega arith

pub returns-then-peek-eq46 : goal.returns-then-peek-eq46
returns-then-peek-eq46 c = some-frac _ _ c.peek.ensures c.if-peek-eq46.true c.some_digits.ensures

pub returns-else-peek-eq46 : goal.returns-else-peek-eq46
returns-else-peek-eq46 c = no-frac _ _ c.peek.ensures c.if-peek-eq46.false
