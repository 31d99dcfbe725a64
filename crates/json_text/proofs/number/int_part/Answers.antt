use Rattle.json_text.proofs.Numbers.{hit, zero-int, other-int}
use native.Mathlib.Omega.{arith}
use Rattle.json_text.proofs.number.int_part.Goals as goal

pub overflow_add-result : goal.overflow_add-result
overflow_add-result c = let h = hit c.args.s.now _ c.peek.ensures _ c.if-peek-eq48.true (omega arith) in omega arith

pub returns-then-peek-eq48 : goal.returns-then-peek-eq48
returns-then-peek-eq48 c = zero-int _ _ c.peek.ensures c.if-peek-eq48.true

pub returns-else-peek-eq48 : goal.returns-else-peek-eq48
returns-else-peek-eq48 c = other-int _ _ c.peek.ensures c.if-peek-eq48.false c.some_digits.ensures
