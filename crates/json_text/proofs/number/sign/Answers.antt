use Rattle.json_text.proofs.Numbers.{sign-inside, one-sign, no_sign}
use native.Mathlib.Omega.{arith}
use Rattle.json_text.proofs.number.sign.Goals as goal

pub overflow_add-result : goal.overflow_add-result
overflow_add-result c = let h = sign-inside c.args.s.now _ c.peek.ensures c.is_sign.ensures c.if-is_sign.true in omega arith

pub returns-then-is_sign : goal.returns-then-is_sign
returns-then-is_sign c = one-sign _ _ c.peek.ensures c.is_sign.ensures c.if-is_sign.true

pub returns-else-is_sign : goal.returns-else-is_sign
returns-else-is_sign c = no_sign _ _ c.peek.ensures c.is_sign.ensures c.if-is_sign.false
