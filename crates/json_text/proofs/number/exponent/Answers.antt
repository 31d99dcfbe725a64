use Rattle.json_text.proofs.Numbers.{exp-inside, some-exp, no-exp}
use native.Mathlib.Omega.{arith}
use Rattle.json_text.proofs.number.exponent.Goals as goal

pub overflow_add-at : goal.overflow_add-at
overflow_add-at c = let h = exp-inside c.args.s.now _ c.peek.ensures c.is_exp.ensures c.if-is_exp.true in omega arith

pub returns-then-is_exp : goal.returns-then-is_exp
returns-then-is_exp c = some-exp _ _ c.peek.ensures c.is_exp.ensures c.if-is_exp.true c.sign.ensures c.some_digits.ensures

pub returns-else-is_exp : goal.returns-else-is_exp
returns-else-is_exp c = no-exp _ _ c.peek.ensures c.is_exp.ensures c.if-is_exp.false
