use Rattle.json_text.proofs.Numbers.{digit-inside, one-digit, all_digits, no_digit}
use native.Mathlib.Omega.{arith}
use Rattle.json_text.proofs.number.some_digits.Goals as goal

pub overflow_add-at : goal.overflow_add-at
overflow_add-at c = let h = digit-inside c.args.s.now _ (one-digit _ _ c.peek.ensures c.is_digit.ensures c.if-is_digit.true) in omega arith

pub returns-then-is_digit : goal.returns-then-is_digit
returns-then-is_digit c = all_digits _ _ c.peek.ensures c.is_digit.ensures c.if-is_digit.true c.digits.ensures

pub returns-else-is_digit : goal.returns-else-is_digit
returns-else-is_digit c = no_digit _ _ c.peek.ensures c.is_digit.ensures c.if-is_digit.false
