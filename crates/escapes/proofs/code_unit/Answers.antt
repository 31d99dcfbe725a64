use native.Mathlib.Omega.{arith}
use Rattle.escapes.proofs.Escapes.{unit_is, digit_is}
use Rattle.escapes.proofs.code_unit.Goals as goal

pub overflow_mul-result : goal.overflow_mul-result
overflow_mul-result c = let a = digit_is _ c.hex_digit-a.ensures in omega arith

pub overflow_mul-result-2 : goal.overflow_mul-result-2
overflow_mul-result-2 c = let a = digit_is _ c.hex_digit-b.ensures in omega arith

pub overflow_mul-result-3 : goal.overflow_mul-result-3
overflow_mul-result-3 c = let a = digit_is _ c.hex_digit-c.ensures in omega arith

pub overflow_add-result : goal.overflow_add-result
overflow_add-result c = let a = digit_is _ c.hex_digit-c.ensures in let b = digit_is _ c.hex_digit-d.ensures in omega arith

pub overflow_add-result-2 : goal.overflow_add-result-2
overflow_add-result-2 c =
    let a = digit_is _ c.hex_digit-c.ensures in let b = digit_is _ c.hex_digit-d.ensures in let d = digit_is _ c.hex_digit-b.ensures in omega arith

pub overflow_add-result-3 : goal.overflow_add-result-3
overflow_add-result-3 c =
    let a = digit_is _ c.hex_digit-c.ensures in let b = digit_is _ c.hex_digit-d.ensures in let d = digit_is _ c.hex_digit-b.ensures in let e = digit_is _ c.hex_digit-a.ensures in omega arith

pub returns : goal.returns
returns c =
    unit_is _ _ c.hex_digit-a.ensures c.peek.ensures c.hex_digit-b.ensures c.peek-2.ensures c.hex_digit-c.ensures c.peek-3.ensures c.hex_digit-d.ensures c.peek-4.ensures
