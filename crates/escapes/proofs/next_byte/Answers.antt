use native.Mathlib.Omega.{arith}
use Rattle.escapes.proofs.Steps.{step-over, step-plain, step-half, step-char, step_writable}
use Rattle.escapes.proofs.next_byte.Goals as goal

pub returns-then-i-s : goal.returns-then-i-s
returns-then-i-s c = step-over _ _ _ (omega arith)

pub returns-then-b-ne92 : goal.returns-then-b-ne92
returns-then-b-ne92 c = step-plain _ _ _ (omega arith) c.if-b-ne92.true

pub char_step-requires : goal.char_step-requires
char_step-requires c = let a = c.args in (step_writable a.s.now a.i 0 (omega arith) c.if-b-ne92.false c.escape_of.ensures c.in-Some.is).scalar.small

pub returns-in-None : goal.returns-in-None
returns-in-None c = step-half _ _ _ (omega arith) c.if-b-ne92.false c.escape_of.ensures c.in-None.is

pub returns-in-Some : goal.returns-in-Some
returns-in-Some c = step-char _ _ _ (omega arith) c.if-b-ne92.false c.escape_of.ensures c.in-Some.is c.past.ensures c.char_step.ensures
