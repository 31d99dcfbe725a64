use native.Mathlib.Omega.{arith}
use Rattle.faults.proofs.Laws.{told-as}
use Rattle.fields.proofs.Decoded.{pair_inside, pair-told, pair-none, plain-told}
use Rattle.fields.proofs.half_told.Goals as goal

pub returns-then-is_plain_by : goal.returns-then-is_plain_by
returns-then-is_plain_by c = λ h. plain-told _ _ (c.is_plain_by.ensures h) c.if-is_plain_by.true

pub overflow_add-k : goal.overflow_add-k
overflow_add-k c = let h = pair_inside c.args.s.now _ c.raw_bytes.ensures c.half.ensures c.in-Some.is in omega arith

pub overflow_add-k-in-Some : goal.overflow_add-k-in-Some
overflow_add-k-in-Some c = let h = pair_inside c.args.s.now _ c.raw_bytes.ensures c.half.ensures c.in-Some.is in omega arith

pub returns-in-None : goal.returns-in-None
returns-in-None c = λ h. pair-none _ _ c.raw_bytes.ensures c.half.ensures c.in-None.is

pub returns-in-Some : goal.returns-in-Some
returns-in-Some c = λ h. told-as c.at.ensures (pair-told _ _ c.raw_bytes.ensures c.half.ensures c.in-Some.is (omega arith))
