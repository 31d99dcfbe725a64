use native.Mathlib.Omega.{arith}
use Rattle.fields.proofs.Decoded.{decoding-whole, decoding-half, decoding-inside}
use Rattle.fields.proofs.decode_at.Goals as goal

pub overflow_add-result : goal.overflow_add-result
overflow_add-result c = let h = decoding-inside c.args.s.now _ c.raw_bytes.ensures c.decode.ensures c.in-Err.is in omega arith

pub overflow_add-result-in-Err : goal.overflow_add-result-in-Err
overflow_add-result-in-Err c = let h = decoding-inside c.args.s.now _ c.raw_bytes.ensures c.decode.ensures c.in-Err.is in omega arith

pub returns-in-Ok : goal.returns-in-Ok
returns-in-Ok c = decoding-whole _ _ c.raw_bytes.ensures c.decode.ensures c.in-Ok.is

pub returns-in-Err : goal.returns-in-Err
returns-in-Err c = decoding-half _ _ c.raw_bytes.ensures c.decode.ensures c.in-Err.is (omega arith)
