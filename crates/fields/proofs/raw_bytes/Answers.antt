use Rattle.fields.proofs.Values.{raw-none, raw-some}
use Rattle.json_text.proofs.Scans.{told}
use native.Mathlib.Omega.{arith}
use Rattle.fields.proofs.raw_bytes.Goals as goal

pub overflow_add-k : goal.overflow_add-k
overflow_add-k c = let l = told _ c.string.ensures c.in-Ok.is in let m = l.lies in omega arith

pub overflow_sub-e : goal.overflow_sub-e
overflow_sub-e c = let l = told _ c.string.ensures c.in-Ok.is in let m = l.lies in omega arith

pub returns-in-Err : goal.returns-in-Err
returns-in-Err c = raw-none _ _ c.string.ensures.is c.in-Err.is

pub returns-in-Ok : goal.returns-in-Ok
returns-in-Ok c = raw-some _ _ c.string.ensures.is c.in-Ok.is c.slice.ensures
