use Rattle.fields.proofs.Values.{raw-none, raw-some}
use Rattle.fields.proofs.Walk.{scan-lies}
use native.Mathlib.Omega.{arith}
use Rattle.fields.proofs.raw_bytes_by.Goals as goal

pub overflow_add-k : goal.overflow_add-k
overflow_add-k c = let l = scan-lies _ c.string_by.ensures c.in-Ok.is in omega arith

pub overflow_sub-end : goal.overflow_sub-end
overflow_sub-end c = let l = scan-lies _ c.string_by.ensures c.in-Ok.is in omega arith

pub returns-in-Err : goal.returns-in-Err
returns-in-Err c = λ h. raw-none _ _ (c.string_by.ensures.is h) c.in-Err.is

pub returns-in-Ok : goal.returns-in-Ok
returns-in-Ok c = λ h. raw-some _ _ (c.string_by.ensures.is h) c.in-Ok.is c.slice.ensures
