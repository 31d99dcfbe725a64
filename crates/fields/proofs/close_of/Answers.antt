use native.Mathlib.Omega.{arith}
use Rattle.fields.proofs.Walk.{scan-lies}
use Rattle.fields.proofs.Values.{close-none, close-some}
use Rattle.fields.proofs.close_of.Goals as goal

pub overflow_sub-result : goal.overflow_sub-result
overflow_sub-result c = let l = scan-lies _ c.value_by.ensures c.in-Ok.is in omega arith

pub returns-in-Err : goal.returns-in-Err
returns-in-Err c = λ h. close-none _ _ (c.value_by.ensures.is h) c.in-Err.is

pub returns-in-Ok : goal.returns-in-Ok
returns-in-Ok c = λ h. close-some _ _ (c.value_by.ensures.is h) c.in-Ok.is
