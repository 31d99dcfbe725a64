use Rattle.fields.proofs.Values.{bytes-none, bytes-some}
use Rattle.fields.proofs.value_bytes_by.Goals as goal

pub returns-in-Err : goal.returns-in-Err
returns-in-Err c = λ h. bytes-none _ _ (c.value_by.ensures.is h) c.in-Err.is

pub returns-in-Ok : goal.returns-in-Ok
returns-in-Ok c = λ h. bytes-some _ _ (c.value_by.ensures.is h) c.in-Ok.is c.slice.ensures
