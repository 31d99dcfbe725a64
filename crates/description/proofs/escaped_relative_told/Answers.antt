use native.Mathlib.Omega.{arith}
use Rattle.description.specs.Description.{relative_faults}
use Rattle.faults.proofs.Laws.{told-as}
use Rattle.description.proofs.Device.{half-told, too_long, long-told, whole-told, relative-long}
use Rattle.description.proofs.escaped_relative_told.Goals as goal

pub returns-then-n-gt32 : goal.returns-then-n-gt32
returns-then-n-gt32 c =
    told-as c.at-then-n-gt32.ensures (long-told _ _ c.decode_at.ensures (relative_faults _ _) c.in-Ok.is (relative-long _ _ _ (too_long _ _ c.decode_at.ensures c.in-Ok.is c.if-n-gt32.true)))

pub returns-in-Err : goal.returns-in-Err
returns-in-Err c = told-as c.at.ensures (half-told _ _ c.decode_at.ensures (relative_faults _ _) c.in-Err.is)

pub returns-else-n-gt32 : goal.returns-else-n-gt32
returns-else-n-gt32 c =
    whole-told _ _ c.decode_at.ensures (relative_faults _ _) c.in-Ok.is (omega (arith, c.if-n-gt32.false)) c.slice.ensures c.relative_rule.ensures
