use native.Mathlib.Omega.{arith}
use Rattle.properties.proofs.Good.{full}
use Rattle.imprint.proofs.Records.{rows_none, rows_more, listed}
use Rattle.imprint.proofs.put_records.Goals as goal

pub loop-i-init : goal.loop-i-init
loop-i-init c = rows_none _ _ _

pub loop-i-preserved : goal.loop-i-preserved
loop-i-preserved c =
    rows_more _ _ _ _ _ _ _ (omega (arith, full c.args.l _ c.well_formed.1.1.0)) (omega (arith, c.requires.0)) c.loop-i.invariant c.put_record.ensures

pub returns : goal.returns
returns c = listed _ _ _ _ _ (full c.args.l _ c.well_formed.1.1.0) (omega (arith, c.min-i-end.ensures, c.from.ensures)) c.loop-i.invariant
