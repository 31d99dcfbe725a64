use native.Mathlib.Omega.{arith}
use lib.ListN.{drop}
use Rattle.times.proofs.Bytes.{digits-most}
use Rattle.times.proofs.ending.Goals as goal

pub zone-requires-then-e-ne20 : goal.zone-requires-then-e-ne20
zone-requires-then-e-ne20 c = omega (arith, digits-most 9 (drop 20 c.args.s.now), c.digits_end-e.ensures)
