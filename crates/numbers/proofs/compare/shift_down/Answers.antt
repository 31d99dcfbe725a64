use native.Mathlib.Omega.{arith}
use Rattle.numbers.proofs.Order.{tens, no_more}
use Rattle.numbers.proofs.compare.shift_down.Goals as goal

pub nonzero_div-result : goal.nonzero_div-result
nonzero_div-result c = omega (arith, tens c.args.k)

pub returns-else-k-le-POWER_MOST : goal.returns-else-k-le-POWER_MOST
returns-else-k-le-POWER_MOST c = no_more _ _ c.ranges.x.fits c.if-k-le-POWER_MOST.false
