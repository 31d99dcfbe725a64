use mathlib.Core.Path.{refl}
use Rattle.ranges.proofs.Reading.{up_to}
use Rattle.ranges.proofs.is_up_to.Goals as goal

pub returns : goal.returns
returns c = up_to c.args.most c.args.s.now _ _ _ refl c.is_decimal.ensures c.whole_decimal.ensures c.whole_decimal-2.ensures
