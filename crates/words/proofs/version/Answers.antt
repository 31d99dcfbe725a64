use native.Mathlib.Omega.{arith}
use Rattle.words.proofs.Wording.{adds-above, adds-below}
use Rattle.words.proofs.version.Goals as goal

pub returns-then-v-ge9223372036854775808 : goal.returns-then-v-ge9223372036854775808
returns-then-v-ge9223372036854775808 c = adds-above c.args.v (omega arith) c.write.ensures

pub returns : goal.returns
returns c = adds-below c.args.v (omega arith) c.put-at.ensures c.write-2.ensures
