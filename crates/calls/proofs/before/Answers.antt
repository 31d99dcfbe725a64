use Rattle.std.proofs.Common.{arith}
use Rattle.text.proofs.Split.{is_part}
use Rattle.calls.proofs.before.Goals as goal

pub loop-at-smaller : goal.loop-at-smaller
loop-at-smaller g c = let p = is_part _ _ _ _ _ _ c.in-Some.ensures in omega arith
