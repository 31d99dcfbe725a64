use native.Mathlib.Omega.{arith}
use Rattle.text.proofs.Utf8Place.{follow_0, follow-tail, follow_1, follow_2, follow_3, follow-over}
use Rattle.text.proofs.following.Goals as goal

pub returns-in-0-to-127 : goal.returns-in-0-to-127
returns-in-0-to-127 c = follow_0 _ (omega arith)

pub returns-in-194-to-223 : goal.returns-in-194-to-223
returns-in-194-to-223 c = follow_1 _ (omega arith) (omega arith)

pub returns-in-224-to-239 : goal.returns-in-224-to-239
returns-in-224-to-239 c = follow_2 _ (omega arith) (omega arith)

pub returns-in-240-to-244 : goal.returns-in-240-to-244
returns-in-240-to-244 c = follow_3 _ (omega arith) (omega arith)

pub returns-in_default : goal.returns-in_default
returns-in_default c = follow-tail _ (omega arith) (omega arith)

pub returns-in_default-2 : goal.returns-in_default-2
returns-in_default-2 c = follow-over _ (omega arith)
