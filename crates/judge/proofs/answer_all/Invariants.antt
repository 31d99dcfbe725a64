-- The buffer of an answer keeps its length.
use Rattle.std.proofs.Common.{◌≡◌, ◌-◌, length}
use Rattle.judge.proofs.answer_all.Given as goal

abbrev pub invariant-loop-at : goal.invariant-loop-at
invariant-loop-at g l = 65536 ≡ length l.out

abbrev pub decreases-loop-at : goal.decreases-loop-at
decreases-loop-at g l = length l.input - l.at
