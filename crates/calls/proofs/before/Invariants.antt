-- Each turn answers a line, and goes on behind it.
use Rattle.std.proofs.Common.{◌-◌, length}
use Rattle.calls.proofs.before.Given as goal

abbrev pub decreases-loop-at : goal.decreases-loop-at
decreases-loop-at g l = length l.input - l.at
