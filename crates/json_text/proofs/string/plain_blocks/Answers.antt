use native.Mathlib.Omega.{arith}
use Rattle.json_text.proofs.Strings.{run_then, run-block}
use Rattle.json_text.proofs.string.plain_blocks.Goals as goal

pub loop-i-preserved : goal.loop-i-preserved
loop-i-preserved c = run_then c.loop-i.invariant (let t = c.loop-i-test.true in run-block c.args.s.now c.loop-i.i _ (omega arith) (omega arith) (c.are_plain.ensures c.if-not-are_plain.false))
