use mathlib.Core.Path.{refl}
use Rattle.json_text.specs.Bytes.{is_ws, ws}
use Rattle.json_text.proofs.Bytes.{passing-more, passing-stop, passing-out}
use Rattle.json_text.proofs.skip.Goals as goal

pub returns-then-not-is_ws : goal.returns-then-not-is_ws
unfolding ws
returns-then-not-is_ws c = passing-stop c.loop-i.invariant c.loop-i-test.true c.from.ensures c.is_ws.ensures c.if-not-is_ws.true

pub loop-i-preserved : goal.loop-i-preserved
loop-i-preserved c = passing-more c.loop-i.invariant c.loop-i-test.true c.from.ensures c.is_ws.ensures c.if-not-is_ws.false

pub returns : goal.returns
unfolding ws is_ws
returns c = passing-out c.loop-i.invariant refl c.loop-i-test.false c.max.ensures
