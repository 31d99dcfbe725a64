use Rattle.lookup.proofs.Heads.{never, at-time}
use Rattle.lookup.proofs.last.Goals as goal

pub returns-then-byte-eq0 : goal.returns-then-byte-eq0
returns-then-byte-eq0 c = never _ _ _ c.cut-head.ensures c.byte.ensures c.if-byte-eq0.true

pub returns : goal.returns
returns c = at-time _ _ _ c.cut-head.ensures c.byte.ensures _ c.if-byte-eq0.false c.get.ensures.0
