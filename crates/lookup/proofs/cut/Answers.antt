use Rattle.lookup.proofs.Slices.{cut-none, cut-rest, cut-whole}
use Rattle.lookup.proofs.cut.Goals as goal

pub returns-then-mem-at : goal.returns-then-mem-at
returns-then-mem-at c = cut-none _ _ _ c.if-mem-at.true

pub returns-then-mem-at-2 : goal.returns-then-mem-at-2
returns-then-mem-at-2 c = cut-rest _ _ _ c.if-mem-at-2.true

pub returns : goal.returns
returns c = cut-whole _ _ _
