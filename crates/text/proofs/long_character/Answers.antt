use native.Mathlib.Omega.{arith}
use Rattle.text.proofs.Steps.{first-over}
use Rattle.text.proofs.Characters.{no-first, long-cut, three-cut, three, four-cut, four}
use Rattle.text.proofs.long_character.Goals as goal
use Rattle.text.proofs.long_character.Goals.{then-b-gt244-via-then-b-gt244, then-b-gt244-via-else-b-gt244+then-not-byte_in}

pub returns-then-b-gt244 : goal.returns-then-b-gt244
returns-then-b-gt244 c =
    elim c.then-b-gt244.branch [
      | then-b-gt244-via-then-b-gt244 w ↦ no-first c.requires.0 (first-over _ (omega arith))
      | then-b-gt244-via-else-b-gt244+then-not-byte_in w ↦ long-cut c.requires.0 w.least.ensures w.most.ensures (omega arith) (omega arith) (w.byte_in.ensures.no w.if-not-byte_in.true)
    ]

pub returns-then-not-byte_in-2 : goal.returns-then-not-byte_in-2
returns-then-not-byte_in-2 c =
    three-cut c.requires.0 c.least.ensures c.most.ensures (omega arith) (omega arith) (c.byte_in.ensures.yes c.if-not-byte_in.false) (c.byte_in-2.ensures.no c.if-not-byte_in-2.true)

pub returns-then-b-lt240 : goal.returns-then-b-lt240
returns-then-b-lt240 c =
    three c.requires.0 c.least.ensures c.most.ensures (omega arith) (omega arith) (c.byte_in.ensures.yes c.if-not-byte_in.false) (c.byte_in-2.ensures.yes c.if-not-byte_in-2.false) (omega arith)

pub returns-then-byte_in : goal.returns-then-byte_in
returns-then-byte_in c =
    four c.requires.0 c.least.ensures c.most.ensures (omega arith) (omega arith) (c.byte_in.ensures.yes c.if-not-byte_in.false) (c.byte_in-2.ensures.yes c.if-not-byte_in-2.false) (omega arith) (c.byte_in-3.ensures.yes c.if-byte_in.true)

pub returns-else-byte_in : goal.returns-else-byte_in
returns-else-byte_in c =
    four-cut c.requires.0 c.least.ensures c.most.ensures (omega arith) (omega arith) (c.byte_in.ensures.yes c.if-not-byte_in.false) (c.byte_in-2.ensures.yes c.if-not-byte_in-2.false) (omega arith) (c.byte_in-3.ensures.no c.if-byte_in.false)
