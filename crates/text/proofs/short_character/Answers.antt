use native.Mathlib.Omega.{arith}
use Rattle.text.proofs.Steps.{first_tail}
use Rattle.text.proofs.Characters.{no-first, two-cut, two}
use Rattle.text.proofs.short_character.Goals as goal
use Rattle.text.proofs.short_character.Goals.{else-b-ge194-via-then-b-ge194+else-byte_in, else-b-ge194-via-else-b-ge194}

pub returns-then-byte_in : goal.returns-then-byte_in
returns-then-byte_in c = two c.requires.0 (omega arith) (omega arith) (c.byte_in.ensures.yes c.if-byte_in.true)

pub returns-else-b-ge194 : goal.returns-else-b-ge194
returns-else-b-ge194 c =
    elim c.else-b-ge194.branch [
      | else-b-ge194-via-then-b-ge194+else-byte_in w ↦ two-cut c.requires.0 (omega arith) (omega arith) (w.byte_in.ensures.no w.if-byte_in.false)
      | else-b-ge194-via-else-b-ge194 w ↦ no-first c.requires.0 (first_tail _ (omega (arith, c.requires.0.several)) (omega arith))
    ]
