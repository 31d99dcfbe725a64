use Rattle.escapes.proofs.Buffers.{decodes-plain, decodes-half, decodes-whole}
use Rattle.escapes.proofs.decode.Goals as goal

pub returns-then-is_plain : goal.returns-then-is_plain
returns-then-is_plain c = decodes-plain _ _ c.is_plain.ensures c.if-is_plain.true c.copy.ensures

pub returns-in-Some : goal.returns-in-Some
returns-in-Some c = decodes-half _ _ c.half.ensures c.in-Some.is

pub returns-in-None : goal.returns-in-None
returns-in-None c = decodes-whole _ _ c.half.ensures c.in-None.is c.copy_written.ensures
