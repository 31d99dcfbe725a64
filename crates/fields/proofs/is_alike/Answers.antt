use Rattle.fields.proofs.Decoded.{alike-decoded, alike-plain}
use Rattle.fields.proofs.is_alike.Goals as goal

pub returns-then-is_plain_by : goal.returns-then-is_plain_by
returns-then-is_plain_by c = λ h p. alike-plain _ _ _ (c.raw_bytes_by-other.ensures h) p c.if-plain.true (c.is_plain_by.ensures h) c.if-is_plain_by.true c.same.ensures

pub returns : goal.returns
returns c = λ h p. alike-decoded _ _ _ (c.raw_bytes_by-other.ensures h) c.same_both.ensures
