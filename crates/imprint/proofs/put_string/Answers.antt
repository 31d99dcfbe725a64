use Rattle.imprint.proofs.Fields.{texted-plain}
use Rattle.imprint.proofs.put_string.Goals as goal

pub returns-then-is_plain : goal.returns-then-is_plain
returns-then-is_plain c = texted-plain _ _ c.raw_bytes-raw.ensures c.is_plain.ensures c.if-is_plain.true c.put_text.ensures
