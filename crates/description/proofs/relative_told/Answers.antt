use Rattle.description.proofs.Device.{relative-plain}
use Rattle.description.proofs.relative_told.Goals as goal

pub returns-then-is_plain_by : goal.returns-then-is_plain_by
returns-then-is_plain_by c = λ h. relative-plain _ _ _ (c.is_plain_by.ensures h) c.if-is_plain_by.true (c.raw_bytes_by.ensures h) c.relative_rule.ensures

pub returns : goal.returns
returns c = λ h. c.escaped_relative_told.ensures
