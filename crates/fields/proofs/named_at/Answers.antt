use Rattle.fields.proofs.Numbers.{number-some, number-none, number_known, number-other}
use Rattle.fields.proofs.named_at.Goals as goal

pub returns-then-is_some : goal.returns-then-is_some
returns-then-is_some c = λ h. number_known _ _ c.named-field.ensures (c.raw_bytes_by.ensures h) (number-some _ c.if-is_some.ensures)

pub returns-then-is_plain_by : goal.returns-then-is_plain_by
returns-then-is_plain_by c =
    λ h. number-other _ _ c.named-field.ensures (c.raw_bytes_by.ensures h) (number-none _ c.if-is_some.ensures) (c.is_plain_by.ensures h) c.if-is_plain_by.true
