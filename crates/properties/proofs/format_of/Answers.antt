use Rattle.properties.proofs.Rules.{format_kind, format_by}
use Rattle.properties.proofs.format_of.Goals as goal

pub returns-in_default : goal.returns-in_default
returns-in_default c = λ h. format_kind _ _ _ c.in_default.is (c.field_told.ensures h)

pub returns-in-None : goal.returns-in-None
returns-in-None c = λ h. format_by _ _ _ c.in-Some.is c.in-None.is (c.no_format.ensures h)

pub returns-in-Some-f : goal.returns-in-Some-f
returns-in-Some-f c = λ h. format_by _ _ _ c.in-Some.is c.in-Some-f.is (c.given_format.ensures h _)
