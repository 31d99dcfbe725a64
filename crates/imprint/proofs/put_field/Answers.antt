use mathlib.Core.Path.{refl}
use Rattle.properties.proofs.Rules.{text-absent, text-first}
use Rattle.imprint.proofs.Fields.{texted_as}
use Rattle.imprint.proofs.put_field.Goals as goal

pub returns-in-None : goal.returns-in-None
returns-in-None c = texted_as (text-absent _ c.in-None.is) c.put_text.ensures

pub returns-in-Some : goal.returns-in-Some
returns-in-Some c = texted_as (text-first _ c.in-Some.is refl) c.put_string.ensures
