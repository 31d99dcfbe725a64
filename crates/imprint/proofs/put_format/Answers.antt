use Rattle.std.specs.Prelude.{Some}
use mathlib.Core.Path.{ap, ◌∙◌}
use Rattle.imprint.proofs.Fields.{texted_as, kept-bad, kept-given, kept-colon, kept-words, kept-none}
use Rattle.imprint.proofs.put_format.Goals as goal

pub returns-in_default : goal.returns-in_default
returns-in_default c = texted_as (kept-bad _ c.in_default.is) c.put_text.ensures

pub returns-in-AsGiven : goal.returns-in-AsGiven
returns-in-AsGiven c = texted_as (kept-given _ (c.in-Some.is ∙ ap Some c.in-AsGiven.is)) c.put_field.ensures

pub returns-in-Colon : goal.returns-in-Colon
returns-in-Colon c = texted_as (kept-colon _ (c.in-Some.is ∙ ap Some c.in-Colon.is)) c.put_text-in-Colon.ensures

pub returns-in-FalseTrue : goal.returns-in-FalseTrue
returns-in-FalseTrue c = texted_as (kept-words _ (c.in-Some.is ∙ ap Some c.in-FalseTrue.is)) c.put_text-in-FalseTrue.ensures

pub returns-in-NotKept : goal.returns-in-NotKept
returns-in-NotKept c = texted_as (kept-none _ (c.in-Some.is ∙ ap Some c.in-NotKept.is)) c.put_text-in-NotKept.ensures
