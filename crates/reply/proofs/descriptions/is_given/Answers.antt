use Rattle.fields.specs.Fields.{text_in}
use Rattle.properties.specs.Property.{text_of}
use Rattle.reply.specs.Descriptions.{is_given}
use Rattle.reply.proofs.Declared.{given-told, given-first}
use Rattle.reply.proofs.descriptions.is_given.Goals as goal

pub returns-in-None : goal.returns-in-None
unfolding is_given text_of text_in
returns-in-None c = given-told c.args.s.now _ _ c.in-None.is

pub returns-in-Some : goal.returns-in-Some
returns-in-Some c = given-first c.args.s.now _ _ _ c.in-Some.is c.string_length.ensures
