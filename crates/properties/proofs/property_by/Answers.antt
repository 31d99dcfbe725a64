use Rattle.properties.proofs.Rules.{judges}
use Rattle.properties.proofs.property_by.Goals as goal

pub returns : goal.returns
returns c =
    λ h w. judges _ _ _ _ _ w c.datatype_of-d.result c.get.ensures (c.datatype_of-d.ensures h) c.format_of-f.result c.get-given.ensures (c.format_of-f.ensures h) (c.texts_told.ensures h) (c.flags_told.ensures h) c.earlier-first.ensures c.earlier-second.ensures c.earlier-third.ensures c.earlier.ensures c.type_of.ensures c.get-2.ensures c.flag_in.ensures c.get-3.ensures c.flag_in-2.ensures
