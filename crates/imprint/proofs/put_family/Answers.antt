use Rattle.imprint.proofs.Head.{family}
use Rattle.imprint.proofs.put_family.Goals as goal

pub returns : goal.returns
returns c = family _ _ _ _ _ _ c.requires c.put_field.ensures c.put_field-2.ensures
