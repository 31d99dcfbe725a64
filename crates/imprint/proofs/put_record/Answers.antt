use Rattle.imprint.proofs.Records.{recorded}
use Rattle.imprint.proofs.put_record.Goals as goal

pub returns : goal.returns
returns c =
    recorded _ _ _ _ _ _ _ _ _ c.requires.0 c.requires.1 c.put_string.ensures c.put_string-2.ensures c.datatype_code.ensures c.put_traits.ensures c.put_format.ensures
