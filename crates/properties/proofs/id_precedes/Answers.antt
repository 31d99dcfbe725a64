use Rattle.properties.proofs.Insertion.{id-before}
use Rattle.properties.proofs.id_precedes.Goals as goal

pub returns : goal.returns
returns c = λ h w. id-before _ _ (c.raw_bytes_by-other.ensures h) (c.is_plain_by.ensures h) w c.precedes.ensures
