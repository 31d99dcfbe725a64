use Rattle.fields.specs.Fields.{string_faults}
use Rattle.fields.proofs.Values.{rule_as}
use Rattle.fields.proofs.string_told.Goals as goal

pub returns : goal.returns
unfolding string_faults
returns c = rule_as _ _ c.is_string.ensures c.rule_told.ensures
