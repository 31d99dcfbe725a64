use Rattle.fields.specs.declared.Kind.TheVariants.{Text, Flag, Object, Ids, Texts}
use Rattle.fields.specs.Fields.{kind_faults}
use Rattle.fields.specs.Parts.{item_faults}
use Rattle.fields.proofs.Fields.{of_kind_lem}
use Rattle.fields.proofs.Values.{rule_as}
use Rattle.fields.proofs.kind_told.Goals as goal

pub returns-in-Text : goal.returns-in-Text
unfolding kind_faults
returns-in-Text c = λ h. of_kind_lem _ _ Text c.in-Text.is c.string_told.ensures

pub returns-in-Flag : goal.returns-in-Flag
unfolding kind_faults
returns-in-Flag c = λ h. of_kind_lem _ _ Flag c.in-Flag.is (rule_as _ _ c.is_flag.ensures c.rule_told.ensures)

pub returns-in-Object : goal.returns-in-Object
unfolding kind_faults
returns-in-Object c = λ h. of_kind_lem _ _ Object c.in-Object.is (rule_as _ _ c.is_object.ensures c.rule_told-in-Object.ensures)

pub returns-in-Ids : goal.returns-in-Ids
unfolding kind_faults item_faults
returns-in-Ids c = λ h. of_kind_lem _ _ Ids c.in-Ids.is (c.array_told.ensures h)

pub returns-in-Texts : goal.returns-in-Texts
unfolding kind_faults item_faults
returns-in-Texts c = λ h. of_kind_lem _ _ Texts c.in-Texts.is (c.array_told-in-Texts.ensures h)
