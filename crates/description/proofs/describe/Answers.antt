use mathlib.Core.Path.{sym, ◌∙◌}
use Rattle.text.proofs.Utf8.{utf8-answer}
use Rattle.description.proofs.Whole.{describes_wrong, too_long, not-utf8}
use Rattle.description.proofs.describe.Goals as goal

pub returns-then-s-gt-MOST : goal.returns-then-s-gt-MOST
returns-then-s-gt-MOST c = describes_wrong _ _ _ c.not_json.ensures (too_long _ c.if-s-gt-MOST.true)

pub returns-then-not-is_utf8 : goal.returns-then-not-is_utf8
returns-then-not-is_utf8 c = describes_wrong _ _ _ c.not_json-then-not-is_utf8.ensures (not-utf8 _ (utf8-answer _ _ c.is_utf8.ensures) c.if-not-is_utf8.true)

pub returns-then-s-gt2048 : goal.returns-then-s-gt2048
returns-then-s-gt2048 c = c.describe_by.ensures c.if-s-gt-MOST.false (sym (utf8-answer _ _ c.is_utf8.ensures) ∙ c.if-not-is_utf8.false)

pub returns : goal.returns
returns c = c.describe_by-2.ensures c.if-s-gt-MOST.false (sym (utf8-answer _ _ c.is_utf8.ensures) ∙ c.if-not-is_utf8.false)
