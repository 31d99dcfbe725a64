use mathlib.Core.Path.{sym, ◌∙◌}
use Rattle.verdict.proofs.Forms.{no_text, wrong-flag, right-flag}
use Rattle.verdict.proofs.refusal.Goals as goal

pub returns-then-not-is_text : goal.returns-then-not-is_text
returns-then-not-is_text c = λ topic. no_text _ _ _ (sym c.is_text.ensures ∙ c.if-not-is_text.true)

pub returns-then-not-admits : goal.returns-then-not-admits
returns-then-not-admits c = λ topic. wrong-flag _ _ _ (sym c.is_text.ensures ∙ c.if-not-is_text.false) _ (c.flag.ensures topic) (sym c.admits.ensures ∙ c.if-not-admits.true)

pub returns : goal.returns
returns c = λ topic. right-flag _ _ _ (sym c.is_text.ensures ∙ c.if-not-is_text.false) _ (c.flag.ensures topic) (sym c.admits.ensures ∙ c.if-not-admits.false)
