use mathlib.Core.Path.{sym, ap, ◌∙◌}
use Rattle.json_text.specs.Strings.{text_step}
use Rattle.json_text.specs.declared.string.State.{State}
use Rattle.json_text.proofs.string.text_step.Goals as goal

pub returns-in-Plain : goal.returns-in-Plain
unfolding text_step
returns-in-Plain c = c.plain_step.ensures ∙ sym (ap (λ (x : State). text_step x c.args.b) c.in-Plain.is)

pub returns-in-Escape : goal.returns-in-Escape
unfolding text_step
returns-in-Escape c = c.escape_step.ensures ∙ sym (ap (λ (x : State). text_step x c.args.b) c.in-Escape.is)

pub returns-in-Hex4 : goal.returns-in-Hex4
unfolding text_step
returns-in-Hex4 c = c.hex_step.ensures ∙ sym (ap (λ (x : State). text_step x c.args.b) c.in-Hex4.is)

pub returns-in-Hex3 : goal.returns-in-Hex3
unfolding text_step
returns-in-Hex3 c = c.hex_step-in-Hex3.ensures ∙ sym (ap (λ (x : State). text_step x c.args.b) c.in-Hex3.is)

pub returns-in-Hex2 : goal.returns-in-Hex2
unfolding text_step
returns-in-Hex2 c = c.hex_step-in-Hex2.ensures ∙ sym (ap (λ (x : State). text_step x c.args.b) c.in-Hex2.is)

pub returns-in-Hex1 : goal.returns-in-Hex1
unfolding text_step
returns-in-Hex1 c = c.hex_step-in-Hex1.ensures ∙ sym (ap (λ (x : State). text_step x c.args.b) c.in-Hex1.is)
