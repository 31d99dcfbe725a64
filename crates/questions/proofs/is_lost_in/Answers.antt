use mathlib.Core.Path.{sym, ap, ◌∙◌}
use Rattle.rules.specs.Questions.{is_lost, found_lost}
use Rattle.questions.proofs.Effective.{not-lost}
use Rattle.questions.proofs.is_lost_in.Goals as goal

pub returns-in-Lost : goal.returns-in-Lost
unfolding found_lost is_lost
returns-in-Lost c = sym (ap is_lost c.in-Lost.is) ∙ ap is_lost c.state.ensures

pub returns-in_default : goal.returns-in_default
unfolding found_lost
returns-in_default c = not-lost _ c.in_default.not-Lost ∙ ap is_lost c.state.ensures
