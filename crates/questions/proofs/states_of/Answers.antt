use mathlib.Core.Path.{refl}
use Rattle.std.proofs.lemmas.Result.{err_from_is_err_and}
use Rattle.rules.specs.Questions.{ask_states, reply}
use Rattle.questions.specs.Meaning.{says_states}
use Rattle.questions.proofs.Answers.{refusal, answer}
use Rattle.questions.proofs.states_of.Goals as goal

pub states_in-requires : goal.states_in-requires
states_in-requires c = (c.in_ok-start.ensures.sound, c.in_ok-start.ensures.inside)

pub returns-in_err-start : goal.returns-in_err-start
unfolding reply says_states
returns-in_err-start c =
    let a = c.args in let p = err_from_is_err_and c.from_residual.result c.from_residual.ensures.1 in rw (p.1, p.2) (refusal (ask_states a.id.now) a.mem.now a.id.now _ refl _ c.in_err-start.ensures)

pub returns : goal.returns
unfolding reply
returns c =
    let a = c.args in answer (ask_states a.id.now) a.mem.now a.id.now _ refl c.in_ok-start.start _ c.in_ok-start.ensures c.states_in.ensures
