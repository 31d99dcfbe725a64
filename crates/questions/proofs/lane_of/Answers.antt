use native.Mathlib.Omega.{arith}
use mathlib.Core.Path.{refl}
use Rattle.std.proofs.lemmas.Result.{err_from_is_err_and}
use Rattle.rules.specs.Questions.{ask_lane, reply}
use Rattle.questions.specs.Meaning.{says_held}
use Rattle.questions.proofs.Answers.{refusal, answer}
use Rattle.questions.proofs.lane_of.Goals as goal

pub lane_in-requires : goal.lane_in-requires
lane_in-requires c = omega (arith, c.in_ok-start.ensures.inside)

pub returns-in_err-start : goal.returns-in_err-start
unfolding reply says_held
returns-in_err-start c =
    let a = c.args in let p = err_from_is_err_and c.from_residual.result c.from_residual.ensures.1 in rw (p.1, p.2) (record { did = refusal (ask_lane a.id.now a.node.now a.property.now a.kind) a.mem.now a.id.now _ refl _ c.in_err-start.ensures; places = tt })

pub returns : goal.returns
unfolding reply
returns c =
    let a = c.args in record { did = answer (ask_lane a.id.now a.node.now a.property.now a.kind) a.mem.now a.id.now _ refl c.in_ok-start.start _ c.in_ok-start.ensures c.lane_in.ensures.says; places = c.lane_in.ensures.places }
