use native.Mathlib.Omega.{arith}
use mathlib.Core.Path.{refl}
use Rattle.std.proofs.lemmas.Result.{err_from_is_err_and}
use Rattle.rules.specs.Questions.{ask_property, reply}
use Rattle.questions.specs.Meaning.{says_property}
use Rattle.questions.proofs.Answers.{refusal, answer}
use Rattle.questions.proofs.property_of.Goals as goal

pub property_in-requires : goal.property_in-requires
property_in-requires c = omega (arith, c.in_ok-start.ensures.inside)

pub returns-in_err-start : goal.returns-in_err-start
unfolding reply says_property
returns-in_err-start c =
    let a = c.args in let p = err_from_is_err_and c.from_residual.result c.from_residual.ensures.1 in rw (p.1, p.2) (record { did = refusal (ask_property a.id.now a.i) a.mem.now a.id.now _ refl _ c.in_err-start.ensures; places = tt })

pub returns : goal.returns
unfolding reply
returns c =
    let a = c.args in record { did = answer (ask_property a.id.now a.i) a.mem.now a.id.now _ refl c.in_ok-start.start _ c.in_ok-start.ensures c.property_in.ensures.says; places = c.property_in.ensures.places }
