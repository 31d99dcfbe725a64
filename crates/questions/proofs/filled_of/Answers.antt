use native.Mathlib.Omega.{arith}
use Prim.Native.Nat.{ℕ}
use mathlib.Core.Path.{refl, ap}
use Rattle.answer.specs.Answer.{gives}
use Rattle.std.proofs.lemmas.Result.{err_from_is_err_and}
use Rattle.rules.specs.Questions.{ask_filled, a_number, reply}
use Rattle.questions.specs.Meaning.{says_number}
use Rattle.questions.proofs.Answers.{refusal, answer_in}
use Rattle.questions.proofs.filled_of.Goals as goal

pub room_at-requires : goal.room_at-requires
room_at-requires c = omega (arith, c.in_ok-seek.ensures.inside)

pub returns-in_err-seek : goal.returns-in_err-seek
unfolding reply says_number
returns-in_err-seek c =
    let a = c.args in let p = err_from_is_err_and c.from_residual.result c.from_residual.ensures.1 in rw (p.1, p.2) (refusal (ask_filled a.id.now) a.mem.now a.id.now _ refl _ c.in_err-seek.ensures)

pub returns : goal.returns
unfolding reply says_number
returns c =
    let a = c.args in answer_in (ask_filled a.id.now) a.mem.now a.id.now _ refl c.in_ok-seek.field-0 c.room_at.result.now _ c.in_ok-seek.ensures c.room_at.ensures (ap (λ (n : ℕ). gives (a_number n)) c.filled.ensures)
