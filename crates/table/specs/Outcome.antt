-- The paper's number and values of each answer; paper 02, K1: a description's refusal tells its place.
use Rattle.std.specs.Prelude.{ℕ, Result, Ok, Err}
use Rattle.answer.specs.declared.Refused.{Refused}
use Rattle.answer.specs.Refused.{says, refusal_of}
use Rattle.answer.specs.Answer.{Refusal, Answer, refused, gives, only, placed}
use Rattle.faults.specs.Faults.{fault_number}
use Rattle.rules.specs.Questions.{Value, taken, a_number}
use Rattle.table.specs.declared.Error.{Error}

-- the refusal that a message meets: a number alone, or with the place of a fault in a description
abbrev pub error_of : Error → Refusal
error_of (Error.Refused r) = refusal_of r
error_of (Error.Faulty f) = placed (fault_number f.kind) f.place

-- what the answer to a message or a step back says
abbrev pub said : Result Unit Error → Answer Value
said (Ok u) = gives taken
said (Err e) = refused (error_of e)

-- "steps on offer"
abbrev pub offer : Result ℕ Refused → Answer Value
offer = says a_number
