-- Why a call of the code is refused, in the paper's numbers; and what an answer of the code says.
use Rattle.std.specs.Prelude.{ℕ, Result, Ok, Err}
use Rattle.answer.specs.Answer.{Refusal, Answer, refused, gives, only}
use Rattle.answer.specs.declared.Refused.{Refused}

-- Paper 01, "Refusal numbers"
abbrev pub number_of : Refused → ℕ
number_of Refused.BadHeader = 1
number_of Refused.BadEntry = 2
number_of Refused.NoSuchNumber = 3
number_of Refused.TooLong = 4
number_of Refused.BadOpening = 5
number_of Refused.NotSound = 6
number_of Refused.Earlier = 7
number_of Refused.OtherDomain = 8
number_of Refused.NoForm = 9
number_of Refused.NotUtf8 = 10
number_of Refused.WrongFlag = 11
number_of Refused.NoDevice = 12
number_of Refused.Full = 13
number_of Refused.BadPayload = 14
number_of Refused.NoProperty = 16
number_of Refused.NotSettable = 17
number_of Refused.NoStep = 18

-- the refusal that the code tells: its number in "Refusal numbers", and nothing besides
abbrev pub refusal_of : Refused → Refusal
refusal_of r = only (number_of r)

-- what an answer of the code says, by what its value says
abbrev pub says : {A B : Type 0} → (A → B) → Result A Refused → Answer B
says f (Ok a) = gives (f a)
says f (Err r) = refused (refusal_of r)
