-- Paper 01, "Topics", the column "Flag": what each form asks of the flag "retained as published".
use Rattle.std.specs.Prelude.{ℕ, ◌≡◌, Bool, true, not, List, Result}
use Rattle.answer.specs.Answer.{Answer, refused, gives}
use Rattle.answer.specs.declared.Refused.{Refused}
use Rattle.topic.specs.Form.{Form, state, description, value, set, target, alert, log, broadcast, other}
use Rattle.topic.specs.Meaning.{meaning}
use Rattle.topic.specs.declared.Topic.{Topic}
use Rattle.topic.specs.declared.Flag.{Flag}
use Rattle.topic.specs.declared.Flag.TheVariants.{Retained, NotRetained, AsProperty, Either}

unfoldable pub flag_of : Form → Flag
flag_of (state d) = Retained
flag_of (description d) = Retained
flag_of (value d n p) = AsProperty
flag_of (set d n p) = NotRetained
flag_of (target d n p) = Retained
flag_of (alert d a) = Retained
flag_of (log d l) = Either
flag_of (broadcast ids) = Either
flag_of (other d w ls) = Either

-- what has no form asks nothing
unfoldable pub flag_in : Answer Form → Flag
flag_in (refused n) = Either
flag_in (gives f) = flag_of f

-- the flag that an answer's form asks for, in whatever topic its places are
abbrev pub Asks : Result Topic Refused → Flag → Type 0
Asks t r = (s : List ℕ) → r ≡ flag_in (meaning s t)

-- whether a message's flag is as asked; `AsProperty` is left to the property
unfoldable pub admits : Flag → Bool → Bool
admits Retained flag = flag
admits NotRetained flag = not flag
admits AsProperty flag = true
admits Either flag = true
