-- Topics, datatypes and formats: what is shown of each answer of crates `topic` and `payload`.
use Rattle.std.specs.Prelude.{ℕ, [], ◌∷◌, None, Option, Some, Result, Ok, Err}
use Rattle.topic.specs.declared.Topic.{Topic}
use Rattle.topic.specs.declared.Topic.TheVariants.{State, Description, Value, Set, Target, Alert, Log, Broadcast, Other}
use Rattle.topic.specs.declared.Flag.{Flag}
use Rattle.topic.specs.declared.Flag.TheVariants.{Retained, NotRetained, AsProperty, Either}
use Rattle.topic.specs.Form.{Form}
use Rattle.topic.specs.Flags.{flag_of}
use Rattle.answer.specs.Answer.{Answer, refused, gives}
use Rattle.payload.specs.declared.Datatype.{Datatype}
use Rattle.answer.specs.Refused.{number_of}
use Rattle.answer.specs.declared.Refused.{Refused}
use Rattle.payload.specs.Datatypes.{code_of}
use Rattle.payload.specs.declared.Format.{Format}
use Rattle.payload.specs.declared.Format.TheVariants.{AsGiven, Colon, FalseTrue, NotKept}
use Rattle.reply.specs.Reply.{Reply, says, refuses, refusal_code, yes, no}

-- The number of the form in the order of the paper's table, from 0; then where each of its byte strings starts and ends, in the order in which they stand in the topic.
unfoldable pub show_form : Topic → Reply
show_form (State d) = says (0 ∷ d.start ∷ d.end ∷ [])
show_form (Description d) = says (1 ∷ d.start ∷ d.end ∷ [])
show_form (Value d n p) = says (2 ∷ d.start ∷ d.end ∷ n.start ∷ n.end ∷ p.start ∷ p.end ∷ [])
show_form (Set d n p) = says (3 ∷ d.start ∷ d.end ∷ n.start ∷ n.end ∷ p.start ∷ p.end ∷ [])
show_form (Target d n p) = says (4 ∷ d.start ∷ d.end ∷ n.start ∷ n.end ∷ p.start ∷ p.end ∷ [])
show_form (Alert d a) = says (5 ∷ d.start ∷ d.end ∷ a.start ∷ a.end ∷ [])
show_form (Log d l) = says (6 ∷ d.start ∷ d.end ∷ l.start ∷ l.end ∷ [])
show_form (Broadcast ids) = says (7 ∷ ids.start ∷ ids.end ∷ [])
show_form (Other d w ls) = says (8 ∷ d.start ∷ d.end ∷ w.start ∷ w.end ∷ ls.start ∷ ls.end ∷ [])

unfoldable pub show_topic : Result Topic Refused → Reply
show_topic (Ok t) = show_form t
show_topic (Err r) = refuses (number_of r)

-- the column "Flag" of that table
unfoldable pub flag_number : Flag → ℕ
flag_number NotRetained = 0
flag_number Retained = 1
flag_number Either = 2
flag_number AsProperty = 3

-- what the form of a topic, as it is read, asks of a message's flag
unfoldable pub show_flag : Answer Form → Reply
show_flag (refused r) = refuses (refusal_code r)
show_flag (gives f) = says (flag_number (flag_of f) ∷ [])

-- the number of the datatype in the paper's order, from 0
unfoldable pub show_named : Option Datatype → Reply
show_named None = no
show_named (Some d) = yes (code_of d ∷ [])

-- what is kept of a valid format: 0 its own bytes, 1 `:`, 2 `false,true`, 3 nothing. The promise is on the bytes that are kept: of two cases that keep the same ones
-- (a given `:` as 0 or 1, a given `false,true` as 0 or 2, an empty format that is not kept as 0 or 3) it leaves open which is shown
unfoldable pub show_format : Option Format → Reply
show_format None = no
show_format (Some AsGiven) = yes (0 ∷ [])
show_format (Some Colon) = yes (1 ∷ [])
show_format (Some FalseTrue) = yes (2 ∷ [])
show_format (Some NotKept) = yes (3 ∷ [])
