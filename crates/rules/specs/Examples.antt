-- Paper 01, "Known examples": the worked trace, as calls on a table opened with `homie`, D 4, J 3, and as answers.
use Rattle.std.specs.Prelude.{ℕ, List, [], ◌∷◌, true, false, None, Some}
use Rattle.text.specs.Ascii.{ascii}
use Rattle.payload.specs.declared.Datatype.TheVariants as D
use Rattle.answer.specs.Answer.{Answer, refused, gives, only}
use Rattle.book.specs.Book.{Call, message, question, steps}
use Rattle.rules.specs.declared.DeviceState.TheVariants.{Init}
use Rattle.rules.specs.declared.LaneKind.TheVariants as L
use Rattle.rules.specs.Messages.{Message}
use Rattle.rules.specs.Questions.{Question, ask_count, ask_nth, ask_states, ask_property, ask_lane, Value, taken, a_number, an_id, two_states, a_property, a_lane}

abbrev lamp : List ℕ
lamp = ascii "lamp"

abbrev light : List ℕ
light = ascii "light"

abbrev on : List ℕ
on = ascii "on"

abbrev pub calls : List (Call Message Question)
calls =
    message (record { time = 4294967290; topic = ascii "homie/5/lamp/$state"; retained = true; payload = ascii "init" })
    ∷ message (record { time = 4294967300; topic = ascii "homie/5/lamp/$description"; retained = true; payload = ascii "{\"homie\":\"5.0\",\"version\":1,\"nodes\":{\"light\":{\"properties\":{\"on\":{\"datatype\":\"boolean\",\"settable\":true}}}}}" })
    ∷ message (record { time = 4294967300; topic = ascii "homie/5/lamp/light/on/set"; retained = false; payload = ascii "true" })
    ∷ message (record { time = 4294967301; topic = ascii "homie/5/lamp/light/on"; retained = true; payload = ascii "TRUE" })
    ∷ question ask_count
    ∷ question (ask_nth 0)
    ∷ question (ask_states lamp)
    ∷ question (ask_property lamp 0)
    ∷ question (ask_lane lamp light on L.Value)
    ∷ question (ask_lane lamp light on L.Target)
    ∷ question (ask_lane lamp light on L.Asked)
    ∷ steps
    ∷ []

abbrev pub expected : List (Answer Value)
expected =
    gives taken
    ∷ gives taken
    ∷ gives taken
    ∷ refused (only 14)
    ∷ gives (a_number 1)
    ∷ gives (an_id lamp)
    ∷ gives (two_states Init Init 4294967290)
    ∷ gives (a_property (record { node = light; id = on; datatype = D.Boolean; format = ascii "false,true"; settable = true; retained = true }))
    ∷ gives (a_lane None)
    ∷ gives (a_lane None)
    ∷ gives (a_lane (Some (record { time = 4294967300; payload = ascii "true" })))
    ∷ gives (a_number 3)
    ∷ []
