-- docs/PROGRAMS.md: how answers are written.
use Rattle.std.specs.Prelude.{ℕ, List, [], ◌∷◌, ◌++◌, Bool, true, false, Option, None, Some}
use Rattle.answer.specs.Answer.{Answer, refused, gives}
use Rattle.text.specs.Ascii.{ascii}
use Rattle.lines.specs.Hex.{hex_of}
use Rattle.lines.specs.Number.{decimal_text}
use Rattle.topic.specs.Form.{Form, state, description, value, set, target, alert, log, broadcast, other}
use Rattle.trace.specs.Layout.{Event}

-- "A line of another shape answers `?`."
abbrev pub unknown : List ℕ
unknown = ascii "?"

-- go on with what a word says; where it says nothing, the line has another shape
unfoldable pub given : {A : Type 0} → Option A → (A → List ℕ) → List ℕ
given None go = unknown
given (Some a) go = go a

-- "→ `yes` or `no`"
unfoldable pub yes_or_no : Bool → List ℕ
yes_or_no true = ascii "yes"
yes_or_no false = ascii "no"

-- numbers, parted by one space
unfoldable pub numbers_text : ℕ → List ℕ → List ℕ
numbers_text n [] = decimal_text n
numbers_text n (m ∷ ms) = decimal_text n ++ (ascii " " ++ numbers_text m ms)

-- "or `refused N`"; paper 02, K1, "Split it, with the byte place": "or `refused N PLACE`"
unfoldable pub told : {A : Type 0} → (A → List ℕ) → Answer A → List ℕ
told say (refused r) = ascii "refused " ++ numbers_text r.number r.tells
told say (gives a) = say a

-- "→ `events N`"
unfoldable pub events_text : ℕ → List ℕ
events_text n = ascii "events " ++ decimal_text n

-- "the form's name and its IDs as text": one more word
unfoldable pub also : List ℕ → List ℕ
also id = ascii " " ++ id

unfoldable pub three_ids : List ℕ → List ℕ → List ℕ → List ℕ
three_ids d n p = also d ++ (also n ++ also p)

-- "(`state lamp`, `set lamp light on`, `alert lamp low`, `log lamp`, `other lamp`, `broadcast`)"
unfoldable pub form_text : Form → List ℕ
form_text (state d) = ascii "state" ++ also d
form_text (description d) = ascii "description" ++ also d
form_text (value d n p) = ascii "value" ++ three_ids d n p
form_text (set d n p) = ascii "set" ++ three_ids d n p
form_text (target d n p) = ascii "target" ++ three_ids d n p
form_text (alert d a) = ascii "alert" ++ (also d ++ also a)
form_text (log d l) = ascii "log" ++ also d
form_text (broadcast ids) = ascii "broadcast"
form_text (other d w ls) = ascii "other" ++ also d

-- "`TIME TOPICHEX 0|1 PAYLOADHEX`"
unfoldable pub flag_text : Bool → List ℕ
flag_text true = ascii " 1 "
flag_text false = ascii " 0 "

unfoldable pub event_text : Event → List ℕ
event_text e = decimal_text e.time ++ (ascii " " ++ (hex_of e.topic ++ (flag_text e.retained ++ hex_of e.payload)))

-- "`used N BUFFERHEX` (the whole buffer afterwards)"
unfoldable pub used_text : List ℕ → ℕ → List ℕ
used_text buffer n = ascii "used " ++ (decimal_text n ++ (ascii " " ++ hex_of buffer))
