-- What the answer of `read` says: why it is refused, or the form with its byte strings, which the answer shows as places in the topic.
use Rattle.std.specs.Prelude.{ℕ, ◌+◌, ◌≡◌, List, [], ◌∷◌, length, Result, IfOk}
use Rattle.answer.specs.Answer.{Answer}
use Rattle.answer.specs.Refused.{says}
use Rattle.answer.specs.declared.Refused.{Refused}
use Rattle.text.specs.Places.{bytes_at, Within}
use Rattle.text.specs.Split.{split}
use Rattle.topic.specs.Words.{slash}
use Rattle.topic.specs.Form.{Form, state, description, value, set, target, alert, log, broadcast, other}
use Rattle.topic.specs.declared.Topic.{Topic}
use Rattle.topic.specs.declared.Topic.TheVariants.{State, Description, Value, Set, Target, Alert, Log, Broadcast, Other}

-- the levels of a part of a topic; an empty part has none
unfoldable pub levels_in : List ℕ → List (List ℕ)
levels_in [] = []
levels_in (b ∷ s) = split slash (b ∷ s)

-- the form with its byte strings
unfoldable pub form_at : List ℕ → Topic → Form
form_at t (State d) = state (bytes_at t d)
form_at t (Description d) = description (bytes_at t d)
form_at t (Value d n p) = value (bytes_at t d) (bytes_at t n) (bytes_at t p)
form_at t (Set d n p) = set (bytes_at t d) (bytes_at t n) (bytes_at t p)
form_at t (Target d n p) = target (bytes_at t d) (bytes_at t n) (bytes_at t p)
form_at t (Alert d a) = alert (bytes_at t d) (bytes_at t a)
form_at t (Log d l) = log (bytes_at t d) (bytes_at t l)
form_at t (Broadcast ids) = broadcast (levels_in (bytes_at t ids))
form_at t (Other d w ls) = other (bytes_at t d) (bytes_at t w) (levels_in (bytes_at t ls))

-- what the answer of `read` says
abbrev pub meaning : List ℕ → Result Topic Refused → Answer Form
meaning t r = says (form_at t) r

-- every place that an answer shows lies in the topic
abbrev pub Inside : ℕ → Topic → Type 0
Inside n (State d) = Within n d
Inside n (Description d) = Within n d
Inside n (Value d e p) = Within n d × Within n e × Within n p
Inside n (Set d e p) = Within n d × Within n e × Within n p
Inside n (Target d e p) = Within n d × Within n e × Within n p
Inside n (Alert d a) = Within n d × Within n a
Inside n (Log d l) = Within n d × Within n l
Inside n (Broadcast ids) = Within n ids
Inside n (Other d w ls) = Within n d × Within n w × Within n ls

-- Which place is shown, of several with equal bytes. `at` is where the levels after the first two begin, `n` where the topic ends: a device stands first, a node and
-- a property behind the `/` of the ID before, the ID of `other`'s word behind `/$`, and what comes last ends with the topic. With its bytes this settles a place.
abbrev pub Stands : ℕ → ℕ → Topic → Type 0
Stands at n (State d) = d.start ≡ at
Stands at n (Description d) = d.start ≡ at
Stands at n (Value d e p) = (d.start ≡ at) × (e.start ≡ d.end + 1) × (p.start ≡ e.end + 1)
Stands at n (Set d e p) = (d.start ≡ at) × (e.start ≡ d.end + 1) × (p.start ≡ e.end + 1)
Stands at n (Target d e p) = (d.start ≡ at) × (e.start ≡ d.end + 1) × (p.start ≡ e.end + 1)
Stands at n (Alert d a) = (d.start ≡ at) × (a.end ≡ n)
Stands at n (Log d l) = (d.start ≡ at) × (l.end ≡ n)
Stands at n (Broadcast ids) = ids.end ≡ n
Stands at n (Other d w ls) = (d.start ≡ at) × (w.start ≡ d.end + 2) × (ls.end ≡ n)

-- an answer that says what it should, with all its places in the topic and where they should be
pub record Shows (topic : List ℕ) (at : ℕ) (should : Answer Form) (r : Result Topic Refused) : Type 0 where
  pub says : meaning topic r ≡ should
  pub places : IfOk r (Inside (length topic))
  pub stand : IfOk r (Stands at (length topic))

-- where the levels after the domain and `5` begin
abbrev pub rest_of : List ℕ → ℕ
rest_of domain = length domain + 3
