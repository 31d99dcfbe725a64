-- The topic of a form.
use Rattle.std.specs.Prelude.{ℕ, Bool, not, ◌&&◌, List, [], ◌∷◌}
use Rattle.text.specs.Split.{join_by, free}
use Rattle.text.specs.Ids.{is_id}
use Rattle.topic.specs.Words.{slash, dollar, five, state_word, description_word, set_word, target_word, alert_word, log_word, broadcast_word, log_levels, reserved}
use Rattle.topic.specs.Form.{Form, state, description, value, set, target, alert, log, broadcast, other}
use Rattle.topic.specs.Topics.{one_of, filled, end, each}

-- a form's row of the table, with its byte strings
unfoldable pub levels_of : Form → List (List ℕ)
levels_of (state d) = d ∷ state_word ∷ []
levels_of (description d) = d ∷ description_word ∷ []
levels_of (value d n p) = d ∷ n ∷ p ∷ []
levels_of (set d n p) = d ∷ n ∷ p ∷ set_word ∷ []
levels_of (target d n p) = d ∷ n ∷ p ∷ target_word ∷ []
levels_of (alert d a) = d ∷ alert_word ∷ a ∷ []
levels_of (log d l) = d ∷ log_word ∷ l ∷ []
levels_of (broadcast ids) = broadcast_word ∷ ids
levels_of (other d w ls) = d ∷ (dollar ∷ w) ∷ ls

-- the domain, `5` and the form's levels, with `/` between them
unfoldable pub write_topic : List ℕ → Form → List ℕ
write_topic domain f = join_by slash domain (five ∷ levels_of f)

-- "levels, each not empty, of any bytes but `/`"
unfoldable pub a_level : List ℕ → Bool
a_level l = filled l && free slash l

-- the IDs are IDs, and the other byte strings are as the form's row says
unfoldable pub valid : Form → Bool
valid (state d) = is_id d
valid (description d) = is_id d
valid (value d n p) = is_id d && (is_id n && is_id p)
valid (set d n p) = is_id d && (is_id n && is_id p)
valid (target d n p) = is_id d && (is_id n && is_id p)
valid (alert d a) = is_id d && is_id a
valid (log d l) = is_id d && one_of log_levels l
valid (broadcast ids) = not (end ids) && each is_id ids
valid (other d w ls) = is_id d && (is_id w && (not (one_of reserved (dollar ∷ w)) && each a_level ls))
