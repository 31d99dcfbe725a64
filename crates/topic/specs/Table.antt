-- Paper 01, "Topics": the table as a relation between the levels after the first two and forms, a constructor for each row.
use Rattle.std.specs.Prelude.{ℕ, ◌≡◌, true, false, List, [], ◌∷◌}
use Rattle.text.specs.Split.{split}
use Rattle.text.specs.Ids.{is_id}
use Rattle.topic.specs.Words.{slash, five, dollar, state_word, description_word, set_word, target_word, alert_word, log_word, broadcast_word, log_levels, reserved}
use Rattle.topic.specs.Form.{Form, state, description, value, set, target, alert, log, broadcast, other}
use Rattle.topic.specs.Topics.{one_of, filled, each}

abbrev pub Id : List ℕ → Type 0
Id l = is_id l ≡ true

pub data HasForm : List (List ℕ) → Form → Type 0 where
  -- ID/`$state`
  is_state : {d : List ℕ} → Id d → HasForm (d ∷ state_word ∷ []) (state d)
  -- ID/`$description`
  is_description : {d : List ℕ} → Id d → HasForm (d ∷ description_word ∷ []) (description d)
  -- ID/ID/ID
  is_value : {d n p : List ℕ} → Id d → Id n → Id p → HasForm (d ∷ n ∷ p ∷ []) (value d n p)
  -- ID/ID/ID/`set`
  is_set : {d n p : List ℕ} → Id d → Id n → Id p → HasForm (d ∷ n ∷ p ∷ set_word ∷ []) (set d n p)
  -- ID/ID/ID/`$target`
  is_target : {d n p : List ℕ} → Id d → Id n → Id p → HasForm (d ∷ n ∷ p ∷ target_word ∷ []) (target d n p)
  -- ID/`$alert`/ID
  is_alert : {d a : List ℕ} → Id d → Id a → HasForm (d ∷ alert_word ∷ a ∷ []) (alert d a)
  -- ID/`$log`/level
  is_log : {d l : List ℕ} → Id d → one_of log_levels l ≡ true → HasForm (d ∷ log_word ∷ l ∷ []) (log d l)
  -- `$broadcast`/ one or more IDs
  is_broadcast : {i : List ℕ} {ids : List (List ℕ)} → each is_id (i ∷ ids) ≡ true → HasForm (broadcast_word ∷ i ∷ ids) (broadcast (i ∷ ids))
  -- ID/`$`ID, then any number of levels, each not empty; the first word is not one of the four
  is_other : {d w : List ℕ} {ls : List (List ℕ)} → Id d → Id w → one_of reserved (dollar ∷ w) ≡ false → each filled ls ≡ true
      → HasForm (d ∷ (dollar ∷ w) ∷ ls) (other d w ls)

-- "The first two levels must be that domain and `5`", and the rest has the form
pub record HasTopicForm (domain topic : List ℕ) (f : Form) : Type 0 where
  pub rest : List (List ℕ)
  pub levels : split slash topic ≡ domain ∷ five ∷ rest
  pub form : HasForm rest f
