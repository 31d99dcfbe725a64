-- Paper 01, "Topics": which form a topic has.
use Rattle.std.specs.Prelude.{ℕ, List, [], ◌∷◌, Bool, true, false, not, ◌&&◌, ◌||◌, eqb, get_or, drop}
use Rattle.answer.specs.Answer.{Answer, refused, gives, require, only}
use Rattle.text.specs.Bytes.{eq_bytes}
use Rattle.text.specs.Split.{split}
use Rattle.text.specs.Ids.{is_id}
use Rattle.topic.specs.Words.{slash, dollar, five, state_word, description_word, set_word, target_word, alert_word, log_word, broadcast_word, log_levels, reserved}
use Rattle.topic.specs.Form.{Form, state, description, value, set, target, alert, log, broadcast, other}

-- ---- what a level may be: an ID (crate text, specs/Ids.antt), a word, ..

unfoldable pub is : List ℕ → List ℕ → Bool
is word l = eq_bytes l word

-- .. one of some words, ..
unfoldable pub one_of : List (List ℕ) → List ℕ → Bool
one_of [] l = false
one_of (word ∷ words) l = eq_bytes l word || one_of words l

-- .. `$`ID, ..
unfoldable pub dollar_id : List ℕ → Bool
dollar_id [] = false
dollar_id (b ∷ l) = eqb b dollar && is_id l

-- .. `$`ID that `other` may have as its first word, ..
unfoldable pub other_word : List ℕ → Bool
other_word l = dollar_id l && not (one_of reserved l)

-- .. or anything that is not empty
unfoldable pub filled : List ℕ → Bool
filled [] = false
filled (b ∷ l) = true

-- ---- the rest of a topic against a row of the table: its levels pass the row's tests one by one, and what is left passes the last

unfoldable pub fits : List (List ℕ → Bool) → (List (List ℕ) → Bool) → List (List ℕ) → Bool
fits [] left ls = left ls
fits (test ∷ tests) left [] = false
fits (test ∷ tests) left (l ∷ ls) = test l && fits tests left ls

-- nothing is left
unfoldable pub end : List (List ℕ) → Bool
end [] = true
end (l ∷ ls) = false

-- any number of levels is left, each of which passes a test
unfoldable pub each : (List ℕ → Bool) → List (List ℕ) → Bool
each test [] = true
each test (l ∷ ls) = test l && each test ls

unfoldable pub when◌give◌else◌ : {A : Type 0} → Bool → A → Answer A → Answer A
when true give a else next = gives a
when false give a else next = next

infixr 10 when◌give◌else◌
-- the level of that number, from 0
abbrev pub level : List (List ℕ) → ℕ → List ℕ
level ls i = get_or ls i []

-- The table, row by row. 9: "no such form".
unfoldable pub form_of : List (List ℕ) → Answer Form
form_of ls =
    when fits (is_id ∷ is state_word ∷ []) end ls give state (level ls 0) else
    when fits (is_id ∷ is description_word ∷ []) end ls give description (level ls 0) else
    when fits (is_id ∷ is_id ∷ is_id ∷ []) end ls give value (level ls 0) (level ls 1) (level ls 2) else
    when fits (is_id ∷ is_id ∷ is_id ∷ is set_word ∷ []) end ls give set (level ls 0) (level ls 1) (level ls 2) else
    when fits (is_id ∷ is_id ∷ is_id ∷ is target_word ∷ []) end ls give target (level ls 0) (level ls 1) (level ls 2) else
    when fits (is_id ∷ is alert_word ∷ is_id ∷ []) end ls give alert (level ls 0) (level ls 2) else
    when fits (is_id ∷ is log_word ∷ one_of log_levels ∷ []) end ls give log (level ls 0) (level ls 2) else
    when fits (is broadcast_word ∷ is_id ∷ []) (each is_id) ls give broadcast (drop 1 ls) else
    when fits (is_id ∷ other_word ∷ []) (each filled) ls give other (level ls 0) (drop 1 (level ls 1)) (drop 2 ls) else
    refused (only 9)

-- "The first two levels must be that domain and `5`." 8: "first two levels differ".
unfoldable pub read_levels : List ℕ → List (List ℕ) → Answer Form
read_levels domain [] = refused (only 8)
read_levels domain (l ∷ []) = refused (only 8)
read_levels domain (l ∷ (m ∷ ls)) = require (eq_bytes l domain && eq_bytes m five) 8 (form_of ls)

-- a topic's levels are the parts between `/`
unfoldable pub read_topic : List ℕ → List ℕ → Answer Form
read_topic domain topic = read_levels domain (split slash topic)
