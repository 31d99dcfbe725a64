-- The words of topics, as byte strings.
use Rattle.std.specs.Prelude.{ℕ, List, [], ◌∷◌}
use Rattle.text.specs.Ascii.{ascii}

abbrev pub slash : ℕ
slash = 47

abbrev pub dollar : ℕ
dollar = 36

abbrev pub five : List ℕ
five = ascii "5"

abbrev pub state_word : List ℕ
state_word = ascii "$state"

abbrev pub description_word : List ℕ
description_word = ascii "$description"

abbrev pub set_word : List ℕ
set_word = ascii "set"

abbrev pub target_word : List ℕ
target_word = ascii "$target"

abbrev pub alert_word : List ℕ
alert_word = ascii "$alert"

abbrev pub log_word : List ℕ
log_word = ascii "$log"

abbrev pub broadcast_word : List ℕ
broadcast_word = ascii "$broadcast"

-- Paper 01, "Topics", row log: "debug, info, warn, error, fatal"
abbrev pub log_levels : List (List ℕ)
log_levels = ascii "debug" ∷ ascii "info" ∷ ascii "warn" ∷ ascii "error" ∷ ascii "fatal" ∷ []

-- Paper 01, "Topics": "`other` excludes first words `$state`, `$description`, `$alert`, `$log`"
abbrev pub reserved : List (List ℕ)
reserved = state_word ∷ description_word ∷ alert_word ∷ log_word ∷ []
