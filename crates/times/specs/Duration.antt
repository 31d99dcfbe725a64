-- Paper 01, "Payloads of properties": "duration: `PT`, then at least one of hours `H`, minutes `M`, seconds `S` in that order, 1 to 9 digits each".
use Rattle.std.specs.Prelude.{ℕ, List, Bool}
use Rattle.abnf.specs.Abnf.{Abnf, ◌·◌, ◌//◌, x, opt, repeat}
use Rattle.abnf.specs.Accepts.{accepts}
use Rattle.times.specs.Datetime.{DIGIT}

-- 1 to 9 digits and a letter
abbrev pub amount : ℕ → Abnf ⊥
amount letter = repeat 1 9 DIGIT · x letter

abbrev pub hours : Abnf ⊥
hours = amount 72

abbrev pub minutes : Abnf ⊥
minutes = amount 77

abbrev pub seconds : Abnf ⊥
seconds = amount 83

abbrev pub duration : Abnf ⊥
duration = x 80 · x 84 · (hours · opt minutes · opt seconds // minutes · opt seconds // seconds)

unfoldable pub is_duration : List ℕ → Bool
unfolding accepts
is_duration s = accepts duration s
