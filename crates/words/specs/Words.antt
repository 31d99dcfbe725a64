-- What a table answers, as words of a line. States and datatypes have the paper's words: crates rules and payload.
use Rattle.std.specs.Prelude.{ℕ, ◌-◌, ◌^◌, List, ◌++◌, cond, leb}
use Rattle.text.specs.Ascii.{ascii}
use Rattle.lines.specs.Number.{decimal_text}

-- "`refused N`"
unfoldable pub refusal : ℕ → List ℕ
refusal n = ascii "refused " ++ decimal_text n

-- paper 02, K1, "Split it, with the byte place": "`refused N PLACE`"
unfoldable pub refusal_at : ℕ → ℕ → List ℕ
refusal_at n place = refusal n ++ (ascii " " ++ decimal_text place)

-- the whole number that is shown plus 2^63, with a sign where it is below 0
unfoldable pub signed : ℕ → List ℕ
signed v = cond (leb (2 ^ 63) v) (decimal_text (v - 2 ^ 63)) (ascii "-" ++ decimal_text (2 ^ 63 - v))
