-- JSON's strings (RFC 8259, 7), byte by byte.
use Rattle.std.specs.Prelude.{ℕ, ◌+◌, ◌-◌, List, [], ◌∷◌, Bool, true, false, ◌||◌, take, drop, eqb, Err, Ok, Result}
use Rattle.abnf.specs.Accepts.{in_range}
use Rattle.json_text.specs.Bytes.{byte}
use Rattle.json_text.specs.declared.string.State.{State}
use Rattle.json_text.specs.declared.string.State.TheVariants.{Plain, Escape, Hex4, Hex3, Hex2, Hex1}
use Rattle.json_text.specs.declared.string.Move.{Move}
use Rattle.json_text.specs.declared.string.Move.TheVariants.{Go, Shut, Stuck}

unfoldable pub is_hex : ℕ → Bool
is_hex b = in_range 48 57 b || (in_range 65 70 b || in_range 97 102 b)

-- what may stand after a backslash, but for u: " / \ b f n r t
unfoldable pub is_escape : ℕ → Bool
is_escape b = eqb b 34 || (eqb b 47 || (eqb b 92 || (eqb b 98 || (eqb b 102 || (eqb b 110 || (eqb b 114 || eqb b 116))))))

-- a quote shuts the string, a backslash begins an escape, a control byte is refused
unfoldable pub plain_step : ℕ → Move
plain_step b = elim (eqb b 34) [
  | true ↦ Shut
  | false ↦ elim (eqb b 92) [ true ↦ Go Escape | false ↦ elim (in_range 32 255 b) [ true ↦ Go Plain | false ↦ Stuck ] ]
]

unfoldable pub escape_step : ℕ → Move
escape_step b = elim (eqb b 117) [ true ↦ Go Hex4 | false ↦ elim (is_escape b) [ true ↦ Go Plain | false ↦ Stuck ] ]

unfoldable pub hex_step : State → ℕ → Move
hex_step t b = elim (is_hex b) [ true ↦ Go t | false ↦ Stuck ]

unfoldable pub text_step : State → ℕ → Move
text_step Plain b = plain_step b
text_step Escape b = escape_step b
text_step Hex4 b = hex_step Hex3 b
text_step Hex3 b = hex_step Hex2 b
text_step Hex2 b = hex_step Hex1 b
text_step Hex1 b = hex_step Plain b

-- the rest of a string from a state, `at` the index of the list's first byte
unfoldable pub text : State → List ℕ → ℕ → Result ℕ ℕ
text t [] at = Err at
text t (b ∷ bs) at = elim (text_step t b) [ Go u ↦ text u bs (at + 1) | Shut ↦ Ok (at + 1) | Stuck ↦ Err at ]

-- the string at `at`, from its opening quote
unfoldable pub string_at : List ℕ → ℕ → Result ℕ ℕ
string_at s at = elim (eqb (byte s at) 34) [ true ↦ text Plain (drop (at + 1) s) (at + 1) | false ↦ Err at ]

-- the bytes between the quotes of the string at k, as sent. None where no string stands there
unfoldable pub raw_bytes : List ℕ → ℕ → List ℕ
raw_bytes s k = elim (string_at s k) [ Ok e ↦ take ((e - 1) - (k + 1)) (drop (k + 1) s) | Err e ↦ [] ]

-- no backslash
unfoldable pub is_plain : List ℕ → Bool
is_plain [] = true
is_plain (b ∷ bs) = elim (eqb b 92) [ true ↦ false | false ↦ is_plain bs ]
