-- UTF-8 a byte at a time: which bytes may follow, and where a byte string stops being UTF-8.
use Rattle.std.specs.Prelude.{ℕ, zero, suc, List, [], ◌∷◌, true, false, cond, leb, eqb}
use Rattle.abnf.specs.Abnf.{◌∈◌}
use Rattle.abnf.specs.Accepts.{in_range}
use Rattle.text.specs.Utf8.{UTF8-octets}

-- the language (RFC 3629)
abbrev pub Utf8 : List ℕ → Type 0
Utf8 s = s ∈ UTF8-octets

-- so many bytes of a character are due, the first of them from lo to hi
pub record Due : Type 0 where
  pub count : ℕ
  pub lo : ℕ
  pub hi : ℕ

abbrev pub due : ℕ → ℕ → ℕ → Due
due n lo hi = record { count = n; lo = lo; hi = hi }

-- between characters; and where no byte can follow
abbrev pub ready : Due
ready = due 0 0x80 0xBF

abbrev pub never : Due
never = due 1 1 0

-- the range of the second byte, by the first
unfoldable pub low : ℕ → ℕ
low b = cond (eqb b 0xE0) 0xA0 (cond (eqb b 0xF0) 0x90 0x80)

unfoldable pub high : ℕ → ℕ
high b = cond (eqb b 0xED) 0x9F (cond (eqb b 0xF4) 0x8F 0xBF)

-- what is due after a first byte
unfoldable pub first : ℕ → Due
first b = cond (leb b 0x7F) ready (cond (leb b 0xC1) never (cond (leb b 0xDF) (due 1 0x80 0xBF) (cond (leb b 0xEF) (due 2 (low b) (high b)) (cond (leb b 0xF4) (due 3 (low b) (high b)) never))))

unfoldable pub later : ℕ → ℕ → ℕ → ℕ → Due
later zero lo hi b = first b
later (suc n) lo hi b = cond (in_range lo hi b) (due n 0x80 0xBF) never

-- what is due after one more byte
unfoldable pub next : Due → ℕ → Due
next d b = later d.count d.lo d.hi b

-- how many bytes of s may stand one after another where d is due: where no byte can follow, the range is empty
unfoldable pub utf8_reach : Due → List ℕ → ℕ
utf8_reach d [] = 0
utf8_reach d (b ∷ s) = elim (leb (next d b).lo (next d b).hi) [ true ↦ suc (utf8_reach (next d b) s) | false ↦ 0 ]

-- Paper 02, K1: "the first byte at which no valid continuation exists (the length if the text ends early)", as UTF-8; the length too where all of it is UTF-8
unfoldable pub utf8_place : List ℕ → ℕ
utf8_place s = utf8_reach ready s
