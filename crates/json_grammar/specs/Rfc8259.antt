-- The grammar of RFC 8259, rule by rule as the RFC has them, with the number of the section before each. A rule stands after those that
-- it uses; `object` and `array`, which come to stand within themselves, are used by name. The grammar is over bytes; that a JSON text is
-- UTF-8 (RFC 8259, 8.1) is judged apart, before (crate text, `is_utf8`).
use Rattle.std.specs.Prelude.{ℕ, List, [], ◌∷◌}
use Rattle.abnf.specs.Abnf.{◌·◌, Abnf, ◌–◌, ◌//◌, ∗◌, rule, Words, x, opt, some, lit}

pub data Name : Type 0 where
  Object Array : Name

-- 2: ws = *( %x20 / %x09 / %x0A / %x0D )
abbrev pub ws : Abnf Name
ws = ∗ (x 0x20 // x 0x09 // x 0x0A // x 0x0D)

-- 2: the six structural characters
abbrev pub begin-array : Abnf Name
begin-array = ws · x 0x5B · ws

abbrev pub begin-object : Abnf Name
begin-object = ws · x 0x7B · ws

abbrev pub end-array : Abnf Name
end-array = ws · x 0x5D · ws

abbrev pub end-object : Abnf Name
end-object = ws · x 0x7D · ws

abbrev pub name-separator : Abnf Name
name-separator = ws · x 0x3A · ws

abbrev pub value-separator : Abnf Name
value-separator = ws · x 0x2C · ws

-- 3: false, null, true
abbrev pub false : Abnf Name
false = lit (0x66 ∷ 0x61 ∷ 0x6C ∷ 0x73 ∷ 0x65 ∷ [])

abbrev pub null : Abnf Name
null = lit (0x6E ∷ 0x75 ∷ 0x6C ∷ 0x6C ∷ [])

abbrev pub true : Abnf Name
true = lit (0x74 ∷ 0x72 ∷ 0x75 ∷ 0x65 ∷ [])

-- 6: number = [ minus ] int [ frac ] [ exp ]; DIGIT is of RFC 5234
abbrev pub DIGIT : Abnf Name
DIGIT = 0x30 – 0x39

abbrev pub digit1-9 : Abnf Name
digit1-9 = 0x31 – 0x39

abbrev pub decimal-point : Abnf Name
decimal-point = x 0x2E

abbrev pub e : Abnf Name
e = x 0x65 // x 0x45

abbrev pub minus : Abnf Name
minus = x 0x2D

abbrev pub plus : Abnf Name
plus = x 0x2B

abbrev pub zero : Abnf Name
zero = x 0x30

abbrev pub int : Abnf Name
int = zero // (digit1-9 · ∗ DIGIT)

abbrev pub frac : Abnf Name
frac = decimal-point · some DIGIT

abbrev pub exp : Abnf Name
exp = e · opt (minus // plus) · some DIGIT

abbrev pub number : Abnf Name
number = opt minus · int · opt frac · opt exp

-- 7: string = quotation-mark *char quotation-mark; HEXDIG is of RFC 5234, whose letters are of either case
abbrev pub HEXDIG : Abnf Name
HEXDIG = DIGIT // 0x41 – 0x46 // 0x61 – 0x66

abbrev pub quotation-mark : Abnf Name
quotation-mark = x 0x22

abbrev pub escape : Abnf Name
escape = x 0x5C

-- The RFC's last range is %x5D-10FFFF, of Unicode characters. Over bytes it is %x5D-FF: every byte of a character above 7F is above 7F.
-- So bytes that are not UTF-8 may stand here too: what refuses them is paper 01's number 10.
abbrev pub unescaped : Abnf Name
unescaped = 0x20 – 0x21 // 0x23 – 0x5B // 0x5D – 0xFF

abbrev pub char : Abnf Name
char = unescaped // escape · (x 0x22 // x 0x5C // x 0x2F // x 0x62 // x 0x66 // x 0x6E // x 0x72 // x 0x74 // x 0x75 · HEXDIG · HEXDIG · HEXDIG · HEXDIG)

abbrev pub string : Abnf Name
string = quotation-mark · ∗ char · quotation-mark

-- 3: value
abbrev pub object : Abnf Name
object = rule Object

abbrev pub array : Abnf Name
array = rule Array

abbrev pub value : Abnf Name
value = false // null // true // object // array // number // string

-- 4: object, member; 5: array
abbrev pub member : Abnf Name
member = string · name-separator · value

abbrev pub rules : Name → Abnf Name
rules Object = begin-object · opt (member · ∗ (value-separator · member)) · end-object
rules Array = begin-array · opt (value · ∗ (value-separator · value)) · end-array

-- 2: JSON-text = ws value ws
abbrev pub JSON-text : Abnf Name
JSON-text = ws · value · ws

-- ---- what paper 01 makes of it

-- the bytes of a JSON text with arrays and objects nested at most d deep, the outermost counting 1
abbrev pub JSON : ℕ → List ℕ → Type 0
JSON d s = Words rules d JSON-text s

-- Paper 01, "json": "one array or object with optional white space around"
abbrev pub container : Abnf Name
container = ws · (object // array) · ws

abbrev pub Container : ℕ → List ℕ → Type 0
Container d s = Words rules d container s
