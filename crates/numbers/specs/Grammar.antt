-- The texts of numbers, as grammars.
use Rattle.abnf.specs.Abnf.{Abnf, ◌–◌, ◌·◌, ◌//◌, x, opt, some, repeat}

abbrev pub DIGIT : Abnf ⊥
DIGIT = 0x30 – 0x39

-- Paper 01, "Payloads of properties": "integer: optional `-`, then digits, leading zeros allowed"
abbrev pub integer-text : Abnf ⊥
integer-text = opt (x 0x2D) · some DIGIT

-- "float: optional `-`, digits, optionally `.` and digits, optionally `e` or `E`, optional `-` and 1 to 3 digits",
-- "at least one digit on each side of a dot"
abbrev pub float-text : Abnf ⊥
float-text = opt (x 0x2D) · some DIGIT · opt (x 0x2E · some DIGIT) · opt ((x 0x65 // x 0x45) · opt (x 0x2D) · repeat 1 3 DIGIT)

-- Paper 02, K7: "no exponent and at most nine whole digits and nine after a dot", as they are written
abbrev pub fixed-text : Abnf ⊥
fixed-text = opt (x 0x2D) · repeat 1 9 DIGIT · opt (x 0x2E · repeat 1 9 DIGIT)
