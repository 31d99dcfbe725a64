-- JSON's values (RFC 8259, 3 to 5), by index.
use Rattle.std.specs.Prelude.{ℕ, zero, suc, ◌+◌, List, [], ◌∷◌, Bool, true, false, ◌||◌, length, eqb, Err, Ok, Result}
use Rattle.json_text.specs.Bytes.{byte, ws, word, and_then}
use Rattle.json_text.specs.Number.{number_at}
use Rattle.json_text.specs.Strings.{string_at}

-- what a value's first byte announces
pub data Kind : Type 0 where
  bracket brace quote true_word false_word null_word other : Kind

abbrev pub pick : Bool → Kind → Kind → Kind
pick true a b = a
pick false a b = b

-- [ { " t f n
unfoldable pub kind_of : ℕ → Kind
kind_of b =
    pick (eqb b 91) bracket
    (pick (eqb b 123) brace
    (pick (eqb b 34) quote
    (pick (eqb b 116) true_word
    (pick (eqb b 102) false_word
    (pick (eqb b 110) null_word other)))))

-- after an item, `next` is what follows a comma
unfoldable pub after : (ℕ → Result ℕ ℕ) → ℕ → List ℕ → ℕ → Result ℕ ℕ
after next close s j = elim (eqb (byte s j) 44) [
  | true ↦ next (ws s (j + 1))
  | false ↦ elim (eqb (byte s j) close) [ true ↦ Ok (j + 1) | false ↦ Err j ]
]

-- items with commas between them, up to the closing byte. The first number counts down the items: the text's length is enough
unfoldable pub series : (ℕ → Result ℕ ℕ) → ℕ → List ℕ → ℕ → ℕ → Result ℕ ℕ
series item close s zero at = Err at
series item close s (suc f) at = and_then (item at) (λ e. after (λ i. series item close s f i) close s (ws s e))

-- no item, or a series
unfoldable pub list_of : (ℕ → Result ℕ ℕ) → ℕ → List ℕ → ℕ → Result ℕ ℕ
list_of item close s i = elim (eqb (byte s i) close) [ true ↦ Ok (i + 1) | false ↦ series item close s (length s) i ]

-- an array, its opening bracket at `at`; `v` reads a value within
unfoldable pub array_of : (ℕ → Result ℕ ℕ) → List ℕ → ℕ → Result ℕ ℕ
array_of v s at = list_of v 93 s (ws s (at + 1))

-- a colon: the index of the value after it
unfoldable pub colon : List ℕ → ℕ → Result ℕ ℕ
colon s j = elim (eqb (byte s j) 58) [ true ↦ Ok (ws s (j + 1)) | false ↦ Err j ]

-- a member's name and its colon: the index of its value
unfoldable pub key_at : List ℕ → ℕ → Result ℕ ℕ
key_at s at = and_then (string_at s at) (λ e. colon s (ws s e))

unfoldable pub member_of : (ℕ → Result ℕ ℕ) → List ℕ → ℕ → Result ℕ ℕ
member_of v s at = and_then (key_at s at) v

unfoldable pub object_of : (ℕ → Result ℕ ℕ) → List ℕ → ℕ → Result ℕ ℕ
object_of v s at = list_of (λ i. member_of v s i) 125 s (ws s (at + 1))

-- a value, by what its first byte announces; `a` and `o` read an array and an object
unfoldable pub value_of : Kind → (ℕ → Result ℕ ℕ) → (ℕ → Result ℕ ℕ) → List ℕ → ℕ → Result ℕ ℕ
value_of bracket a o s at = a at
value_of brace a o s at = o at
value_of quote a o s at = string_at s at
value_of true_word a o s at = word (116 ∷ 114 ∷ 117 ∷ 101 ∷ []) s at
value_of false_word a o s at = word (102 ∷ 97 ∷ 108 ∷ 115 ∷ 101 ∷ []) s at
value_of null_word a o s at = word (110 ∷ 117 ∷ 108 ∷ 108 ∷ []) s at
value_of other a o s at = number_at s at

-- a value with arrays and objects nested at most so deep. Paper 01, "json": "A value may be an array, and an array holds values"
unfoldable pub value_at : ℕ → List ℕ → ℕ → Result ℕ ℕ
value_at zero s at = value_of (kind_of (byte s at)) Err Err s at
value_at (suc d) s at =
    value_of (kind_of (byte s at)) (λ i. array_of (λ j. value_at d s j) s i) (λ i. object_of (λ j. value_at d s j) s i) s at

-- an array, or an object, whose values are nested at most so deep
unfoldable pub array_at : ℕ → List ℕ → ℕ → Result ℕ ℕ
array_at d s at = array_of (λ i. value_at d s i) s at

unfoldable pub object_at : ℕ → List ℕ → ℕ → Result ℕ ℕ
object_at d s at = object_of (λ i. value_at d s i) s at

-- nothing is left
unfoldable pub at_end : List ℕ → ℕ → Result ℕ ℕ
at_end s j = elim (eqb j (length s)) [ true ↦ Ok j | false ↦ Err j ]

-- a whole text (RFC 8259, 2): a value between white space. Paper 01: "nesting at most 16, the outermost counting 1"
unfoldable pub document_of : List ℕ → Result ℕ ℕ
document_of s = and_then (value_at 16 s (ws s 0)) (λ e. at_end s (ws s e))

-- Paper 01, "json": "one array or object with optional white space around"
unfoldable pub opens : ℕ → Bool
opens b = eqb b 91 || eqb b 123

unfoldable pub is_container : List ℕ → Bool
is_container s = elim (document_of s) [ Ok e ↦ opens (byte s (ws s 0)) | Err e ↦ false ]
