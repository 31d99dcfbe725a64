-- The values of a JSON text by what they hold. The whole text is judged as JSON before, so that a value's first byte tells its kind.
use Rattle.std.specs.Prelude.{ℕ, suc, ◌+◌, ◌≡◌, List, [], Bool, true, false, ◌||◌, length, eqb, Err, Ok, Result}
use Rattle.json_text.specs.Bytes.{byte}
use Rattle.json_text.specs.Strings.{raw_bytes}
use Rattle.json_text.specs.Number.{is_digit}
use Rattle.json_text.specs.Value.{value_at}
use Rattle.json_text.specs.Members.{Member, members_at, elements_at}
use Rattle.text.specs.Bytes.{slice}
use Rattle.escapes.specs.Decode.{Decoded, whole, half, decode, bytes_of, is_this, filled}

-- the bytes of the value at k
unfoldable pub value_bytes : List ℕ → ℕ → List ℕ
value_bytes s k = elim (value_at 16 s k) [ Ok e ↦ slice s k e | Err e ↦ [] ]

-- Paper 02, K4: "decoded by RFC 8259 before any rule is applied, surrogate pairs included": what the string at k writes; `raw_bytes s k` is what stands between its
-- quotes, nothing where no string stands there
unfoldable pub decoded_at : List ℕ → ℕ → Decoded
decoded_at s k = decode (raw_bytes s k)

-- its bytes; none with half a surrogate pair: no string of a valid description that is decoded has one
unfoldable pub string_bytes : List ℕ → ℕ → List ℕ
string_bytes s k = bytes_of (decoded_at s k)

unfoldable pub is_string_at : List ℕ → ℕ → Bool
is_string_at s k = eqb (byte s k) 34

unfoldable pub is_object : List ℕ → ℕ → Bool
is_object s k = eqb (byte s k) 123

unfoldable pub is_array : List ℕ → ℕ → Bool
is_array s k = eqb (byte s k) 91

-- `true`
unfoldable pub is_true : List ℕ → ℕ → Bool
is_true s k = eqb (byte s k) 116

-- a number begins with a minus or a digit
unfoldable pub is_number_at : List ℕ → ℕ → Bool
is_number_at s k = eqb (byte s k) 45 || is_digit (byte s k)

-- `true` or `false`
unfoldable pub is_flag : List ℕ → ℕ → Bool
is_flag s k = is_true s k || eqb (byte s k) 102

-- the members of the object at k, and the elements of the array at k, in the text's order; none where there is no object or array
unfoldable pub members : List ℕ → ℕ → List Member
members s k = elim (is_object s k) [ true ↦ members_at s k | false ↦ [] ]

unfoldable pub elements : List ℕ → ℕ → List Member
elements s k = elim (is_array s k) [ true ↦ elements_at s k | false ↦ [] ]

-- a member has that name. With half a surrogate pair it has none that is asked for
unfoldable pub is_named : List ℕ → List ℕ → Member → Bool
is_named s name m = is_this name (decoded_at s m.name)

unfoldable pub name_of : List ℕ → Member → List ℕ
name_of s m = string_bytes s m.name

-- ---- a string decoded into a buffer

-- the length of the string at k, or the place in the text of its first half pair
unfoldable pub decoding_at : ℕ → Decoded → Result ℕ ℕ
decoding_at k (whole t) = Ok (length t)
decoding_at k (half p) = Err (suc k + p)

-- what is answered, and the buffer: with half a pair it is as it was
pub record DecodesAt (s : List ℕ) (k : ℕ) (before after : List ℕ) (r : Result ℕ ℕ) : Type 0 where
  pub answer : r ≡ decoding_at k (decoded_at s k)
  pub buffer : after ≡ filled (string_bytes s k) before
