-- A string of a description's text, decoded (paper 02, K4): what is shown of it, and what a lent buffer is then.
use Rattle.std.specs.Prelude.{ℕ, suc, ◌+◌, min, ◌≡◌, List, [], ◌∷◌, true, false, length, leb, Err, Ok, Result}
use Rattle.answer.specs.Answer.{Answer, refused, gives, placed}
use Rattle.json_text.specs.Strings.{string_at}
use Rattle.escapes.specs.Decode.{Decoded, whole, half, filled}
use Rattle.fields.specs.Values.{decoded_at}
use Rattle.reply.specs.Reply.{Reply, says, refuses, refusal_code, Replied}

-- "Half a surrogate pair in such a string is 25, told at its backslash": the string at k, or the first half pair, p bytes behind the opening quote's next
unfoldable pub said_at : ℕ → Decoded → Answer (List ℕ)
said_at k (whole t) = gives t
said_at k (half p) = refused (placed 25 (suc k + p))

-- 22, "wrong JSON kind", where no string begins at k and ends: told at k, or at the text's end where k is past it
unfoldable pub string_from : List ℕ → ℕ → Result ℕ ℕ → Answer (List ℕ)
string_from s k (Ok e) = said_at k (decoded_at s k)
string_from s k (Err e) = refused (placed 22 (min k (length s)))

-- the bytes of the string whose opening quote stands at k; 21 at 8,192 for a text that is longer
unfoldable pub string_in : List ℕ → ℕ → Answer (List ℕ)
string_in s k = elim (leb (length s) 8192) [ true ↦ string_from s k (string_at s k) | false ↦ refused (placed 21 8192) ]

-- their number is shown
unfoldable pub show_string : Answer (List ℕ) → Reply
show_string (gives t) = says (length t ∷ [])
show_string (refused r) = refuses (refusal_code r)

-- a lent buffer: the bytes are at its front where all of them fit; else, and with a refusal, it is as it was
unfoldable pub copied : Answer (List ℕ) → List ℕ → List ℕ
copied (gives t) buffer = filled t buffer
copied (refused r) buffer = buffer

-- the reply, and the buffer
pub record StringTold (x : Answer (List ℕ)) (out buffer : List ℕ) (r : ℕ) (out' buffer' : List ℕ) : Type 0 where
  pub reply : Replied (show_string x) out r out'
  pub lent : buffer' ≡ copied x buffer
