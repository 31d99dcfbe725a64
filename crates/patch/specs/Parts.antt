-- What the contracts of the private functions cite.
use Rattle.std.specs.Prelude.{ℕ, List, ◌∷◌, length}

-- a byte string as it stands in a room: a length byte, then the bytes
unfoldable pub text_bytes : List ℕ → List ℕ
text_bytes t = length t ∷ t
