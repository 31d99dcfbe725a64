-- IDs, and what reading one answers.
use Rattle.std.specs.Prelude.{ℕ, ◌-◌, List, ◌++◌, Bool, ◌&&◌, ◌||◌, cond, length, replicate, take, leb, eqb, Option, Some, None}
use Rattle.abnf.specs.Abnf.{Abnf, ◌–◌, ◌//◌, x, repeat}
use Rattle.abnf.specs.Accepts.{in_range}
use Rattle.text.specs.Bytes.{every}
use Rattle.text.specs.declared.Id.{Id}

-- Paper 01, "Topics": "An ID is 1 to 32 bytes [..] of `a`-`z`, `0`-`9`, `-`; a hyphen may stand first or last [..]."
abbrev pub id_most : ℕ
id_most = 32

unfoldable pub id_byte : ℕ → Bool
id_byte b = in_range 0x61 0x7A b || (in_range 0x30 0x39 b || eqb b 0x2D)

unfoldable pub is_id : List ℕ → Bool
is_id s = leb 1 (length s) && (leb (length s) id_most && every id_byte s)

-- the same as a grammar: 1*32( %x61-7A / %x30-39 / "-" )
abbrev pub ID : Abnf ⊥
ID = repeat 1 id_most (0x61 – 0x7A // 0x30 – 0x39 // x 0x2D)

-- an ID by value: its bytes, with zeros up to `id_most`
unfoldable pub id_of : List ℕ → Id
id_of s = record { bytes = s ++ replicate (id_most - length s) 0; len = length s }

-- the bytes of such a value
unfoldable pub id_bytes : Id → List ℕ
id_bytes i = take i.len i.bytes

-- reading answers the ID, where there is one
unfoldable pub read_id : List ℕ → Option Id
read_id s = cond (is_id s) (Some (id_of s)) None
