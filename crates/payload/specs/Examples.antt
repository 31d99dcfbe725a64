-- Paper 01, "Known examples": those with a star.
use Prim.Native.String.{String}
use Rattle.std.specs.Prelude.{List, [], ◌∷◌, Bool, true, false, ◌&&◌}
use Rattle.std.specs.Bool.{beq}
use Rattle.text.specs.Ascii.{ascii}
use Rattle.text.specs.Ids.{is_id}
use Rattle.payload.specs.declared.Datatype.{Datatype}
use Rattle.payload.specs.declared.Datatype.TheVariants.{Integer, Float, Color, Datetime, Duration}
use Rattle.payload.specs.Payloads.{is_payload}

pub data Example : Type 0 where
  -- a datatype, a format, a payload, and whether it is valid
  payload : Datatype → String → String → Bool → Example
  -- a text, and whether it is an ID
  id : String → Bool → Example

abbrev pub examples : List Example
examples =
    payload Integer ":" "9223372036854775807" true
    ∷ payload Integer ":" "9223372036854775808" false
    ∷ payload Integer ":" "-" false
    ∷ payload Integer "2:6:2" "1" true
    ∷ payload Integer "2:6:2" "0" false
    ∷ payload Integer "2:6:2" "7" false
    ∷ payload Integer ":10:4" "12" false
    ∷ payload Float ":" "1." false
    ∷ payload Color "rgb,hsv,xyz" "rgb,0,255,1e2" true
    ∷ payload Color "rgb,hsv,xyz" "xyz,1.01,0" false
    ∷ payload Datetime "" "2023-02-29T00:00:00Z" false
    ∷ payload Duration "" "PT" false
    ∷ id "-a-" true
    ∷ []

abbrev pub holds : Example → Bool
holds (payload d f s b) = beq (is_payload d (ascii f) (ascii s)) b
holds (id s b) = beq (is_id (ascii s)) b

abbrev pub all : List Example → Bool
all [] = true
all (e ∷ es) = holds e && all es
