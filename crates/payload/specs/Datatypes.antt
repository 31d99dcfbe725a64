-- Paper 01, "The description": "`datatype` (required, one of the nine above)".
use Rattle.std.specs.Prelude.{ℕ, List, [], ◌∷◌, cond, get_or, Option, None, Some}
use Rattle.text.specs.Bytes.{eq_bytes}
use Rattle.payload.specs.declared.Datatype.{Datatype}
use Rattle.payload.specs.declared.Datatype.TheVariants.{String, Integer, Float, Boolean, Enum, Color, Datetime, Duration, Json}
use Rattle.text.specs.Ascii.{ascii}

abbrev pub datatypes : List Datatype
datatypes = String ∷ Integer ∷ Float ∷ Boolean ∷ Enum ∷ Color ∷ Datetime ∷ Duration ∷ Json ∷ []

abbrev pub name_of : Datatype → List ℕ
name_of String = ascii "string"
name_of Integer = ascii "integer"
name_of Float = ascii "float"
name_of Boolean = ascii "boolean"
name_of Enum = ascii "enum"
name_of Color = ascii "color"
name_of Datetime = ascii "datetime"
name_of Duration = ascii "duration"
name_of Json = ascii "json"

-- the datatype of a name
abbrev pub named_in : List Datatype → List ℕ → Option Datatype
named_in [] s = None
named_in (d ∷ ds) s = cond (eq_bytes s (name_of d)) (Some d) (named_in ds s)

unfoldable pub datatype_named : List ℕ → Option Datatype
datatype_named s = named_in datatypes s

-- its place among the nine, for memory; a number past the last is the last
unfoldable pub code_of : Datatype → ℕ
code_of String = 0
code_of Integer = 1
code_of Float = 2
code_of Boolean = 3
code_of Enum = 4
code_of Color = 5
code_of Datetime = 6
code_of Duration = 7
code_of Json = 8

unfoldable pub datatype_at : ℕ → Datatype
datatype_at n = get_or datatypes n Json
