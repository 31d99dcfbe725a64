-- Paper 01, "Payloads of properties": which payloads are valid.
use Rattle.std.specs.Prelude.{ℕ, List, [], ◌∷◌, Bool, true, false, ◌&&◌, ◌||◌, cond, leb, length, Option, None, Some}
use Rattle.text.specs.Bytes.{eq_bytes}
use Rattle.text.specs.Utf8.{is_utf8}
use Rattle.json_text.specs.Value.{is_container}
use Rattle.times.specs.Datetime.{is_datetime}
use Rattle.times.specs.Duration.{is_duration}
use Rattle.entries.specs.Entries.{entries_of, is_in}
use Rattle.ranges.specs.Ranges.{is_integer, is_float}
use Rattle.payload.specs.declared.Datatype.{Datatype}
use Rattle.payload.specs.declared.Datatype.TheVariants.{String, Integer, Float, Boolean, Enum, Color, Datetime, Duration, Json}
use Rattle.text.specs.Ascii.{ascii}
use Rattle.payload.specs.Colors.{is_color}
use Rattle.payload.specs.Formats.{is_format, kept_format}

-- "json: one array or object with optional white space around." A JSON text is UTF-8 (RFC 8259, section 8.1).
unfoldable pub is_json : List ℕ → Bool
is_json s = is_utf8 s && is_container s

-- each datatype's rule
unfoldable pub is_of : Datatype → List ℕ → List ℕ → Bool
is_of String f s = is_utf8 s
is_of Integer f s = is_integer f s
is_of Float f s = is_float f s
-- the format of a boolean: "it doesn't alter what is valid"
is_of Boolean f s = eq_bytes s (ascii "true") || eq_bytes s (ascii "false")
is_of Enum f s = is_in s (entries_of f)
is_of Color f s = is_color f s
is_of Datetime f s = is_datetime s
is_of Duration f s = is_duration s
is_of Json f s = is_json s

-- "The single byte 0 means the empty string; it is valid for strings only."
abbrev pub is_string : Datatype → Bool
is_string String = true
is_string Integer = false
is_string Float = false
is_string Boolean = false
is_string Enum = false
is_string Color = false
is_string Datetime = false
is_string Duration = false
is_string Json = false

unfoldable pub may_be : Datatype → List ℕ → Bool
may_be d s = cond (eq_bytes s (0 ∷ [])) (is_string d) true

-- "At most 48 bytes (ours), never empty." The format must itself be valid for the datatype.
abbrev pub payload_most : ℕ
payload_most = 48

unfoldable pub is_payload : Datatype → List ℕ → List ℕ → Bool
unfolding is_format is_of may_be
is_payload d f s = leb 1 (length s) && (leb (length s) payload_most && (may_be d s && (is_format d f && is_of d f s)))

unfoldable pub is_payload_under : Datatype → Option (List ℕ) → List ℕ → Bool
is_payload_under d None s = false
is_payload_under d (Some kept) s = is_payload d kept s

-- A payload of a property with this format, or with none: judged by the kept format. There is none where the given one is not valid, or where one is
-- required and missing; then no payload is valid (ours: no such property can be declared).
unfoldable pub is_payload_of : Datatype → Option (List ℕ) → List ℕ → Bool
is_payload_of d format s = is_payload_under d (kept_format d format) s
