-- Paper 01, "Payloads of properties": formats.
use Rattle.std.specs.Prelude.{ℕ, List, [], Bool, true, ◌&&◌, cond, leb, eqb, length, Option, None, Some, option_map}
use Rattle.entries.specs.Entries.{entries_of, is_list, all_in}
use Rattle.ranges.specs.Ranges.{integer_range, float_range, is_some}
use Rattle.payload.specs.declared.Datatype.{Datatype}
use Rattle.payload.specs.declared.Datatype.TheVariants.{String, Integer, Float, Boolean, Enum, Color, Datetime, Duration, Json}
use Rattle.payload.specs.declared.Format.{Format}
use Rattle.payload.specs.declared.Format.TheVariants.{AsGiven, Colon, FalseTrue, NotKept}
use Rattle.text.specs.Ascii.{ascii}

-- "Formats, at most 64 bytes where kept"
abbrev pub format_most : ℕ
format_most = 64

abbrev pub is_short : List ℕ → Bool
is_short f = leb (length f) format_most

-- which formats are valid
unfoldable pub is_format : Datatype → List ℕ → Bool
unfolding integer_range float_range is_list all_in
-- "integer and float `[min]:[max][:step]`, ..; min not above max, step above 0"
is_format Integer f = is_short f && is_some (integer_range f)
is_format Float f = is_short f && is_some (float_range f)
-- "Enum (required): comma list, no empty entry, no repeats."
is_format Enum f = is_short f && is_list f
-- "Color (required): comma list of `rgb`, `hsv`, `xyz`, no repeats."
is_format Color f = is_short f && (is_list f && all_in (entries_of f) (entries_of (ascii "rgb,hsv,xyz")))
-- "Boolean: two different entries, not empty"
is_format Boolean f = is_short f && (is_list f && eqb (length (entries_of f)) 2)
-- "Formats of other types are not kept and may be any string."
is_format String f = true
is_format Datetime f = true
is_format Duration f = true
is_format Json f = true

-- what is kept of a valid format
unfoldable pub kept_of : Datatype → List ℕ → List ℕ
kept_of Integer f = f
kept_of Float f = f
kept_of Enum f = f
kept_of Color f = f
kept_of Boolean f = f
kept_of String f = []
kept_of Datetime f = []
kept_of Duration f = []
kept_of Json f = []

-- what is kept where there is none: "kept as `:` when missing"; "(required)"; "`false,true` when missing"
unfoldable pub when_missing : Datatype → Option (List ℕ)
when_missing Integer = Some (ascii ":")
when_missing Float = Some (ascii ":")
when_missing Enum = None
when_missing Color = None
when_missing Boolean = Some (ascii "false,true")
when_missing String = Some []
when_missing Datetime = Some []
when_missing Duration = Some []
when_missing Json = Some []

-- the kept format of a property that has one or none; none where it is not valid
unfoldable pub kept_format : Datatype → Option (List ℕ) → Option (List ℕ)
unfolding is_format kept_of when_missing
kept_format d None = when_missing d
kept_format d (Some f) = cond (is_format d f) (Some (kept_of d f)) None

-- the format that was asked about, if any was given
abbrev pub given_format : Bool → List ℕ → Option (List ℕ)
given_format given f = cond given (Some f) None

-- the bytes that are kept of the format f
abbrev pub kept_as : List ℕ → Format → List ℕ
kept_as f AsGiven = f
kept_as f Colon = ascii ":"
kept_as f FalseTrue = ascii "false,true"
kept_as f NotKept = []

-- what the answer of `judge_format` says: the bytes that the format f is kept as, where it is valid
abbrev pub kept_bytes : List ℕ → Option Format → Option (List ℕ)
kept_bytes f k = option_map (kept_as f) k
